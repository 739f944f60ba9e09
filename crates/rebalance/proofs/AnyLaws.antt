-- From the store's calls and from balancing to the calls for any ropes.
use Rattle.std.proofs.Common.{◌≡◌, false, ℕ, ◌+◌, ◌*◌, ◌<◌, ◌≤◌, true, ◌⊎◌, inl, inr, ⊎_elim, max, List, length, Option, Some, None, Result, Ok, Err, refl, sym, ap, subst, ◌∙◌, arith}
use Rattle.std.specs.Prelude.{IfOk, IfErr, OnErr, IsErrOf, IsTrue}
use Rattle.std.proofs.lemmas.Bool.{cases_lt}
use Rattle.rope_node.specs.declared.node.NodeId.{NodeId}
use Rattle.rope_node.specs.Table.{Table, depth_at, IsSound, HasTrueRecords}
use Rattle.rope_node.specs.Denotes.{Cell, rope_cells, rope_len, rope_depth, IsRope}
use Rattle.rope_node.specs.Balance.{fibonacci}
use Rattle.rope_node.specs.Extends.{Extends}
use Rattle.rope_node.proofs.Extensions.{depth_kept}
use Rattle.rope_node.proofs.Ropes.{extends_itself, rope_cells_kept, rope_kept, rope_length}
use Rattle.node_table.specs.declared.fault.NodeFault.{NodeFault}
use Rattle.node_table.specs.declared.fault.NodeFault.TheVariants.{TooLong, TooDeep, TableFull, PoolFull, BadSpan, TooManySources, Memory}
use Rattle.node_table.specs.Held.{Held, table_of, KeepsFunctions}
use Rattle.rope_store.specs.Additions.{Addition, Makes}
use Rattle.rope_store.specs.Refusals.{Refuses, IsTooDeep, PassesPoolLimit}
use Rattle.rope_store.proofs.CallSizes.{IsFew}
use Rattle.rebalance.specs.declared.fault.BalanceFault.{BalanceFault}
use Rattle.rebalance.specs.declared.fault.BalanceFault.TheVariants.{TooManyPieces, Node}
use Rattle.rebalance.specs.AnyForms.{AnyForm, Anew, Growth, IsAnewFault, IsFullFor, lifted, part_growth}
use Rattle.rebalance.specs.Balancing.{IsLeftFull, IsNearlyBalanced, IsRoughlyBalanced, Rebuilds}
use Rattle.rebalance.specs.Pieces.{kept_pieces}
use Rattle.rebalance.specs.declared.pieces.TheConstants.{MOST_PIECES}
use Rattle.rebalance.specs.Steps.{IsFullAt, IsStepFault, Grows}
use Rattle.rebalance.proofs.FullStores.{left_within, refused_full}
use Rattle.rebalance.proofs.Fibonacci.{fibonacci_below, fibonacci_up, sixtieth}
use Rattle.rebalance.proofs.PieceCounts.{all_pieces_kept}
use Rattle.rebalance.proofs.StepLaws.{functions_itself, grows_through, grows_within}
use Rattle.rebalance.proofs.StoreCalls.{made_grows, refused_fault}

abbrev fault_in : {A : Type 0} → Result A BalanceFault → NodeFault
fault_in (Ok a) = Memory
fault_in (Err TooManyPieces) = Memory
fault_in (Err (Node e)) = e

-- a lifted refusal is the store's
pub lifted_err : {A : Type 0} (plain : Result A NodeFault) (e : NodeFault) → IsErrOf (lifted plain) (Node e) → IsErrOf plain e
lifted_err (Ok a) e is = absurd cc
lifted_err (Err k) e is = ap (λ (f : NodeFault). Err f) (ap fault_in is)

pub lifted_back : {A : Type 0} (plain : Result A NodeFault) (e : NodeFault) → IsErrOf plain e → IsErrOf (lifted plain) (Node e)
lifted_back (Ok a) e is = absurd cc
lifted_back (Err k) e is = cc

pub lifted_many : {A : Type 0} (plain : Result A NodeFault) → ¬ IsErrOf (lifted plain) TooManyPieces
lifted_many (Ok a) is = cc
lifted_many (Err k) is = cc

pub lifted_ok : {A : Type 0} (P : A → Type 0) (plain : Result A NodeFault) → IfOk plain P → IfOk (lifted plain) P
lifted_ok P (Ok a) h = h
lifted_ok P (Err k) h = tt

lifted_fault : {A : Type 0} (plain : Result A NodeFault) (nodes bytes : ℕ) → IfErr plain (IsStepFault nodes bytes) → IfErr (lifted plain) (IsAnewFault nodes bytes)
lifted_fault (Ok a) nodes bytes h = tt
lifted_fault (Err k) nodes bytes h = h

abbrev pub growth : ℕ → ℕ → ℕ → ℕ → Growth
growth p q more bytes = record { left_pieces = p; right_pieces = q; nodes = more; bytes = bytes }

lifted_full : {F : Type 0} {A : Type 0} (h : Held F) (plain : Result A NodeFault) (nodes bytes : ℕ) → IfErr plain (IsFullAt h nodes bytes) → IfErr (lifted plain) (IsLeftFull h nodes bytes)
lifted_full h (Ok a) nodes bytes full = tt
lifted_full h (Err k) nodes bytes full = full

-- the plain call is one step
plain_full : {F : Type 0} {meaning : F → ℕ → ℕ} {old new : Held F} {a : Addition F} {wanted : List Cell} {IsLong : Type 0} (p q more bytes : ℕ) (plain : Result (Option NodeId) NodeFault) → (¬ IsLong → IsFew a more bytes) → (¬ IsLong → PassesPoolLimit old a → 1 ≤ length a.records)
    → Makes meaning old a wanted plain new → Refuses old a ⊥ IsLong plain → IfErr (lifted plain) (IsFullFor (growth p q more bytes) new)
plain_full {new = new} p q more bytes plain few some made refuses =
    lifted_full new plain more (max 31 bytes)
    (refused_full plain more (max 31 bytes) made refuses (λ short. let size = few short in record { records = size.records; bytes_added = omega (arith, size.bytes_added) }) some)

-- what the plain call adds at most
any_grows : {F : Type 0} {meaning : F → ℕ → ℕ} {old new : Held F} {a : Addition F} {wanted : List Cell} {IsLong : Type 0} (p q more bytes : ℕ) (plain : Result (Option NodeId) NodeFault) → (¬ IsLong → IsFew a more bytes) → Makes meaning old a wanted plain new → Refuses old a ⊥ IsLong plain
    → Grows meaning old (length old.nodes + (2 * p + 2 * q + more)) (length old.pool.bytes + (31 * p + 31 * q + bytes)) new
any_grows {old = old} p q more bytes (Ok rope) few made refuses =
    let size = few (λ long. let bad = refuses.too_long.1 ((λ bad. bad), long) in absurd cc) in
    made_grows (Ok rope) (length old.nodes + (2 * p + 2 * q + more)) (length old.pool.bytes + (31 * p + 31 * q + bytes)) made (omega (arith, size.records)) (omega (arith, size.bytes_added))
any_grows {F = F} {old = old} p q more bytes (Err e) few made refuses =
    let same_nodes = ap (λ (h : Held F). length h.nodes) made.unchanged in
    let same_bytes = ap (λ (h : Held F). length h.pool.bytes) made.unchanged in
    record {
      kept = made.kept;
      sources = ap (λ (h : Held F). h.sources) made.unchanged;
      functions = subst (λ (h : Held F). KeepsFunctions old h) (sym made.unchanged) (functions_itself old);
      few_nodes = omega (arith, same_nodes);
      few_bytes = omega (arith, same_bytes);
    }

-- the plain call does it
pub any_plain_if : {F : Type 0} (meaning : F → ℕ → ℕ) (old new : Held F) (a : Addition F) (wanted : List Cell) (IsLong : Type 0) (p q more bytes : ℕ) (plain : Result (Option NodeId) NodeFault) → (¬ IsLong → IsFew a more bytes) → (¬ IsLong → PassesPoolLimit old a → 1 ≤ length a.records) → Makes meaning old a wanted plain new → Refuses old a ⊥ IsLong plain → ¬ IsErrOf plain TooDeep
    → AnyForm meaning old a wanted IsLong (growth p q more bytes) (lifted plain) new
any_plain_if meaning old new a wanted IsLong p q more bytes plain few some made refuses shallow = record {
  gives = record {
    is_rope = lifted_ok (λ r. IsRope (table_of meaning new) r) plain made.is_rope;
    text = lifted_ok (λ r. rope_cells (table_of meaning new) r ≡ wanted) plain made.text;
    grows = any_grows p q more bytes plain few made refuses;
  };
  as_plain = λ _. record { plain = plain; same = refl; makes = made; refuses = refuses };
  too_long = (λ e. (refuses.too_long.0 (lifted_err plain TooLong e)).1, λ long. lifted_back plain TooLong (refuses.too_long.1 ((λ bad. bad), long)));
  anew = λ deep short. absurd (shallow (refuses.too_deep.1 ((λ bad. bad), short, deep)));
  too_many = λ e. absurd (lifted_many plain e);
  table_full = λ e.
      let full = refuses.table_full.0 (lifted_err plain TableFull e) in
      let size = few full.1 in
      omega (arith, full.3, size.records);
  pool_full = λ e.
      let full = refuses.pool_full.0 (lifted_err plain PoolFull e) in
      let size = few full.1 in
      omega (arith, full.4, size.bytes_added);
  full = plain_full p q more bytes plain few some made refuses;
  not_deep = λ e. shallow (lifted_err plain TooDeep e);
  no_bad_span = λ e. refuses.bad_span.0 (lifted_err plain BadSpan e);
  no_source = λ e. refuses.no_other (lifted_err plain TooManySources e);
}

pub any_plain : {F : Type 0} (meaning : F → ℕ → ℕ) (old new : Held F) (a : Addition F) (wanted : List Cell) (IsLong : Type 0) (p q more bytes : ℕ) (plain : Result (Option NodeId) NodeFault) → IsFew a more bytes → (PassesPoolLimit old a → 1 ≤ length a.records) → Makes meaning old a wanted plain new → Refuses old a ⊥ IsLong plain → ¬ IsErrOf plain TooDeep
    → AnyForm meaning old a wanted IsLong (growth p q more bytes) (lifted plain) new
any_plain meaning old new a wanted IsLong p q more bytes plain few some made refuses shallow = any_plain_if meaning old new a wanted IsLong p q more bytes plain (λ _. few) (λ _. some) made refuses shallow

anew_fault : {A : Type 0} (result : Result A BalanceFault) (nodes bytes : ℕ) (e : BalanceFault) → IfErr result (IsAnewFault nodes bytes) → IsErrOf result e → IsAnewFault nodes bytes e
anew_fault {A = A} result nodes bytes e h is = subst (λ (r : Result A BalanceFault). IfErr r (IsAnewFault nodes bytes)) is h

-- a nearly balanced rope is roughly balanced
pub nearly_roughly : (t : Table) (rope : Option NodeId) → IsNearlyBalanced t rope → IsRoughlyBalanced t rope
unfolding fibonacci
nearly_roughly t None near = omega arith
nearly_roughly t (Some id) near =
    let up = fibonacci_up (depth_at t id.0) (depth_at t id.0 + 1) (omega arith) in
    omega (arith, up, near)

-- the call does it once the ropes are balanced
pub any_anew : {F : Type 0} (meaning : F → ℕ → ℕ) (old new : Held F) (a : Addition F) (wanted : List Cell) (IsLong : Type 0) (p q more bytes : ℕ) (result : Result (Option NodeId) BalanceFault) → ¬ IsLong → IsTooDeep a → Anew meaning old wanted (growth p q more bytes) result new
    → AnyForm meaning old a wanted IsLong (growth p q more bytes) result new
any_anew meaning old new a wanted IsLong p q more bytes result short deep anew = record {
  gives = anew.gives;
  as_plain = λ k. absurd (⊎_elim (λ shallow. shallow deep) short k);
  anew = λ _ _. anew;
  too_long = (λ e. absurd (anew_fault result _ _ (Node TooLong) anew.fault e), λ long. absurd (short long));
  too_many = λ e. (deep, short);
  table_full = anew_fault result _ _ (Node TableFull) anew.fault;
  pool_full = anew_fault result _ _ (Node PoolFull) anew.fault;
  full = anew.full;
  not_deep = anew_fault result _ _ (Node TooDeep) anew.fault;
  no_bad_span = anew_fault result _ _ (Node BadSpan) anew.fault;
  no_source = anew_fault result _ _ (Node TooManySources) anew.fault;
}

-- a rope that is nearly balanced is far from too deep
pub nearly_shallow : (t : Table) → IsSound t → (rope : Option NodeId) → IsRope t rope → IsNearlyBalanced t rope → rope_depth t rope ≤ 63
nearly_shallow t s None there near = omega arith
nearly_shallow t s (Some id) there near =
    let short = (s.nodes id.0 there).not_long in
    let below = fibonacci_below (depth_at t id.0 + 1) 60 (omega (arith, near, short, sixtieth)) in
    omega (arith, below)

-- and one that is roughly balanced leaves room for five levels
pub roughly_shallow : (t : Table) → IsSound t → (rope : Option NodeId) → IsRope t rope → IsRoughlyBalanced t rope → rope_depth t rope ≤ 59
roughly_shallow t s None there rough = omega arith
roughly_shallow t s (Some id) there rough =
    let short = (s.nodes id.0 there).not_long in
    let below = fibonacci_below (depth_at t id.0) 60 (omega (arith, rough, short, sixtieth)) in
    omega (arith, below)

pub rope_depth_kept : (old new : Table) → Extends old new → (rope : Option NodeId) → IsRope old rope → rope_depth new rope ≡ rope_depth old rope
rope_depth_kept old new x None there = refl
rope_depth_kept old new x (Some id) there = depth_kept old new x id.0 there

-- balancing as a step
pub rebuilt_grows : {F : Type 0} {meaning : F → ℕ → ℕ} {old new : Held F} {wanted : List Cell} {p : ℕ} {result : Result (Option NodeId) BalanceFault} → Rebuilds meaning old wanted p result new → Grows meaning old (length old.nodes + 2 * p) (length old.pool.bytes + 31 * p) new
rebuilt_grows r = record { kept = r.kept; sources = r.sources; functions = r.functions; few_nodes = r.few_nodes; few_bytes = r.few_bytes }

rebuilt_fault : {F : Type 0} {meaning : F → ℕ → ℕ} {old new : Held F} {wanted : List Cell} {p : ℕ} (e : BalanceFault) (nodes bytes : ℕ) → Rebuilds meaning old wanted p (Err e) new → length old.nodes + 2 * p ≤ nodes → length old.pool.bytes + 31 * p ≤ bytes → IsAnewFault nodes bytes e
rebuilt_fault TooManyPieces nodes bytes r n b = tt
rebuilt_fault (Node TooLong) nodes bytes r n b = absurd (r.not_long refl)
rebuilt_fault (Node TooDeep) nodes bytes r n b = absurd (r.not_deep refl)
rebuilt_fault (Node TableFull) nodes bytes r n b = let full = r.table_full refl in omega (arith, full, n)
rebuilt_fault (Node PoolFull) nodes bytes r n b = let full = r.pool_full refl in omega (arith, full, b)
rebuilt_fault (Node BadSpan) nodes bytes r n b = absurd (r.no_bad_span refl)
rebuilt_fault (Node TooManySources) nodes bytes r n b = absurd (r.no_source refl)
rebuilt_fault (Node Memory) nodes bytes r n b = tt

-- a step of balancing wants a node and the bytes of a short literal
rebuilt_full : {F : Type 0} {meaning : F → ℕ → ℕ} {old new : Held F} {cs : List Cell} {p : ℕ} (l q more bytes : ℕ) (e : BalanceFault) → 1 ≤ more → Rebuilds meaning old cs p (Err e) new → IsFullFor (growth l q more bytes) new e
rebuilt_full {new = new} l q more bytes e some r = left_within new 1 31 more (max 31 bytes) e some (omega arith) r.full

-- what was put together has few pieces
pub few_pieces : {F : Type 0} {meaning : F → ℕ → ℕ} {old new : Held F} {wanted : List Cell} {p : ℕ} {balanced : Option NodeId} → Rebuilds meaning old wanted p (Ok balanced) new → ¬ (MOST_PIECES < p)
few_pieces r many = let is = r.too_many.1 many in absurd cc

-- one of them goes through too many pieces
pub many_anew : {F : Type 0} (meaning : F → ℕ → ℕ) (old : Held F) (wanted : List Cell) (p q more bytes : ℕ) → ¬ ((p ≤ MOST_PIECES) × (q ≤ MOST_PIECES)) → Anew meaning old wanted (growth p q more bytes) (Err TooManyPieces) old
many_anew meaning old wanted p q more bytes not_few = record {
  gives = record {
    is_rope = tt;
    text = tt;
    grows = record { kept = extends_itself (table_of meaning old); sources = refl; functions = functions_itself old; few_nodes = omega arith; few_bytes = omega arith };
  };
  shallow = tt;
  too_many = (
    λ _. ⊎_elim (λ (few : p ≤ MOST_PIECES). inr (⊎_elim (λ (more : q ≤ MOST_PIECES). absurd (not_few (few, more))) (λ (many : MOST_PIECES < q). many) (cases_le q MOST_PIECES)))
        (λ (many : MOST_PIECES < p). inl many) (cases_le p MOST_PIECES),
    λ _. refl,
  );
  unchanged = λ _. refl;
  fault = tt;
  full = tt;
}
  where
    cases_le : (m n : ℕ) → (m ≤ n) ⊎ (n < m)
    cases_le m n = ⊎_elim (λ (over : n < m). inr over) (λ (few : m ≤ n). inl few) (cases_lt n m)

-- the first rope is refused, though neither goes through too many pieces
pub first_refused : {F : Type 0} (meaning : F → ℕ → ℕ) (old new : Held F) (wanted cs : List Cell) (p q more bytes : ℕ) (e : BalanceFault) → 1 ≤ more → p ≤ MOST_PIECES → q ≤ MOST_PIECES → Rebuilds meaning old cs p (Err e) new → Anew meaning old wanted (growth p q more bytes) (Err e) new
first_refused meaning old new wanted cs p q more bytes e some few_p few_q r = record {
  gives = record {
    is_rope = tt;
    text = tt;
    grows = grows_within (rebuilt_grows r) (omega arith) (omega arith);
  };
  shallow = tt;
  too_many = (λ many. absurd (omega (arith, few_p, r.too_many.0 many)), ⊎_elim (λ (many : MOST_PIECES < p). absurd (omega (arith, many, few_p))) (λ (many : MOST_PIECES < q). absurd (omega (arith, many, few_q))));
  unchanged = r.unchanged;
  fault = rebuilt_fault e _ _ r (omega arith) (omega arith);
  full = rebuilt_full p q more bytes e some r;
}

-- the only rope is refused
pub rebuilt_refused : {F : Type 0} (meaning : F → ℕ → ℕ) (old new : Held F) (wanted cs : List Cell) (p more bytes : ℕ) (e : BalanceFault) → 1 ≤ more → Rebuilds meaning old cs p (Err e) new → Anew meaning old wanted (growth p 0 more bytes) (Err e) new
rebuilt_refused meaning old new wanted cs p more bytes e some r = record {
  gives = record {
    is_rope = tt;
    text = tt;
    grows = grows_within (rebuilt_grows r) (omega arith) (omega arith);
  };
  shallow = tt;
  too_many = (λ many. inl (r.too_many.0 many), ⊎_elim (λ (many : MOST_PIECES < p). r.too_many.1 many) (λ (many : MOST_PIECES < 0). absurd (omega (arith, many))));
  unchanged = r.unchanged;
  fault = rebuilt_fault e _ _ r (omega arith) (omega arith);
  full = rebuilt_full p 0 more bytes e some r;
}

-- what is wanted is put together alone
pub rebuilt_anew : {F : Type 0} (meaning : F → ℕ → ℕ) (old new : Held F) (wanted : List Cell) (p : ℕ) (result : Result (Option NodeId) BalanceFault) → Rebuilds meaning old wanted p result new → Anew meaning old wanted (part_growth p) result new
rebuilt_anew meaning old new wanted p (Err e) r = rebuilt_refused meaning old new wanted wanted p 1 0 e (omega arith) r
rebuilt_anew meaning old new wanted p (Ok rope) r = record {
  gives = record {
    is_rope = r.is_rope;
    text = r.text;
    grows = grows_within (rebuilt_grows r) (omega arith) (omega arith);
  };
  shallow = nearly_roughly (table_of meaning new) rope r.shallow;
  too_many = (λ many. absurd cc, ⊎_elim (λ (many : MOST_PIECES < p). absurd (few_pieces r many)) (λ (many : MOST_PIECES < 0). absurd (omega (arith, many))));
  unchanged = λ many. absurd cc;
  fault = tt;
  full = tt;
}

-- the second rope is refused
pub second_refused : {F : Type 0} (meaning : F → ℕ → ℕ) (old mid new : Held F) (wanted cs ds : List Cell) (p : ℕ) (r left : Option NodeId) (more bytes : ℕ) (e : BalanceFault) → 1 ≤ more → IsSound (table_of meaning old) → IsRope (table_of meaning old) r → kept_pieces (table_of meaning old) r ≤ MOST_PIECES → Rebuilds meaning old cs p (Ok left) mid → Rebuilds meaning mid ds (kept_pieces (table_of meaning mid) r) (Err e) new
    → Anew meaning old wanted (growth p (kept_pieces (table_of meaning old) r) more bytes) (Err e) new
second_refused meaning old mid new wanted cs ds p r left more bytes e some s there few first second =
    let t = table_of meaning old in
    let same = all_pieces_kept true t (table_of meaning mid) s first.kept r there in
    record {
      gives = record {
        is_rope = tt;
        text = tt;
        grows = grows_through (rebuilt_grows first) (rebuilt_grows second) (omega (arith, second.few_nodes, first.few_nodes, same)) (omega (arith, second.few_bytes, first.few_bytes, same));
      };
      shallow = tt;
      too_many = (
        λ many. absurd (omega (arith, few, same, second.too_many.0 many)),
        ⊎_elim (λ (many : MOST_PIECES < p). absurd (few_pieces first many)) (λ (many : MOST_PIECES < kept_pieces t r). absurd (omega (arith, many, few))),
      );
      unchanged = λ many. absurd (omega (arith, few, same, second.too_many.0 many));
      fault = rebuilt_fault e _ _ second (omega (arith, first.few_nodes, same)) (omega (arith, first.few_bytes, same));
      full = rebuilt_full p (kept_pieces t r) more bytes e some second;
    }

-- the call behind the balancing
pub called_anew : {F : Type 0} (meaning : F → ℕ → ℕ) (old mid new : Held F) (a : Addition F) (wanted cs : List Cell) (IsLong : Type 0) (p q more bytes : ℕ) (plain : Result (Option NodeId) NodeFault) → Grows meaning old (length old.nodes + (2 * p + 2 * q)) (length old.pool.bytes + (31 * p + 31 * q)) mid → ¬ (MOST_PIECES < p) → ¬ (MOST_PIECES < q)
    → IsFew a more bytes → (PassesPoolLimit mid a → 1 ≤ length a.records) → ¬ IsTooDeep a → ¬ IsLong → Makes meaning mid a cs plain new → Refuses mid a ⊥ IsLong plain → cs ≡ wanted → IfOk plain (λ r. IsRoughlyBalanced (table_of meaning new) r) → Anew meaning old wanted (growth p q more bytes) (lifted plain) new
called_anew {F = F} meaning old mid new a wanted cs IsLong p q more bytes plain grows few_p few_q few some shallow short made refuses text rough =
    let nodes = length old.nodes + (2 * p + 2 * q + more) in
    let most = length old.pool.bytes + (31 * p + 31 * q + bytes) in
    let n : length mid.nodes + length a.records ≤ nodes = omega (arith, grows.few_nodes, few.records) in
    let b : length mid.pool.bytes + length a.bytes ≤ most = omega (arith, grows.few_bytes, few.bytes_added) in
    let step = made_grows plain nodes most made n b in
    let there : IfOk plain (λ r. rope_cells (table_of meaning new) r ≡ wanted) = subst (λ (k : List Cell). IfOk plain (λ r. rope_cells (table_of meaning new) r ≡ k)) text made.text in
    record {
      gives = record {
        is_rope = lifted_ok (λ r. IsRope (table_of meaning new) r) plain made.is_rope;
        text = lifted_ok (λ r. rope_cells (table_of meaning new) r ≡ wanted) plain there;
        grows = grows_through grows step step.few_nodes step.few_bytes;
      };
      shallow = lifted_ok (λ r. IsRoughlyBalanced (table_of meaning new) r) plain rough;
      too_many = (λ e. absurd (lifted_many plain e), ⊎_elim (λ (many : MOST_PIECES < p). absurd (few_p many)) (λ (many : MOST_PIECES < q). absurd (few_q many)));
      unchanged = λ e. absurd (lifted_many plain e);
      fault = lifted_fault plain nodes most (refused_fault plain nodes most refuses (λ bad. bad) short shallow n b);
      full = plain_full p q more bytes plain (λ _. few) (λ _. some) made refuses;
    }

-- a balanced rope stands for the one handed in
pub record StandsFor (t : Table) (rope : Option NodeId) (t' : Table) (balanced : Option NodeId) : Type 0 where
  pub is_rope : IsRope t' balanced
  pub text : rope_cells t' balanced ≡ rope_cells t rope
  pub len : rope_len t' balanced ≡ rope_len t rope
  pub shallow : rope_depth t' balanced ≤ 63

pub stands_for : {F : Type 0} (meaning : F → ℕ → ℕ) (old new : Held F) (rope balanced : Option NodeId) (p : ℕ) → IsSound (table_of meaning old) → HasTrueRecords (table_of meaning old) → IsSound (table_of meaning new) → HasTrueRecords (table_of meaning new) → IsRope (table_of meaning old) rope
    → Rebuilds meaning old (rope_cells (table_of meaning old) rope) p (Ok balanced) new → StandsFor (table_of meaning old) rope (table_of meaning new) balanced
stands_for meaning old new rope balanced p s h s' h' there r =
    let t = table_of meaning old in
    let t' = table_of meaning new in
    record {
      is_rope = r.is_rope;
      text = r.text;
      len = sym (rope_length t' s' h' balanced r.is_rope) ∙ ap length r.text ∙ rope_length t s h rope there;
      shallow = nearly_shallow t' s' balanced r.is_rope r.shallow;
    }

-- and still does where the table goes on, or where it stood for it in a table that went on
pub stands_later : (t0 t t' : Table) → IsSound t → HasTrueRecords t → IsSound t' → HasTrueRecords t' → Extends t t' → (rope balanced : Option NodeId) → StandsFor t0 rope t balanced → StandsFor t0 rope t' balanced
stands_later t0 t t' s h s' h' x rope balanced for =
    let there = rope_kept t t' x balanced for.is_rope in
    let same = rope_cells_kept t t' s x balanced for.is_rope in
    record {
      is_rope = there;
      text = same ∙ for.text;
      len = sym (rope_length t' s' h' balanced there) ∙ ap length same ∙ rope_length t s h balanced for.is_rope ∙ for.len;
      shallow = rw (rope_depth_kept t t' x balanced for.is_rope) for.shallow;
    }

pub stands_earlier : (t0 t t' : Table) → IsSound t0 → HasTrueRecords t0 → IsSound t' → HasTrueRecords t' → Extends t0 t → (rope balanced : Option NodeId) → IsRope t0 rope → StandsFor t rope t' balanced → StandsFor t0 rope t' balanced
stands_earlier t0 t t' s h s' h' x rope balanced there for =
    let same = rope_cells_kept t0 t s x rope there in
    record {
      is_rope = for.is_rope;
      text = for.text ∙ same;
      len = sym (rope_length t' s' h' balanced for.is_rope) ∙ ap length (for.text ∙ same) ∙ rope_length t0 s h rope there;
      shallow = for.shallow;
    }

-- the call that was refused as too deep left the store as it was
pub unchanged_at : {F : Type 0} {meaning : F → ℕ → ℕ} {old new : Held F} {a : Addition F} {wanted : List Cell} (plain : Result (Option NodeId) NodeFault) (e : NodeFault) → Makes meaning old a wanted plain new → IsErrOf plain e → new ≡ old
unchanged_at {F = F} {old = old} {new = new} plain e made is = subst (λ (r : Result (Option NodeId) NodeFault). OnErr r (new ≡ old)) is made.unchanged

pub not_true : IsTrue false → ⊥
not_true h = cc

abbrev plain_of : {A : Type 0} → A → Result A BalanceFault → Result A NodeFault
plain_of d (Ok a) = Ok a
plain_of d (Err e) = Ok d

pub lifted_is_ok : {A : Type 0} (plain : Result A NodeFault) (a : A) → lifted plain ≡ Ok a → plain ≡ Ok a
lifted_is_ok (Ok b) a is = ap (plain_of b) is
lifted_is_ok (Err e) a is = absurd cc
