-- Texts with splices: what the test of splices tells, the result's length, and that the pieces joined are the result.
use Rattle.std.proofs.Common.{◌≡◌, ℕ, ◌+◌, ◌-◌, ◌≤◌, List, [], ◌∷◌, ◌++◌, length, take, drop, Option, refl, sym, ap, ◌∙◌, arith, append_assoc}
use Rattle.std.specs.Prelude.{true, IsTrue, ◌&&◌, ◌||◌, ◌==◌, nat_le, nat_lt}
use Rattle.std.specs.List.{flat_map, sum_by, AllByRecursion, list_all}
use Rattle.std.proofs.lemmas.Bool.{leb-true, le-leb, and_parts}
use Rattle.std.proofs.lemmas.List.{length-append, length-take, length-take-le, length-drop, take-append-le, take-append-drop, take-take, take_all, append-nil}
use Rattle.std.proofs.lemmas.List.Sums.{sum_by-cons}
use Rattle.std.proofs.Math.Seq.{take-add, drop-append_seam}
use Rattle.rope_node.specs.declared.node.NodeId.{NodeId}
use Rattle.rope_node.specs.Table.{Table}
use Rattle.rope_node.specs.Denotes.{rope_len, IsRope}
use Rattle.command_parts.specs.declared.edit.Splice.{Splice}
use Rattle.command_parts.specs.declared.edit.TheConstants.{MOST_SPLICES}
use Rattle.command_parts.specs.Commands.{Givens, is_splice, stands_before, are_apart, can_splice, replaced, replaced_each}
use Rattle.command_parts.specs.Parts.{part_things, pieces, Follow, IsInside}
use Rattle.std.specs.Cmp.Derive.{both_true}

-- ---- what the test tells

-- a splice is one of a text and a pool of these lengths
pub record FitsSplice (pool_len len : ℕ) (s : Splice) : Type 0 where
  pub inside : s.p + s.m ≤ len
  pub pooled : s.a + s.n ≤ pool_len

fits_splice : (pool_len len : ℕ) (s : Splice) → is_splice pool_len len s ≡ true → FitsSplice pool_len len s
fits_splice pool_len len s h =
    let some = and_parts (nat_le (s.p + s.m) len && nat_le (s.a + s.n) pool_len && nat_le 1 (s.m + s.n)) (nat_le 1 s.n || s.a == 0) h in
    let given = and_parts (nat_le (s.p + s.m) len && nat_le (s.a + s.n) pool_len) (nat_le 1 (s.m + s.n)) some.0 in
    let inside = and_parts (nat_le (s.p + s.m) len) (nat_le (s.a + s.n) pool_len) given.0 in
    record { inside = leb-true _ _ inside.0; pooled = leb-true _ _ inside.1 }

-- the splices' bytes lie in a pool of this length
abbrev pub ArePooled : ℕ → List Splice → Type 0
ArePooled pool_len splices = AllByRecursion (λ (s : Splice). s.a + s.n ≤ pool_len) splices

pub follow_inside : (len k : ℕ) (splices : List Splice) → Follow len k splices → k ≤ len
follow_inside len k [] f = f
follow_inside len k (s ∷ splices) f = let later = follow_inside len (s.p + s.m) splices f.1 in omega (arith, f.0, later)

-- the first one stands at k or behind it
abbrev BeginsFrom : ℕ → List Splice → Type 0
BeginsFrom k [] = Unit {0}
BeginsFrom k (s ∷ splices) = k ≤ s.p

begins_behind : (s : Splice) (splices : List Splice) → stands_before s splices ≡ true → BeginsFrom (s.p + s.m) splices
begins_behind s [] h = tt
begins_behind s (u ∷ splices) h = leb-true (s.p + s.m) u.p (and_parts (nat_lt s.p u.p) (nat_le (s.p + s.m) u.p) h).1

follow_of : (pool_len len k : ℕ) (splices : List Splice) → list_all (is_splice pool_len len) splices ≡ true → are_apart splices ≡ true → BeginsFrom k splices → k ≤ len → Follow len k splices
follow_of pool_len len k [] fit apart begins le = le
follow_of pool_len len k (s ∷ splices) fit apart begins le =
    let each = and_parts (is_splice pool_len len s) (list_all (is_splice pool_len len) splices) fit in
    let order = and_parts (stands_before s splices) (are_apart splices) apart in
    (begins, follow_of pool_len len (s.p + s.m) splices each.1 order.1 (begins_behind s splices order.0) (fits_splice pool_len len s each.0).inside)

pooled_of : (pool_len len : ℕ) (splices : List Splice) → list_all (is_splice pool_len len) splices ≡ true → ArePooled pool_len splices
pooled_of pool_len len [] fit = tt
pooled_of pool_len len (s ∷ splices) fit =
    let each = and_parts (is_splice pool_len len s) (list_all (is_splice pool_len len) splices) fit in
    ((fits_splice pool_len len s each.0).pooled, pooled_of pool_len len splices each.1)

begins_from_start : (splices : List Splice) → BeginsFrom 0 splices
begins_from_start [] = tt
begins_from_start (s ∷ splices) = omega arith

-- what splices that pass the test keep to
pub record AreSplices (pool_len len : ℕ) (splices : List Splice) : Type 0 where
  pub some : 1 ≤ length splices
  pub few : length splices ≤ MOST_SPLICES
  pub follow : Follow len 0 splices
  pub pooled : ArePooled pool_len splices

pub are_splices : (pool_len len : ℕ) (splices : List Splice) → IsTrue (can_splice pool_len len splices) → AreSplices pool_len len splices
are_splices pool_len len splices h =
    let apart = and_parts (nat_le 1 (length splices) && nat_le (length splices) MOST_SPLICES && list_all (is_splice pool_len len) splices) (are_apart splices) h in
    let fit = and_parts (nat_le 1 (length splices) && nat_le (length splices) MOST_SPLICES) (list_all (is_splice pool_len len) splices) apart.0 in
    let few = and_parts (nat_le 1 (length splices)) (nat_le (length splices) MOST_SPLICES) fit.0 in
    record {
      some = leb-true _ _ few.0;
      few = leb-true _ _ few.1;
      follow = follow_of pool_len len 0 splices fit.1 apart.1 (begins_from_start splices) (omega arith);
      pooled = pooled_of pool_len len splices fit.1;
    }

-- ---- a pool that grows

splice_kept : (old new len : ℕ) (s : Splice) → old ≤ new → is_splice old len s ≡ true → is_splice new len s ≡ true
splice_kept old new len s le h =
    let some = and_parts (nat_le (s.p + s.m) len && nat_le (s.a + s.n) old && nat_le 1 (s.m + s.n)) (nat_le 1 s.n || s.a == 0) h in
    let given = and_parts (nat_le (s.p + s.m) len && nat_le (s.a + s.n) old) (nat_le 1 (s.m + s.n)) some.0 in
    let inside = and_parts (nat_le (s.p + s.m) len) (nat_le (s.a + s.n) old) given.0 in
    let pooled : s.a + s.n ≤ old = leb-true _ _ inside.1 in
    both_true (both_true (both_true inside.0 (le-leb (s.a + s.n) new (omega (arith, pooled, le)))) given.1) some.1

splices_kept : (old new len : ℕ) (splices : List Splice) → old ≤ new → list_all (is_splice old len) splices ≡ true → list_all (is_splice new len) splices ≡ true
splices_kept old new len [] le h = refl
splices_kept old new len (s ∷ splices) le h =
    let each = and_parts (is_splice old len s) (list_all (is_splice old len) splices) h in
    both_true (splice_kept old new len s le each.0) (splices_kept old new len splices le each.1)

pub can_splice_kept : (old new len : ℕ) (splices : List Splice) → old ≤ new → IsTrue (can_splice old len splices) → IsTrue (can_splice new len splices)
can_splice_kept old new len splices le h =
    let apart = and_parts (nat_le 1 (length splices) && nat_le (length splices) MOST_SPLICES && list_all (is_splice old len) splices) (are_apart splices) h in
    let fit = and_parts (nat_le 1 (length splices) && nat_le (length splices) MOST_SPLICES) (list_all (is_splice old len) splices) apart.0 in
    both_true (both_true fit.0 (splices_kept old new len splices le fit.1)) apart.1

-- ---- the result

-- a splice before the others: the text up to k, from there to the splice, its things of the pool, and what is behind it
replaced_as : {C : Type 0} (pool t : List C) (len k : ℕ) (behind : List C) → length t ≡ len → (s : Splice) → k ≤ s.p → s.p + s.m ≤ len → replaced (take (s.p + s.m) t ++ behind) s.p s.m (take s.n (drop s.a pool)) ≡ take k t ++ (take (s.p - k) (drop k t) ++ (take s.n (drop s.a pool) ++ behind))
replaced_as pool t len k behind whole s le fits =
    let x = take s.n (drop s.a pool) in
    let e = s.p + s.m in
    let front-len : length (take e t) ≡ e = length-take-le e t (omega (arith, whole, fits)) in
    let front : take s.p (take e t ++ behind) ≡ take s.p t =
    take-append-le s.p (take e t) behind (omega (arith, front-len)) ∙ take-take s.p e t (omega arith) in
    let back : drop e (take e t ++ behind) ≡ behind = ap (λ (j : ℕ). drop j (take e t ++ behind)) (sym front-len) ∙ drop-append_seam (take e t) behind in
    let split : take s.p t ≡ take k t ++ take (s.p - k) (drop k t) = ap (λ (j : ℕ). take j t) (omega arith) ∙ take-add k (s.p - k) t in
    rw (front, back, split) (simp append_assoc)

-- the lengths that are replaced lie one behind the other
pub follow_sum : (len k : ℕ) (splices : List Splice) → Follow len k splices → k + sum_by (λ (s : Splice). s.m) splices ≤ len
follow_sum len k [] f = omega (arith, f)
follow_sum len k (s ∷ splices) f =
    let later = follow_sum len (s.p + s.m) splices f.1 in
    rw (sum_by-cons (λ (u : Splice). u.m) s splices) (omega (arith, later, f.0))

-- how long the result is
pub length-replaced_each : {C : Type 0} (pool t : List C) (len k : ℕ) (splices : List Splice) → length t ≡ len → Follow len k splices → ArePooled (length pool) splices
    → length (replaced_each pool t splices) + sum_by (λ (s : Splice). s.m) splices ≡ len + sum_by (λ (s : Splice). s.n) splices
length-replaced_each pool t len k [] whole f p = omega (arith, whole)
length-replaced_each pool t len k (s ∷ splices) whole f p =
    let r = replaced_each pool t splices in
    let x = take s.n (drop s.a pool) in
    let tail = length-replaced_each pool t len (s.p + s.m) splices whole f.1 p.1 in
    let sum = follow_sum len (s.p + s.m) splices f.1 in
    rw (sum_by-cons (λ (u : Splice). u.m) s splices, sum_by-cons (λ (u : Splice). u.n) s splices)
    (omega (arith, tail, sum, p.0, length-append (take s.p r ++ x) (drop (s.p + s.m) r), length-append (take s.p r) x, length-take s.p r, length-drop (s.p + s.m) r, length-take s.n (drop s.a pool), length-drop s.a pool))

-- the result from k on, from left to right
abbrev pub spliced_from : {C : Type 0} → List C → List C → ℕ → List Splice → List C
spliced_from pool t k [] = drop k t
spliced_from pool t k (s ∷ splices) = take (s.p - k) (drop k t) ++ (take s.n (drop s.a pool) ++ spliced_from pool t (s.p + s.m) splices)

pub replaced_from : {C : Type 0} (pool t : List C) (len k : ℕ) (splices : List Splice) → length t ≡ len → Follow len k splices → replaced_each pool t splices ≡ take k t ++ spliced_from pool t k splices
replaced_from pool t len k [] whole f = sym (take-append-drop k t)
replaced_from {C} pool t len k (s ∷ splices) whole f =
    ap (λ (r : List C). replaced r s.p s.m (take s.n (drop s.a pool))) (replaced_from pool t len (s.p + s.m) splices whole f.1)
    ∙ replaced_as pool t len k (spliced_from pool t (s.p + s.m) splices) whole s f.0 (follow_inside len (s.p + s.m) splices f.1)

-- the pieces of a rope, behind its first k things, are the result over its things
pub pieces_joined : {C : Type 0} (g : Givens C) (of : Option NodeId → List C) (rope : Option NodeId) (len : ℕ) → length (of rope) ≡ len → (k : ℕ) (splices : List Splice) → Follow len k splices
    → replaced_each g.pool (of rope) splices ≡ take k (of rope) ++ flat_map (part_things g of) (pieces rope len k splices)
pieces_joined g of rope len whole k [] f =
    let cs = of rope in
    let rest : take (len - k) (drop k cs) ≡ drop k cs = take_all (len - k) (drop k cs) (omega (arith, length-drop k cs, whole)) in
    rw (rest, append-nil (drop k cs)) (sym (take-append-drop k cs))
pieces_joined {C} g of rope len whole k (u ∷ splices) f =
    let cs = of rope in
    let behind = flat_map (part_things g of) (pieces rope len (u.p + u.m) splices) in
    ap (λ (r : List C). replaced r u.p u.m (take u.n (drop u.a g.pool))) (pieces_joined g of rope len whole (u.p + u.m) splices f.1)
    ∙ replaced_as g.pool cs len k behind whole u f.0 (follow_inside len (u.p + u.m) splices f.1)

-- the pieces lie inside the rope and the pool
pub pieces_inside : (t : Table) (rope : Option NodeId) → IsRope t rope → (k : ℕ) (splices : List Splice) → Follow (rope_len t rope) k splices → ArePooled (length t.pool) splices → AllByRecursion (IsInside t) (pieces rope (rope_len t rope) k splices)
pieces_inside t rope there k [] f p = ((there, omega (arith, f)), tt)
pieces_inside t rope there k (s ∷ splices) f p =
    let end = follow_inside (rope_len t rope) (s.p + s.m) splices f.1 in
    ((there, omega (arith, f.0, end)), (p.0, pieces_inside t rope there (s.p + s.m) splices f.1 p.1))
