-- The calls behind the balancing.
use Rattle.std.proofs.Common.{◌≡◌, ℕ, ◌+◌, ◌*◌, ◌^◌, ◌<◌, ◌≤◌, ◌-◌, ◌++◌, ⊎_elim, inl, inr, Bool, true, false, List, [], ◌∷◌, map, take, drop, length, min, Option, Some, None, Result, Ok, Err, sym, ap, subst, ◌∙◌, refl, arith}
use Rattle.leaf_buffer.specs.declared.block.TheConstants.{BLOCK_SIZE}
use Rattle.leaf_buffer.specs.declared.pool.TheConstants.{POOL_LIMIT}
use Rattle.std.specs.Prelude.{IsErrOf}
use Rattle.std.proofs.Math.Seq.{drop-append_seam}
use Rattle.leaf_buffer.specs.Contents.{Contents}
use Rattle.rope_node.specs.declared.node.NodeId.{NodeId}
use Rattle.rope_node.specs.Table.{Table, len_at, view_at, IsSound, HasTrueRecords}
use Rattle.rope_node.specs.Extends.{Extends}
use Rattle.rope_node.specs.Denotes.{Byte, Cell, cells, rope_cells, rope_len, IsRope}
use Rattle.rope_node.proofs.Ropes.{extends_itself, rope_kept}
use Rattle.node_table.specs.declared.fault.NodeFault.{NodeFault}
use Rattle.node_table.specs.declared.fault.NodeFault.TheVariants.{TooLong, TooDeep}
use Rattle.node_table.specs.Held.{Held, table_of}
use Rattle.rope_store.specs.Additions.{Addition, Makes, node_part, part_added, pool_with}
use Rattle.rope_store.specs.Appending.{Appends, AppendsTooLong}
use Rattle.rope_store.specs.Joining.{joined}
use Rattle.rope_store.specs.Refusals.{Refuses, IsTooDeep, PassesPoolLimit, deepest}
use Rattle.rope_node.proofs.Cells.{cells_length}
use Rattle.rope_store.proofs.PartTexts.{no_part, take_least}
use Rattle.rope_store.proofs.CallSizes.{joined_few, joined_shallow, part_few, sized_append}
use Rattle.leaf_buffer.proofs.Appending.{appended_bytes}
use Rattle.rebalance.specs.AnyForms.{AnyForm, Anew, AppendsAny, IsLowest, IsPlaced, IsPut, LiesLower, StandInPool, place_in_pool, PartsAny, lifted, append_growth, cat_growth, part_growth}
use Rattle.rebalance.specs.declared.fault.BalanceFault.{BalanceFault}
use Rattle.rope_node.specs.declared.node.Span.{Span}
use Rattle.rebalance.specs.Balancing.{Rebuilds}
use Rattle.rebalance.specs.Pieces.{kept_pieces, part_count, part_pieces, piece_count, LeadsWithin, LiesInChild, RopeLeadsDown, here}
use Rattle.rebalance.specs.Steps.{Grows}
use Rattle.rebalance.proofs.AnyLaws.{any_anew, any_plain, any_plain_if, rebuilt_anew, rebuilt_grows, called_anew, few_pieces, stands_earlier, stands_for, stands_later, unchanged_at}
use Rattle.rebalance.proofs.AnyDepths.{append_roughly, joined_roughly, nearly_kept}
use Rattle.rebalance.proofs.Filling.{whole_text}
use Rattle.rebalance.proofs.FullStores.{append_some, joined_some, nodes_wanted}
use Rattle.rebalance.proofs.PieceCounts.{all_pieces_kept}
use Rattle.rebalance.proofs.PieceWays.{GoesDown, stays_here}
use Rattle.rebalance.proofs.StepLaws.{grows_through, grows_within}

-- a table keeps the rules
pub record IsRight (F : Type 0) (meaning : F → ℕ → ℕ) (h : Held F) : Type 0 where
  pub sound : IsSound (table_of meaning h)
  pub true_records : HasTrueRecords (table_of meaning h)

-- all of a node's text
pub all_rebuilt : {F : Type 0} (meaning : F → ℕ → ℕ) (old new : Held F) (keep : Bool) (node : NodeId) (n : ℕ) (result : Result (Option NodeId) BalanceFault) → IsSound (table_of meaning old) → HasTrueRecords (table_of meaning old) → node.0 < length old.nodes → n ≡ len_at (table_of meaning old) node.0
    → Rebuilds meaning old (take n (drop 0 (cells (table_of meaning old) node.0))) (piece_count keep (table_of meaning old) node.0 0 n) result new
    → Rebuilds meaning old (cells (table_of meaning old) node.0) (piece_count keep (table_of meaning old) node.0 0 (len_at (table_of meaning old) node.0)) result new
all_rebuilt meaning old new keep node n result s h there all built =
    let t = table_of meaning old in
    let text = whole_text t s h node.0 n there all in
    let built' = subst (λ (k : ℕ). Rebuilds meaning old (take n (drop 0 (cells t node.0))) (piece_count keep t node.0 0 k) result new) all built in
    subst (λ cs. Rebuilds meaning old cs (piece_count keep t node.0 0 (len_at t node.0)) result new) text built'

-- a part adds no byte
part_wanted : {F : Type 0} (old : Held F) (t : Table) (x : Option NodeId) (i n : ℕ) → length old.pool.bytes < POOL_LIMIT → PassesPoolLimit old (part_added {F = F} t x i n) → 1 ≤ length (part_added {F = F} t x i n).records
part_wanted {F = F} old t x i n below =
    let few = part_few {F = F} t x i n in
    nodes_wanted old (part_added t x i n) below (λ some. absurd (omega (arith, some, few.bytes_added)))

pub cat_called : {F : Type 0} (meaning : F → ℕ → ℕ) (old one two new : Held F) (l r left right : Option NodeId) (plain : Result (Option NodeId) NodeFault) → IsRight F meaning old → IsRight F meaning one → IsRight F meaning two → length two.pool.bytes < POOL_LIMIT → IsRope (table_of meaning old) l → IsRope (table_of meaning old) r
    → rope_len (table_of meaning old) l + rope_len (table_of meaning old) r < 2 ^ 40 → Rebuilds meaning old (rope_cells (table_of meaning old) l) (kept_pieces (table_of meaning old) l) (Ok left) one → Rebuilds meaning one (rope_cells (table_of meaning one) r) (kept_pieces (table_of meaning one) r) (Ok right) two
    → Makes meaning two (joined (table_of meaning two) left right) (rope_cells (table_of meaning two) left ++ rope_cells (table_of meaning two) right) plain new → Refuses two (joined (table_of meaning two) left right) ⊥ (2 ^ 40 ≤ rope_len (table_of meaning two) left + rope_len (table_of meaning two) right) plain
    → Anew meaning old (rope_cells (table_of meaning old) l ++ rope_cells (table_of meaning old) r) (cat_growth (table_of meaning old) l r) (lifted plain) new
cat_called {F = F} meaning old one two new l r left right plain k0 k1 k2 below left_there right_there short first second made refuses =
    let t0 = table_of meaning old in
    let t1 = table_of meaning one in
    let t2 = table_of meaning two in
    let a = stands_later t0 t1 t2 k1.sound k1.true_records k2.sound k2.true_records second.kept l left (stands_for meaning old one l left _ k0.sound k0.true_records k1.sound k1.true_records left_there first) in
    let there = rope_kept t0 t1 first.kept r right_there in
    let b = stands_earlier t0 t1 t2 k0.sound k0.true_records k2.sound k2.true_records first.kept r right right_there (stands_for meaning one two r right _ k1.sound k1.true_records k2.sound k2.true_records there second) in
    let same = all_pieces_kept true t0 t1 k0.sound first.kept r right_there in
    let p = kept_pieces t0 l in
    let q = kept_pieces t0 r in
    let grows : Grows meaning old (length old.nodes + (2 * p + 2 * q)) (length old.pool.bytes + (31 * p + 31 * q)) two =
    grows_through (rebuilt_grows first) (rebuilt_grows second) (omega (arith, second.few_nodes, first.few_nodes, same)) (omega (arith, second.few_bytes, first.few_bytes, same)) in
    called_anew meaning old two new (joined t2 left right) (rope_cells t0 l ++ rope_cells t0 r) (rope_cells t2 left ++ rope_cells t2 right) (2 ^ 40 ≤ rope_len t2 left + rope_len t2 right) p q 2 31 plain grows (few_pieces first) (λ many. few_pieces second (omega (arith, many, same)))
    (joined_few t2 k2.sound k2.true_records left right a.is_rope b.is_rope) (nodes_wanted two (joined t2 left right) below (joined_some F t2 left right)) (joined_shallow F t2 k2.sound k2.true_records left right a.is_rope b.is_rope a.shallow b.shallow)
    (λ long. absurd (omega (arith, long, a.len, b.len, short))) made refuses (rw (a.text, b.text) refl)
    (joined_roughly meaning two new (rope_cells t2 left ++ rope_cells t2 right) left right k2.sound k2.true_records a.is_rope b.is_rope (nearly_kept t1 t2 second.kept left first.is_rope first.shallow) second.shallow plain made)

-- ---- parts

-- the part of a node that is some of it
part_of : (t : Table) (node : NodeId) (i n : ℕ) → i + n ≤ len_at t node.0 → part_pieces t (Some node) i n ≡ piece_count true t node.0 i n
part_of t node i n fits = let all : min n (len_at t node.0 - i) ≡ n = omega (arith, fits) in ap (λ (k : ℕ). piece_count true t node.0 i k) all

-- no bytes are nil
no_bytes_shallow : (F : Type 0) (t : Table) (x : Option NodeId) (i n : ℕ) → ((node : NodeId) → x ≡ Some node → min n (len_at t node.0 - i) ≡ 0) → ¬ IsTooDeep {F = F} (part_added t x i n)
no_bytes_shallow F t None i n none deep = omega (arith, deep)
no_bytes_shallow F t (Some node) i n none deep =
    let records = ap (λ (a : Addition F). deepest a.records) (no_part {F = F} t node i (min n (len_at t node.0 - i)) (none node refl)) in
    omega (arith, deep, records)

no_bytes_lie : (t : Table) (x : Option NodeId) (i n : ℕ) → ((node : NodeId) → x ≡ Some node → min n (len_at t node.0 - i) ≡ 0) → ¬ LiesLower t x i n
no_bytes_lie t None i n none lies = lies
no_bytes_lie t (Some node) i n none lies = omega (arith, none node refl, lies.0)

-- bytes that are all there
lies_lower : (t : Table) (node : NodeId) (i n : ℕ) → i + n ≤ len_at t node.0 → LiesLower t (Some node) i n → (n < len_at t node.0) × LiesInChild t i n (view_at t node.0)
lies_lower t node i n fits lies =
    let all : min n (len_at t node.0 - i) ≡ n = omega (arith, fits) in (omega (arith, lies.1, all), subst (λ (k : ℕ). LiesInChild t i k (view_at t node.0)) all lies.2)

-- bytes that are all there are so many
count_all : (t : Table) (node : NodeId) (i n : ℕ) → i + n ≤ len_at t node.0 → part_count t (Some node) i n ≡ n
count_all t node i n fits = omega (arith, fits)

pub lies_above : (t : Table) (node : NodeId) (i n : ℕ) → i + n ≤ len_at t node.0 → 1 ≤ n → GoesDown t n node.0 i → LiesLower t (Some node) i n
lies_above t node i n fits some down =
    let all : min n (len_at t node.0 - i) ≡ n = omega (arith, fits) in
    subst (λ (k : ℕ). (1 ≤ k) × (k < len_at t node.0) × LiesInChild t i k (view_at t node.0)) (sym all) (some, down.0, down.1)

-- the lowest node that all of the bytes lie in
within_is_lowest : (t : Table) (node : NodeId) (i n : ℕ) (p : Span) → 1 ≤ n → i + n ≤ len_at t node.0 → LeadsWithin t node.0 i n p → IsLowest t (Some node) i (part_count t (Some node) i n) (Some p.node) p.start
within_is_lowest t node i n p some fits within =
    let lowest : IsLowest t (Some node) i n (Some p.node) p.start = record {
      there = within.there;
      leads = within.leads;
      lowest = λ lies. let lower = lies_lower t p.node p.start n (omega (arith, within.inside, within.len)) lies in within.lowest lower.0 lower.1;
      here = λ no. let same = stays_here t within.leads (λ down. no (lies_above t node i n fits some down)) in (ap (λ (k : ℕ). let r : Option NodeId = Some (record { 0 = k }) in r) (sym same.0), sym same.1);
      below = λ lies. let lower = lies_lower t node i n fits lies in within.below lower.0 lower.1;
      no_deeper = within.shallow;
      cells = sym within.cells;
    } in
    subst (λ (k : ℕ). IsLowest t (Some node) i k (Some p.node) p.start) (sym (count_all t node i n fits)) lowest

-- of no bytes it is the rope itself
leads_here : (t : Table) (n : ℕ) (x : Option NodeId) (i : ℕ) → RopeLeadsDown t n x i x i
leads_here t n None i = refl
leads_here t n (Some k) i = here refl refl

none_is_lowest : (t : Table) (x : Option NodeId) (i n : ℕ) → IsRope t x → ((node : NodeId) → x ≡ Some node → min n (len_at t node.0 - i) ≡ 0) → IsLowest t x i n x i
none_is_lowest t x i n there none = record {
  there = there;
  leads = leads_here t n x i;
  lowest = no_bytes_lie t x i n none;
  here = λ _. (refl, refl);
  below = λ lies. absurd (no_bytes_lie t x i n none lies);
  no_deeper = omega arith;
  cells = refl;
}

-- so many bytes are added, wanted or there
added_alike : (F : Type 0) (t : Table) (x : Option NodeId) (i n : ℕ) → part_added {F = F} t x i (part_count t x i n) ≡ part_added t x i n
added_alike F t None i n = refl
added_alike F t (Some node) i n =
    let same : min (min n (len_at t node.0 - i)) (len_at t node.0 - i) ≡ min n (len_at t node.0 - i) = omega arith in
    ap (λ (k : ℕ). node_part {F = F} t node i k) same

none_there : (t : Table) (x : Option NodeId) (i n : ℕ) → ((node : NodeId) → x ≡ Some node → min n (len_at t node.0 - i) ≡ 0) → (node : NodeId) → x ≡ Some node → min (part_count t x i n) (len_at t node.0 - i) ≡ 0
none_there t None i n none node is = absurd cc
none_there t (Some y) i n none node is =
    let few : min n (len_at t y.0 - i) ≡ 0 = none y refl in
    omega (arith, few)

pub part_none : {F : Type 0} (meaning : F → ℕ → ℕ) (old new : Held F) (x : Option NodeId) (i n : ℕ) (plain : Result (Option NodeId) NodeFault) → length old.pool.bytes < POOL_LIMIT → IsRope (table_of meaning old) x → ((node : NodeId) → x ≡ Some node → min n (len_at (table_of meaning old) node.0 - i) ≡ 0)
    → Makes meaning old (part_added (table_of meaning old) x i n) (take n (drop i (rope_cells (table_of meaning old) x))) plain new → Refuses old (part_added (table_of meaning old) x i n) ⊥ ⊥ plain → PartsAny meaning old x i n (lifted plain) new
part_none {F = F} meaning old new x i n plain below there none made refuses =
    let t = table_of meaning old in
    let m = part_count t x i n in
    let nothing_there : (node : NodeId) → x ≡ Some node → min m (len_at t node.0 - i) ≡ 0 = none_there t x i n none in
    let shallow : ¬ IsTooDeep {F = F} (part_added t x i m) = no_bytes_shallow F t x i m nothing_there in
    let any : AnyForm meaning old (part_added t x i n) (take n (drop i (rope_cells t x))) ⊥ (part_growth (part_pieces t x i n)) (lifted plain) new =
    any_plain meaning old new (part_added t x i n) (take n (drop i (rope_cells t x))) ⊥ (part_pieces t x i n) 0 1 0 plain (part_few t x i n) (part_wanted old t x i n below) made refuses (λ e. no_bytes_shallow F t x i n none (refuses.too_deep.0 e).2) in
    record {
      inner = x;
      start = i;
      is_lowest = none_is_lowest t x i m there nothing_there;
      any = subst (λ (a : Addition F). AnyForm meaning old a (take n (drop i (rope_cells t x))) ⊥ (part_growth (part_pieces t x i n)) (lifted plain) new) (sym (added_alike F t x i n)) any;
      rebuilt = λ deep. absurd (shallow deep);
    }

-- what a part is, of so many bytes, cells and pieces
record PartIs {F : Type 0} (meaning : F → ℕ → ℕ) (old : Held F) (x : Option NodeId) (i m : ℕ) (wanted : List Cell) (p : ℕ) (inner : Option NodeId) (start : ℕ) (result : Result (Option NodeId) BalanceFault) (new : Held F) : Type 0 where
  pub is_lowest : IsLowest (table_of meaning old) x i m inner start
  pub any : AnyForm meaning old (part_added (table_of meaning old) inner start m) wanted ⊥ (part_growth p) result new
  pub rebuilt : IsTooDeep (part_added {F = F} (table_of meaning old) inner start m) → Rebuilds meaning old wanted p result new

-- no more bytes than there are
pub part_more : {F : Type 0} (meaning : F → ℕ → ℕ) (old new : Held F) (node : NodeId) (i n m : ℕ) (result : Result (Option NodeId) BalanceFault) → IsSound (table_of meaning old) → HasTrueRecords (table_of meaning old) → node.0 < length old.nodes → m ≡ min n (len_at (table_of meaning old) node.0 - i)
    → PartsAny meaning old (Some node) i m result new → PartsAny meaning old (Some node) i n result new
part_more {F = F} meaning old new node i n m result s h there least part =
    let t = table_of meaning old in
    let few : part_count t (Some node) i m ≡ part_count t (Some node) i n = omega (arith, least) in
    let count : part_pieces t (Some node) i m ≡ part_pieces t (Some node) i n = ap (λ (k : ℕ). piece_count true t node.0 i k) few in
    let text : take m (drop i (cells t node.0)) ≡ take n (drop i (cells t node.0)) =
    ap (λ (k : ℕ). take k (drop i (cells t node.0))) least ∙ take_least (cells t node.0) i n (len_at t node.0) (cells_length t s h node.0 there) in
    let with_count = subst (λ (k : ℕ). PartIs meaning old (Some node) i k (take m (drop i (cells t node.0))) (part_pieces t (Some node) i m) part.inner part.start result new) few (record { is_lowest = part.is_lowest; any = part.any; rebuilt = part.rebuilt }) in
    let with_pieces = subst (λ (p : ℕ). PartIs meaning old (Some node) i (part_count t (Some node) i n) (take m (drop i (cells t node.0))) p part.inner part.start result new) count with_count in
    let all = subst (λ cs. PartIs meaning old (Some node) i (part_count t (Some node) i n) cs (part_pieces t (Some node) i n) part.inner part.start result new) text with_pieces in
    record { inner = part.inner; start = part.start; is_lowest = all.is_lowest; any = all.any; rebuilt = all.rebuilt }

-- a part of bytes that are all there
part_is : {F : Type 0} (meaning : F → ℕ → ℕ) (old new : Held F) (node : NodeId) (i n : ℕ) (inner : Option NodeId) (start : ℕ) (result : Result (Option NodeId) BalanceFault) → i + n ≤ len_at (table_of meaning old) node.0 → IsLowest (table_of meaning old) (Some node) i (part_count (table_of meaning old) (Some node) i n) inner start
    → AnyForm meaning old (part_added (table_of meaning old) inner start n) (take n (drop i (cells (table_of meaning old) node.0))) ⊥ (part_growth (part_pieces (table_of meaning old) (Some node) i n)) result new
    → (IsTooDeep {F = F} (part_added (table_of meaning old) inner start n) → Rebuilds meaning old (take n (drop i (cells (table_of meaning old) node.0))) (part_pieces (table_of meaning old) (Some node) i n) result new)
    → PartsAny meaning old (Some node) i n result new
part_is {F = F} meaning old new node i n inner start result fits lowest any rebuilt =
    let t = table_of meaning old in
    let same = sym (count_all t node i n fits) in
    record {
      inner = inner;
      start = start;
      is_lowest = lowest;
      any = subst (λ (k : ℕ). AnyForm meaning old (part_added t inner start k) (take n (drop i (cells t node.0))) ⊥ (part_growth (part_pieces t (Some node) i n)) result new) same any;
      rebuilt = subst (λ (k : ℕ). IsTooDeep {F = F} (part_added t inner start k) → Rebuilds meaning old (take n (drop i (cells t node.0))) (part_pieces t (Some node) i n) result new) same rebuilt;
    }

-- the plain call takes the part of a lower node
pub part_plain : {F : Type 0} (meaning : F → ℕ → ℕ) (old new : Held F) (node : NodeId) (i n : ℕ) (p : Span) (plain : Result (Option NodeId) NodeFault) → length old.pool.bytes < POOL_LIMIT → LeadsWithin (table_of meaning old) node.0 i n p → 1 ≤ n → i + n ≤ len_at (table_of meaning old) node.0
    → Makes meaning old (part_added (table_of meaning old) (Some p.node) p.start n) (take n (drop p.start (cells (table_of meaning old) p.node.0))) plain new → Refuses old (part_added (table_of meaning old) (Some p.node) p.start n) ⊥ ⊥ plain → ¬ IsErrOf plain TooDeep
    → PartsAny meaning old (Some node) i n (lifted plain) new
part_plain {F = F} meaning old new node i n p plain below within some fits made refuses shallow =
    let t = table_of meaning old in
    let a : Addition F = part_added t (Some p.node) p.start n in
    let made' : Makes meaning old a (take n (drop i (cells t node.0))) plain new = rw within.cells made in
    let any = any_plain meaning old new a (take n (drop i (cells t node.0))) ⊥ (part_pieces t (Some node) i n) 0 1 0 plain (part_few t (Some p.node) p.start n) (part_wanted old t (Some p.node) p.start n below) made' refuses shallow in
    part_is meaning old new node i n (Some p.node) p.start (lifted plain) fits (within_is_lowest t node i n p some fits within) any (λ deep. absurd (shallow (refuses.too_deep.1 ((λ bad. bad), (λ long. long), deep))))

-- the part is put together alone
part_anew : {F : Type 0} (meaning : F → ℕ → ℕ) (old new : Held F) (node : NodeId) (i n : ℕ) (p : Span) (result : Result (Option NodeId) BalanceFault) → LeadsWithin (table_of meaning old) node.0 i n p → 1 ≤ n → i + n ≤ len_at (table_of meaning old) node.0
    → IsTooDeep {F = F} (part_added (table_of meaning old) (Some p.node) p.start n) → Rebuilds meaning old (take n (drop i (cells (table_of meaning old) node.0))) (piece_count true (table_of meaning old) node.0 i n) result new
    → PartsAny meaning old (Some node) i n result new
part_anew {F = F} meaning old new node i n p result within some fits deep built =
    let t = table_of meaning old in
    let a : Addition F = part_added t (Some p.node) p.start n in
    let wanted = take n (drop i (cells t node.0)) in
    let built' : Rebuilds meaning old wanted (part_pieces t (Some node) i n) result new = rw (part_of t node i n fits) built in
    let any = any_anew meaning old new a wanted ⊥ (part_pieces t (Some node) i n) 0 1 0 result (λ long. long) deep (rebuilt_anew meaning old new wanted (part_pieces t (Some node) i n) result built') in
    part_is meaning old new node i n (Some p.node) p.start result fits (within_is_lowest t node i n p some fits within) any (λ _. built')

-- behind a plain call that changed nothing
pub part_deep : {F : Type 0} (meaning : F → ℕ → ℕ) (old mid new : Held F) (node : NodeId) (i n : ℕ) (p : Span) (plain : Result (Option NodeId) NodeFault) (result : Result (Option NodeId) BalanceFault) → LeadsWithin (table_of meaning old) node.0 i n p → 1 ≤ n → i + n ≤ len_at (table_of meaning old) node.0
    → Makes meaning old (part_added (table_of meaning old) (Some p.node) p.start n) (take n (drop p.start (cells (table_of meaning old) p.node.0))) plain mid → Refuses old (part_added (table_of meaning old) (Some p.node) p.start n) ⊥ ⊥ plain → IsErrOf plain TooDeep
    → Rebuilds meaning mid (take n (drop i (cells (table_of meaning mid) node.0))) (piece_count true (table_of meaning mid) node.0 i n) result new → PartsAny meaning old (Some node) i n result new
part_deep {F = F} meaning old mid new node i n p plain result within some fits made refuses deep built =
    let same = unchanged_at plain TooDeep made deep in
    let built' = subst (λ (h : Held F). Rebuilds meaning h (take n (drop i (cells (table_of meaning h) node.0))) (piece_count true (table_of meaning h) node.0 i n) result new) same built in
    part_anew meaning old new node i n p result within some fits (refuses.too_deep.0 deep).2 built'

-- ---- bytes put behind a rope

pool_bytes : (pool : Contents) (in_place : Bool) (bytes : List ℕ) → (pool_with pool in_place bytes).bytes ≡ pool.bytes ++ bytes
pool_bytes pool true bytes = refl
pool_bytes pool false bytes = appended_bytes pool bytes

ok_is_no_err : (rope : Option NodeId) (e : NodeFault) → ◌≡◌ {A = Result (Option NodeId) NodeFault} (Ok rope) (Err e) → ⊥
ok_is_no_err rope e is = cc

-- the bytes stand where the pool ended
stands : {F : Type 0} (meaning : F → ℕ → ℕ) (old new : Held F) (x rope : Option NodeId) (bytes : List ℕ) → IsRight F meaning old → IsRope (table_of meaning old) x → Appends meaning old x bytes (Ok rope) new → StandInPool new.pool.bytes (place_in_pool old.pool.bytes bytes) bytes
stands meaning old new x rope [] k there done = refl
stands {F = F} meaning old new x rope (b ∷ bs) k there done =
    let bytes = b ∷ bs in
    let a = done.addition in
    let short : ¬ AppendsTooLong (table_of meaning old) x bytes = λ long. let no = done.refuses.too_long.1 ((λ bad. bad), long) in ok_is_no_err rope TooLong no in
    let sized = sized_append old.pool (table_of meaning old) k.sound k.true_records x there bytes a (done.is short) in
    let pool : new.pool.bytes ≡ old.pool.bytes ++ a.bytes = ap (λ (h : Held F). h.pool.bytes) done.makes.table ∙ pool_bytes old.pool a.in_place a.bytes in
    let many : (length old.pool.bytes + length bytes) - length old.pool.bytes ≡ length bytes = omega arith in
    rw pool (ap (λ (n : ℕ). take n (drop (length old.pool.bytes) (old.pool.bytes ++ a.bytes))) many ∙ ap (take (length bytes)) (drop-append_seam old.pool.bytes a.bytes) ∙ sized.first)

place_is : (pool bytes : List ℕ) (place : ℕ) → (bytes ≡ [] → place ≡ 0) → (1 ≤ length bytes → place ≡ length pool) → place ≡ place_in_pool pool bytes
place_is pool [] place none some = none refl
place_is pool (b ∷ bs) place none some = some (omega arith)

pub put_behind : {F : Type 0} (meaning : F → ℕ → ℕ) (old mid new : Held F) (x rope : Option NodeId) (bytes : List ℕ) (place : ℕ) → Extends (table_of meaning old) (table_of meaning mid) → IsRight F meaning mid → IsRope (table_of meaning mid) x → Appends meaning mid x bytes (Ok rope) new → (bytes ≡ [] → place ≡ 0) → (1 ≤ length bytes → place ≡ length mid.pool.bytes)
    → IsPut meaning old bytes (rope, place) new
put_behind meaning old mid new x rope bytes place kept k there done none some =
    let at = place_is mid.pool.bytes bytes place none some in
    record {
      before = mid;
      behind = x;
      kept = kept;
      appends = done;
      place = at;
      stands = subst (λ (n : ℕ). StandInPool new.pool.bytes n bytes) (sym at) (stands meaning mid new x rope bytes k there done);
    }

pub placed_at_once : {F : Type 0} (meaning : F → ℕ → ℕ) (old new : Held F) (x rope : Option NodeId) (bytes : List ℕ) (place : ℕ) → IsRight F meaning old → IsRope (table_of meaning old) x → Appends meaning old x bytes (Ok rope) new → (bytes ≡ [] → place ≡ 0) → (1 ≤ length bytes → place ≡ length old.pool.bytes)
    → IsPlaced meaning old x bytes (rope, place) new
unfolding put_behind
placed_at_once meaning old new x rope bytes place k there done none some = record {
  put = put_behind meaning old old new x rope bytes place (extends_itself (table_of meaning old)) k there done none some;
  at_once = λ _. (refl, refl);
}

pub append_plain : {F : Type 0} (meaning : F → ℕ → ℕ) (old new : Held F) (x : Option NodeId) (bytes : List ℕ) (plain : Result (Option NodeId) NodeFault) → IsRight F meaning old → length old.pool.bytes < POOL_LIMIT → IsRope (table_of meaning old) x → Appends meaning old x bytes plain new → ¬ IsErrOf plain TooDeep
    → AppendsAny meaning old x bytes (lifted plain) new
append_plain meaning old new x bytes plain k below there done shallow =
    let t = table_of meaning old in
    record {
      addition = done.addition;
      is = done.is;
      any = any_plain_if meaning old new done.addition (rope_cells t x ++ map Byte bytes) (AppendsTooLong t x bytes) (kept_pieces t x) 0 3 (length bytes + 31) plain
          (λ short. (sized_append old.pool t k.sound k.true_records x there bytes done.addition (done.is short)).few)
          (λ short. nodes_wanted old done.addition below (append_some old.pool t x bytes done.addition (done.is short))) done.makes done.refuses shallow;
    }

pub append_called : {F : Type 0} (meaning : F → ℕ → ℕ) (old one new : Held F) (x rope : Option NodeId) (bytes : List ℕ) (plain : Result (Option NodeId) NodeFault) → IsRight F meaning old → IsRight F meaning one → length one.pool.bytes < POOL_LIMIT → IsRope (table_of meaning old) x → ¬ AppendsTooLong (table_of meaning old) x bytes
    → Rebuilds meaning old (rope_cells (table_of meaning old) x) (kept_pieces (table_of meaning old) x) (Ok rope) one → Appends meaning one rope bytes plain new
    → Anew meaning old (rope_cells (table_of meaning old) x ++ map Byte bytes) (append_growth (table_of meaning old) x (length bytes)) (lifted plain) new
append_called {F = F} meaning old one new x rope bytes plain k0 k1 below there short first done =
    let t0 = table_of meaning old in
    let t1 = table_of meaning one in
    let a = stands_for meaning old one x rope _ k0.sound k0.true_records k1.sound k1.true_records there first in
    let still : ¬ AppendsTooLong t1 rope bytes = λ long. ⊎_elim (λ (many : BLOCK_SIZE < length bytes). short (inl many)) (λ (far : 2 ^ 40 ≤ rope_len t1 rope + length bytes). short (inr (omega (arith, far, a.len)))) long in
    let sized = sized_append one.pool t1 k1.sound k1.true_records rope a.is_rope bytes done.addition (done.is still) in
    let low = sized.shallow a.shallow in
    let p = kept_pieces t0 x in
    let grows : Grows meaning old (length old.nodes + (2 * p + 2 * 0)) (length old.pool.bytes + (31 * p + 31 * 0)) one = grows_within (rebuilt_grows first) (omega arith) (omega arith) in
    called_anew meaning old one new done.addition (rope_cells t0 x ++ map Byte bytes) (rope_cells t1 rope ++ map Byte bytes) (AppendsTooLong t1 rope bytes) p 0 3 (length bytes + 31) plain grows (few_pieces first) (λ many. omega (arith, many))
    sized.few (nodes_wanted one done.addition below (append_some one.pool t1 rope bytes done.addition (done.is still))) (λ deep. omega (arith, deep, low)) still done.makes done.refuses (rw a.text refl)
    (append_roughly meaning one new (rope_cells t1 rope ++ map Byte bytes) rope bytes done.addition k1.sound k1.true_records a.is_rope first.shallow (done.is still) plain done.makes)
