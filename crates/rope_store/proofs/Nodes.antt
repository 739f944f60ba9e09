-- New nodes of each kind: they keep every rule, and what they denote.
use Rattle.std.proofs.Common.{◌≡◌, ℕ, ◌+◌, ◌<◌, ◌≤◌, max, List, [], ◌∷◌, ◌++◌, length, map, get_or, take, drop, Option, Some, None, refl, sym, ap, subst, ◌∙◌, arith, le_refl, length-append, add-zero}
use Rattle.std.specs.List.{slice_range, range_with_len}
use Rattle.std.proofs.lemmas.List.{get_or_push}
use Rattle.leaf_buffer.specs.declared.pool.TheConstants.{POOL_LIMIT}
use Rattle.rope_node.specs.declared.limits.TheConstants.{TEXT_LIMIT}
use Rattle.leaf_buffer.specs.Contents.{Contents, IsInOneBlock}
use Rattle.rope_node.specs.declared.node.NodeId.{NodeId}
use Rattle.rope_node.specs.Table.{len_at, depth_at, IsSoundNode, IsTrueNode}
use Rattle.rope_node.specs.Denotes.{Cell, Byte, Place, cells, node_cells, rope_cells, IsRope}
use Rattle.rope_node.specs.Extends.{Extends}
use Rattle.rope_node.proofs.Extensions.{sound_kept, true_kept, cells_kept}
use Rattle.node_table.specs.declared.record.Record.{Record}
use Rattle.function_leaf.specs.Optional.{answer_of}
use Rattle.node_table.specs.Held.{Held, node_of, table_of, with_records, IsKeptNode, CanHold}
use Rattle.node_table.specs.Records.{literal_record, source_record, function_record, concatenation_record, part_record}
use Rattle.rope_store.specs.Additions.{new_node}
use Rattle.leaf_buffer.proofs.PoolGrowth.{PoolGrows}
use Rattle.rope_store.proofs.Growth.{Holds, sound_of, holds_after, extends_with, can_hold_one, can_hold_both, cells_of_last, with_records_twice}

-- new nodes keep every rule, and the rope over them denotes these cells
pub record IsGood {F : Type 0} (meaning : F → ℕ → ℕ) (h : Held F) (pool : Contents) (rs : List (Record F)) (rope : Option NodeId) (wanted : List Cell) : Type 0 where
  pub can : CanHold meaning h pool rs
  pub is_rope : IsRope (table_of meaning (with_records h pool rs)) rope
  pub text : length pool.bytes < POOL_LIMIT → rope_cells (table_of meaning (with_records h pool rs)) rope ≡ wanted

one_good : {F : Type 0} (meaning : F → ℕ → ℕ) (h : Held F) (pool : Contents) (r : Record F) (wanted : List Cell) → Holds meaning h → PoolGrows h.pool pool → IsSoundNode (table_of meaning (with_records h pool (r ∷ []))) (length h.nodes) (node_of r) → IsTrueNode (table_of meaning (with_records h pool (r ∷ []))) (node_of r) → IsKeptNode pool r.len r.view r.function
    → (length pool.bytes < POOL_LIMIT → node_cells (table_of meaning (with_records h pool (r ∷ []))) (cells (table_of meaning (with_records h pool (r ∷ [])))) (length h.nodes) r.len r.view ≡ wanted) → IsGood meaning h pool (r ∷ []) (Some (new_node (table_of meaning h) 0)) wanted
one_good meaning h pool r wanted holds grows sound true_record kept is =
    let can = can_hold_one meaning h pool r holds.functions sound true_record kept in
    let t = table_of meaning (with_records h pool (r ∷ [])) in
    record {
      can = can;
      is_rope = omega (arith, length-append h.nodes (node_of r ∷ []));
      text = λ short.
          ap (cells t) (add-zero (length h.nodes)) ∙ cells_of_last meaning h pool r (sound_of meaning (with_records h pool (r ∷ [])) (holds_after meaning h pool (r ∷ []) holds grows can) short) ∙ is short;
    }

-- nodes behind a first one
pub then_good : {F : Type 0} (meaning : F → ℕ → ℕ) (h : Held F) (pool : Contents) (rs ss : List (Record F)) (first rope : Option NodeId) (below wanted : List Cell) → Holds meaning h → PoolGrows h.pool pool → IsGood meaning h pool rs first below → IsGood meaning (with_records h pool rs) pool ss rope wanted → IsGood meaning h pool (rs ++ ss) rope wanted
then_good meaning h pool rs ss first rope below wanted holds grows one two =
    let twice = with_records_twice h pool rs ss in
    record {
      can = can_hold_both meaning h pool rs ss holds grows one.can two.can;
      is_rope = subst (λ k. IsRope (table_of meaning k) rope) twice two.is_rope;
      text = λ short. ap (λ k. rope_cells (table_of meaning k) rope) (sym twice) ∙ two.text short;
    }

-- a literal over a span of the pool
pub literal_good : {F : Type 0} (meaning : F → ℕ → ℕ) (h : Held F) (pool : Contents) (a n : ℕ) → Holds meaning h → PoolGrows h.pool pool → IsInOneBlock pool a n → 1 ≤ n → n < TEXT_LIMIT → IsGood meaning h pool (literal_record a n ∷ []) (Some (new_node (table_of meaning h) 0)) (map Byte (slice_range pool.bytes a (a + n)))
literal_good meaning h pool a n holds grows span some short =
    one_good meaning h pool (literal_record a n) (map Byte (slice_range pool.bytes a (a + n))) holds grows
    (record { references = tt; not_empty = some; not_long = short; not_deep = omega arith; span = span.inside })
    (record { len = tt; depth = refl }) (refl, span) (λ _. refl)

pub source_good : {F : Type 0} (meaning : F → ℕ → ℕ) (h : Held F) (pool : Contents) (s a n : ℕ) → Holds meaning h → PoolGrows h.pool pool → s < length h.sources → a + n ≤ get_or h.sources s 0 → 1 ≤ n → IsGood meaning h pool (source_record s a n ∷ []) (Some (new_node (table_of meaning h) 0)) (map (Place s) (range_with_len a n))
source_good meaning h pool s a n holds grows there inside some =
    one_good meaning h pool (source_record s a n) (map (Place s) (range_with_len a n)) holds grows
    (record { references = there; not_empty = some; not_long = omega (arith, holds.sources s); not_deep = omega arith; span = inside })
    (record { len = tt; depth = refl }) refl (λ _. refl)

pub function_good : {F : Type 0} (meaning : F → ℕ → ℕ) (h : Held F) (pool : Contents) (f : F) (n : ℕ) → Holds meaning h → PoolGrows h.pool pool → 1 ≤ n → n < TEXT_LIMIT → IsGood meaning h pool (function_record f n ∷ []) (Some (new_node (table_of meaning h) 0)) (map (λ k. Byte (meaning f k)) (range_with_len 0 n))
function_good {F = F} meaning h pool f n holds grows some short =
    one_good meaning h pool (function_record f n) (map (λ k. Byte (meaning f k)) (range_with_len 0 n)) holds grows
    (record { references = tt; not_empty = some; not_long = short; not_deep = omega arith; span = tt })
    (record { len = tt; depth = refl }) tt (λ _. ap (λ (g : Option F). map (λ k. Byte (answer_of meaning g k)) (range_with_len 0 n)) (get_or_push h.functions (Some f) None (length h.nodes) holds.functions))

pub concatenation_good : {F : Type 0} (meaning : F → ℕ → ℕ) (h : Held F) (pool : Contents) (l r : NodeId) (n d : ℕ) → Holds meaning h → PoolGrows h.pool pool → l.0 < length h.nodes → r.0 < length h.nodes → n ≡ len_at (table_of meaning h) l.0 + len_at (table_of meaning h) r.0 → d ≡ 1 + max (depth_at (table_of meaning h) l.0) (depth_at (table_of meaning h) r.0) → n < TEXT_LIMIT → d ≤ 64
    → IsGood meaning h pool (concatenation_record l r n d ∷ []) (Some (new_node (table_of meaning h) 0)) (cells (table_of meaning h) l.0 ++ cells (table_of meaning h) r.0)
concatenation_good meaning h pool l r n d holds grows left right is_long is_deep short shallow =
    let t = table_of meaning h in
    let rec = concatenation_record l r n d in
    let new = table_of meaning (with_records h pool (rec ∷ [])) in
    let e : Extends t new = extends_with meaning h pool (rec ∷ []) holds.functions grows in
    let sound : IsSoundNode t (length h.nodes) (node_of rec) =
    record { references = (left, right); not_empty = omega (arith, (holds.nodes l.0 left).sound.not_empty); not_long = short; not_deep = shallow; span = tt } in
    one_good meaning h pool rec (cells t l.0 ++ cells t r.0) holds grows (sound_kept t new e (length h.nodes) (node_of rec) (le_refl _) sound)
    (true_kept t new e (length h.nodes) (node_of rec) (le_refl _) sound (record { len = is_long; depth = is_deep })) refl
    (λ few. let old = sound_of meaning h holds (omega (arith, grows.longer)) in rw (cells_kept t new old e l.0 left, cells_kept t new old e r.0 right) refl)

pub part_good : {F : Type 0} (meaning : F → ℕ → ℕ) (h : Held F) (pool : Contents) (b : NodeId) (i n d : ℕ) → Holds meaning h → PoolGrows h.pool pool → b.0 < length h.nodes → i + n ≤ len_at (table_of meaning h) b.0 → 1 ≤ n → d ≡ 1 + depth_at (table_of meaning h) b.0 → d ≤ 64
    → IsGood meaning h pool (part_record b i n d ∷ []) (Some (new_node (table_of meaning h) 0)) (take n (drop i (cells (table_of meaning h) b.0)))
part_good meaning h pool b i n d holds grows there inside some is_deep shallow =
    let t = table_of meaning h in
    let rec = part_record b i n d in
    let new = table_of meaning (with_records h pool (rec ∷ [])) in
    let e : Extends t new = extends_with meaning h pool (rec ∷ []) holds.functions grows in
    let sound : IsSoundNode t (length h.nodes) (node_of rec) =
    record { references = there; not_empty = some; not_long = omega (arith, (holds.nodes b.0 there).sound.not_long); not_deep = shallow; span = inside } in
    one_good meaning h pool rec (take n (drop i (cells t b.0))) holds grows (sound_kept t new e (length h.nodes) (node_of rec) (le_refl _) sound)
    (true_kept t new e (length h.nodes) (node_of rec) (le_refl _) sound (record { len = tt; depth = is_deep })) refl
    (λ few. let old = sound_of meaning h holds (omega (arith, grows.longer)) in rw (cells_kept t new old e b.0 there) refl)
