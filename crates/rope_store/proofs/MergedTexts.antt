-- A new literal behind what stands before it.
use Rattle.std.proofs.Common.{◌≡◌, ℕ, ◌+◌, ◌<◌, ◌≤◌, List, [], ◌∷◌, ◌++◌, length, map, Option, Some, None, refl, ap, subst, ◌∙◌, arith, add-zero, length-append}
use Rattle.std.specs.List.{slice_range}
use Rattle.std.proofs.lemmas.List.{get_or_push}
use Rattle.leaf_buffer.specs.declared.block.TheConstants.{BLOCK_SIZE}
use Rattle.leaf_buffer.specs.declared.pool.TheConstants.{POOL_LIMIT}
use Rattle.rope_node.specs.declared.limits.TheConstants.{TEXT_LIMIT}
use Rattle.leaf_buffer.specs.Contents.{Contents, IsInOneBlock, appended}
use Rattle.rope_node.specs.declared.node.NodeId.{NodeId}
use Rattle.rope_node.specs.Table.{Table, Node, no_node, node_at, len_at, depth_at}
use Rattle.rope_node.specs.Denotes.{Cell, Byte, cells, rope_cells, rope_len, rope_depth, IsRope}
use Rattle.rope_node.specs.Extends.{Extends}
use Rattle.rope_node.proofs.Extensions.{cells_kept, len_kept, depth_kept}
use Rattle.node_table.specs.declared.record.Record.{Record}
use Rattle.node_table.specs.Held.{Held, node_of, table_of, with_records}
use Rattle.node_table.specs.Held.{IsKept}
use Rattle.node_table.specs.Records.{literal_record, concatenation_record}
use Rattle.rope_store.specs.Additions.{new_node}
use Rattle.rope_store.specs.Joining.{merged}
use Rattle.leaf_buffer.proofs.Appending.{appended_bytes, in_one_block_appended}
use Rattle.leaf_buffer.proofs.PoolGrowth.{PoolGrows, grows_itself, grows_appended, slice_at_end}
use Rattle.rope_store.proofs.Growth.{Holds, holds_of, holds_after, sound_of, extends_with}
use Rattle.rope_store.proofs.Nodes.{IsGood, literal_good, concatenation_good, then_good}
use Rattle.rope_store.proofs.LeafTexts.{bytes_good}

-- the same rope and the same text, written otherwise
pub good_as : {F : Type 0} (meaning : F → ℕ → ℕ) (h : Held F) (pool : Contents) (rs : List (Record F)) (rope rope' : Option NodeId) (wanted wanted' : List Cell) → rope ≡ rope' → (length pool.bytes < POOL_LIMIT → wanted ≡ wanted') → IsGood meaning h pool rs rope wanted → IsGood meaning h pool rs rope' wanted'
good_as meaning h pool rs rope rope' wanted wanted' same text good =
    let moved = subst (λ (r : Option NodeId). IsGood meaning h pool rs r wanted) same good in
    record { can = moved.can; is_rope = moved.is_rope; text = λ short. moved.text short ∙ text short }

-- a new literal over a span, and a node over it and what stands before it
pub rejoined_good : {F : Type 0} (meaning : F → ℕ → ℕ) (h : Held F) (pool : Contents) (l : NodeId) (a k : ℕ) → Holds meaning h → PoolGrows h.pool pool → IsInOneBlock pool a k → 1 ≤ k → l.0 < length h.nodes → len_at (table_of meaning h) l.0 + k < TEXT_LIMIT → 1 + depth_at (table_of meaning h) l.0 ≤ 64
    → IsGood meaning h pool (literal_record a k ∷ concatenation_record l (new_node (table_of meaning h) 0) (len_at (table_of meaning h) l.0 + k) (1 + depth_at (table_of meaning h) l.0) ∷ []) (Some (new_node (table_of meaning h) 1)) (cells (table_of meaning h) l.0 ++ map Byte (slice_range pool.bytes a (a + k)))
rejoined_good {F = F} meaning h pool l a k holds grows span some there short shallow =
    let t = table_of meaning h in
    let lit : Record F = literal_record a k in
    let h1 : Held F = with_records h pool (lit ∷ []) in
    let t1 = table_of meaning h1 in
    let z = new_node t 0 in
    let cat : Record F = concatenation_record l z (len_at t l.0 + k) (1 + depth_at t l.0) in
    let bytes = slice_range pool.bytes a (a + k) in
    let one : IsGood meaning h pool (lit ∷ []) (Some z) (map Byte bytes) = literal_good meaning h pool a k holds grows span some (omega arith) in
    let e : Extends t t1 = extends_with meaning h pool (lit ∷ []) holds.functions grows in
    let is : node_at t1 z.0 ≡ node_of lit = ap (node_at t1) (add-zero (length h.nodes)) ∙ get_or_push h.nodes (node_of lit) no_node (length h.nodes) refl in
    let zlen : len_at t1 z.0 ≡ k = ap (λ (n : Node). n.len) is in
    let zdepth : depth_at t1 z.0 ≡ 0 = ap (λ (n : Node). n.depth) is in
    let llen : len_at t1 l.0 ≡ len_at t l.0 = len_kept t t1 e l.0 there in
    let ldepth : depth_at t1 l.0 ≡ depth_at t l.0 = depth_kept t t1 e l.0 there in
    let many : length h1.nodes ≡ length h.nodes + 1 = length-append h.nodes (node_of lit ∷ []) in
    let two : IsGood meaning h1 pool (cat ∷ []) (Some (new_node t1 0)) (cells t1 l.0 ++ cells t1 z.0) =
    concatenation_good meaning h1 pool l z (len_at t l.0 + k) (1 + depth_at t l.0) (holds_after meaning h pool (lit ∷ []) holds grows one.can) (grows_itself pool grows.borders) (omega (arith, many)) (omega (arith, many))
    (omega (arith, zlen, llen)) (omega (arith, zdepth, ldepth)) short shallow in
    let last : Some (new_node t1 0) ≡ Some (new_node t 1) = ap (λ (n : ℕ). let r : Option NodeId = Some (record { 0 = n }) in r) (omega (arith, many)) in
    good_as meaning h pool (lit ∷ cat ∷ []) (Some (new_node t1 0)) (Some (new_node t 1)) (cells t1 l.0 ++ cells t1 z.0) (cells t l.0 ++ map Byte bytes) last
    (λ few. let old = sound_of meaning h holds (omega (arith, grows.longer)) in ap (λ (cs : List Cell). cs ++ cells t1 z.0) (cells_kept t t1 old e l.0 there) ∙ ap (λ (cs : List Cell). cells t l.0 ++ cs) (one.text few))
    (then_good meaning h pool (lit ∷ []) (cat ∷ []) (Some z) (Some (new_node t1 0)) (map Byte bytes) (cells t1 l.0 ++ cells t1 z.0) holds grows one two)

-- bytes that are put as one literal behind what stands before it
pub merged_good : {F : Type 0} (meaning : F → ℕ → ℕ) (h : Held F) → IsKept meaning h → (before : Option NodeId) (bytes : List ℕ) → IsRope (table_of meaning h) before → 1 ≤ length bytes → length bytes ≤ BLOCK_SIZE → rope_len (table_of meaning h) before + length bytes < TEXT_LIMIT → 1 + rope_depth (table_of meaning h) before ≤ 64
    → IsGood meaning h (appended h.pool bytes) (merged {F = F} (table_of meaning h) before bytes).records (merged {F = F} (table_of meaning h) before bytes).rope (rope_cells (table_of meaning h) before ++ map Byte bytes)
merged_good meaning h store None bytes there some fits short shallow = bytes_good meaning h store bytes some fits
merged_good {F = F} meaning h store (Some l) bytes there some fits short shallow =
    let t = table_of meaning h in
    let pool = appended h.pool bytes in
    let start = length h.pool.bytes in
    let many = length bytes in
    let is : slice_range pool.bytes start (start + many) ≡ bytes = rw (appended_bytes h.pool bytes) (slice_at_end h.pool.bytes bytes start many refl refl) in
    good_as meaning h pool (literal_record start many ∷ concatenation_record l (new_node t 0) (len_at t l.0 + many) (1 + depth_at t l.0) ∷ []) (Some (new_node t 1)) (Some (new_node t 1)) (cells t l.0 ++ map Byte (slice_range pool.bytes start (start + many))) (cells t l.0 ++ map Byte bytes) refl
    (λ few. ap (λ (bs : List ℕ). cells t l.0 ++ map Byte bs) is)
    (rejoined_good meaning h pool l start many (holds_of meaning h store) (grows_appended h.pool bytes store.borders) (in_one_block_appended h.pool bytes store.borders) some there short shallow)

-- the two records that are put, as the addition names them
pub two_records : {F : Type 0} (t : Table) (l : NodeId) (start count first len depth : ℕ) (r s : Record F) → r ≡ literal_record start count → s ≡ concatenation_record l (record { 0 = first }) (len + count) (1 + depth) → start ≡ length t.pool → first ≡ length t.nodes → len ≡ len_at t l.0 → depth ≡ depth_at t l.0
    → r ∷ s ∷ [] ≡ literal_record (length t.pool) count ∷ concatenation_record l (new_node t 0) (len_at t l.0 + count) (1 + depth_at t l.0) ∷ []
two_records t l start count first len depth r s is_literal is_cat is_start is_first is_len is_depth =
    let last : first ≡ length t.nodes + 0 = omega arith in
    rw (is_literal, is_cat, is_start, last, is_len, is_depth) refl
