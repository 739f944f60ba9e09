-- Literals that grow in place, and bytes put before their merged copy.
use Rattle.std.proofs.Common.{◌≡◌, ℕ, ◌+◌, ◌<◌, ◌≤◌, List, [], ◌∷◌, ◌++◌, length, map, Option, Some, None, refl, sym, ap, subst, ◌∙◌, arith, add-zero, length-append, append_assoc}
use Rattle.std.specs.List.{slice_range}
use Rattle.leaf_buffer.specs.declared.block.TheConstants.{BLOCK_SIZE}
use Rattle.rope_node.specs.declared.limits.TheConstants.{TEXT_LIMIT}
use Rattle.leaf_buffer.specs.Contents.{Contents, IsLastPiece, appended, extended}
use Rattle.rope_node.specs.declared.node.NodeId.{NodeId}
use Rattle.rope_node.specs.declared.node.NodeView.{NodeView}
use Rattle.rope_node.specs.declared.node.NodeView.TheVariants.{Lit, Src, Fun, Cat, Sub}
use Rattle.rope_node.specs.Table.{Table, view_at, len_at, depth_at, IsLiteral, IsSound, literal_bytes}
use Rattle.rope_node.specs.Denotes.{Cell, Byte, cells, rope_cells, rope_len, rope_depth, IsRope}
use Rattle.rope_node.specs.Extends.{Extends}
use Rattle.rope_node.proofs.Extensions.{cells_kept, len_kept, depth_kept}
use Rattle.node_table.specs.declared.record.Record.{Record}
use Rattle.node_table.specs.Held.{Held, node_of, table_of, with_records}
use Rattle.node_table.specs.Held.{IsKept}
use Rattle.node_table.specs.Records.{literal_record, concatenation_record}
use Rattle.rope_store.specs.Additions.{new_node}
use Rattle.rope_store.specs.Joining.{piece}
use Rattle.rope_store.specs.Appending.{literal_place, grown, merged_after}
use Rattle.leaf_buffer.proofs.Appending.{appended_bytes, in_one_block_appended}
use Rattle.leaf_buffer.proofs.Pieces.{in_one_block_part}
use Rattle.leaf_buffer.proofs.PoolGrowth.{grows_itself, grows_extended, grows_appended, in_one_block_grown, slice_grown, slice_at_end}
use Rattle.rope_store.proofs.Growth.{holds_of, holds_after, sound_of, extends_with}
use Rattle.rope_store.proofs.Nodes.{IsGood, literal_good, then_good}
use Rattle.rope_store.proofs.MergedTexts.{good_as, rejoined_good}

-- a literal lies in the pool
span_by : (t : Table) → IsSound t → (x : NodeId) → x.0 < length t.nodes → (v : NodeView) → view_at t x.0 ≡ v → IsLiteral v → literal_place v + len_at t x.0 ≤ length t.pool
span_by t s x there (Lit a) is literal = rw is at (s.nodes x.0 there).span
span_by t s x there (Src s' a) is literal = absurd literal
span_by t s x there Fun is literal = absurd literal
span_by t s x there (Cat l r) is literal = absurd literal
span_by t s x there (Sub b i) is literal = absurd literal

pub literal_span : (t : Table) → IsSound t → (x : NodeId) → x.0 < length t.nodes → IsLiteral (view_at t x.0) → literal_place (view_at t x.0) + len_at t x.0 ≤ length t.pool
literal_span t s x there literal = span_by t s x there (view_at t x.0) refl literal

piece_by : (t : Table) (n : ℕ) (v : NodeView) → IsLiteral v → slice_range t.pool (literal_place v) (literal_place v + n) ≡ literal_bytes t 0 n v
piece_by t n (Lit a) literal = ap (λ (k : ℕ). slice_range t.pool k (a + n)) (sym (add-zero a))
piece_by t n (Src s a) literal = absurd literal
piece_by t n Fun literal = absurd literal
piece_by t n (Cat l r) literal = absurd literal
piece_by t n (Sub b i) literal = absurd literal

-- the longer literal, behind what stands before it
pub grown_good : {F : Type 0} (meaning : F → ℕ → ℕ) (h : Held F) → IsKept meaning h → (before : Option NodeId) (x : NodeId) (bytes : List ℕ) → IsLiteral (view_at (table_of meaning h) x.0) → IsLastPiece h.pool (literal_place (view_at (table_of meaning h) x.0)) (len_at (table_of meaning h) x.0) → IsRope (table_of meaning h) before
    → rope_len (table_of meaning h) before + (len_at (table_of meaning h) x.0 + length bytes) < TEXT_LIMIT → 1 + rope_depth (table_of meaning h) before ≤ 64
    → IsGood meaning h (extended h.pool bytes) (grown {F = F} (table_of meaning h) before (literal_place (view_at (table_of meaning h) x.0)) (len_at (table_of meaning h) x.0) bytes).records (grown {F = F} (table_of meaning h) before (literal_place (view_at (table_of meaning h) x.0)) (len_at (table_of meaning h) x.0) bytes).rope
    (rope_cells (table_of meaning h) before ++ map Byte (piece (table_of meaning h) x ++ bytes))
grown_good {F = F} meaning h store None x bytes literal last there short shallow =
    let t = table_of meaning h in
    let a = literal_place (view_at t x.0) in
    let n = len_at t x.0 in
    let pool = extended h.pool bytes in
    let text : slice_range pool.bytes a (a + (n + length bytes)) ≡ piece t x ++ bytes = slice_grown h.pool.bytes bytes a n last.last ∙ ap (λ (bs : List ℕ). bs ++ bytes) (piece_by t n (view_at t x.0) literal) in
    let lit : Record F = literal_record a (n + length bytes) in
    good_as meaning h pool (lit ∷ []) (Some (new_node t 0)) (Some (new_node t 0)) (map Byte (slice_range pool.bytes a (a + (n + length bytes)))) (map Byte (piece t x ++ bytes)) refl (λ few. ap (map Byte) text)
    (literal_good meaning h pool a (n + length bytes) (holds_of meaning h store) (grows_extended h.pool bytes store.borders) (in_one_block_grown h.pool a n bytes store.borders last) (omega (arith, last.not_empty)) (omega (arith, short)))
grown_good {F = F} meaning h store (Some l) x bytes literal last there short shallow =
    let t = table_of meaning h in
    let a = literal_place (view_at t x.0) in
    let n = len_at t x.0 in
    let k = n + length bytes in
    let pool = extended h.pool bytes in
    let text : slice_range pool.bytes a (a + k) ≡ piece t x ++ bytes = slice_grown h.pool.bytes bytes a n last.last ∙ ap (λ (bs : List ℕ). bs ++ bytes) (piece_by t n (view_at t x.0) literal) in
    let lit : Record F = literal_record a k in
    good_as meaning h pool (lit ∷ concatenation_record l (new_node t 0) (len_at t l.0 + k) (1 + depth_at t l.0) ∷ []) (Some (new_node t 1)) (Some (new_node t 1)) (cells t l.0 ++ map Byte (slice_range pool.bytes a (a + k))) (cells t l.0 ++ map Byte (piece t x ++ bytes)) refl
    (λ few. ap (λ (bs : List ℕ). cells t l.0 ++ map Byte bs) text)
    (rejoined_good meaning h pool l a k (holds_of meaning h store) (grows_extended h.pool bytes store.borders) (in_one_block_grown h.pool a n bytes store.borders last) (omega (arith, last.not_empty)) there short shallow)

second_slice : (old : Contents) (xs ys : List ℕ) → slice_range (appended old (xs ++ ys)).bytes (length old.bytes + length xs) (length old.bytes + length xs + length ys) ≡ ys
second_slice old xs ys =
    rw (appended_bytes old (xs ++ ys), ← append_assoc old.bytes xs ys) (slice_at_end (old.bytes ++ xs) ys (length old.bytes + length xs) (length ys) (sym (length-append old.bytes xs)) refl)

-- bytes as a literal, and then others as one behind what stands before it
pub after_good : {F : Type 0} (meaning : F → ℕ → ℕ) (h : Held F) → IsKept meaning h → (before : Option NodeId) (xs ys : List ℕ) → IsRope (table_of meaning h) before → 1 ≤ length xs → 1 ≤ length ys → length xs + length ys ≤ BLOCK_SIZE → rope_len (table_of meaning h) before + length ys < TEXT_LIMIT → 1 + rope_depth (table_of meaning h) before ≤ 64
    → IsGood meaning h (appended h.pool (xs ++ ys)) (merged_after {F = F} (table_of meaning h) before xs ys).records (merged_after {F = F} (table_of meaning h) before xs ys).rope (rope_cells (table_of meaning h) before ++ map Byte ys)
after_good {F = F} meaning h store None xs ys there some more fits short shallow =
    let t = table_of meaning h in
    let pool = appended h.pool (xs ++ ys) in
    let start = length h.pool.bytes in
    let holds = holds_of meaning h store in
    let grows = grows_appended h.pool (xs ++ ys) store.borders in
    let whole = in_one_block_appended h.pool (xs ++ ys) store.borders in
    let count = length-append xs ys in
    let lit1 : Record F = literal_record start (length xs) in
    let lit2 : Record F = literal_record (start + length xs) (length ys) in
    let h1 : Held F = with_records h pool (lit1 ∷ []) in
    let t1 = table_of meaning h1 in
    let one : IsGood meaning h pool (lit1 ∷ []) (Some (new_node t 0)) (map Byte (slice_range pool.bytes start (start + length xs))) =
    literal_good meaning h pool start (length xs) holds grows (in_one_block_part pool start (length (xs ++ ys)) start (length xs) whole (omega arith) (omega (arith, count))) some (omega (arith, fits)) in
    let two : IsGood meaning h1 pool (lit2 ∷ []) (Some (new_node t1 0)) (map Byte (slice_range pool.bytes (start + length xs) (start + length xs + length ys))) =
    literal_good meaning h1 pool (start + length xs) (length ys) (holds_after meaning h pool (lit1 ∷ []) holds grows one.can) (grows_itself pool grows.borders)
    (in_one_block_part pool start (length (xs ++ ys)) (start + length xs) (length ys) whole (omega arith) (omega (arith, count))) more (omega (arith, fits)) in
    let many : length h1.nodes ≡ length h.nodes + 1 = length-append h.nodes (node_of lit1 ∷ []) in
    let last : Some (new_node t1 0) ≡ Some (new_node t 1) = ap (λ (n : ℕ). let r : Option NodeId = Some (record { 0 = n }) in r) (omega (arith, many)) in
    good_as meaning h pool (lit1 ∷ lit2 ∷ []) (Some (new_node t1 0)) (Some (new_node t 1)) (map Byte (slice_range pool.bytes (start + length xs) (start + length xs + length ys))) (map Byte ys) last (λ few. ap (map Byte) (second_slice h.pool xs ys))
    (then_good meaning h pool (lit1 ∷ []) (lit2 ∷ []) (Some (new_node t 0)) (Some (new_node t1 0)) (map Byte (slice_range pool.bytes start (start + length xs))) (map Byte (slice_range pool.bytes (start + length xs) (start + length xs + length ys))) holds grows one two)
after_good {F = F} meaning h store (Some l) xs ys there some more fits short shallow =
    let t = table_of meaning h in
    let pool = appended h.pool (xs ++ ys) in
    let start = length h.pool.bytes in
    let holds = holds_of meaning h store in
    let grows = grows_appended h.pool (xs ++ ys) store.borders in
    let whole = in_one_block_appended h.pool (xs ++ ys) store.borders in
    let count = length-append xs ys in
    let lit1 : Record F = literal_record start (length xs) in
    let lit2 : Record F = literal_record (start + length xs) (length ys) in
    let h1 : Held F = with_records h pool (lit1 ∷ []) in
    let t1 = table_of meaning h1 in
    let e : Extends t t1 = extends_with meaning h pool (lit1 ∷ []) holds.functions grows in
    let llen : len_at t1 l.0 ≡ len_at t l.0 = len_kept t t1 e l.0 there in
    let ldepth : depth_at t1 l.0 ≡ depth_at t l.0 = depth_kept t t1 e l.0 there in
    let one : IsGood meaning h pool (lit1 ∷ []) (Some (new_node t 0)) (map Byte (slice_range pool.bytes start (start + length xs))) =
    literal_good meaning h pool start (length xs) holds grows (in_one_block_part pool start (length (xs ++ ys)) start (length xs) whole (omega arith) (omega (arith, count))) some (omega (arith, fits)) in
    let many : length h1.nodes ≡ length h.nodes + 1 = length-append h.nodes (node_of lit1 ∷ []) in
    let slice = slice_range pool.bytes (start + length xs) (start + length xs + length ys) in
    let cat1 : Record F = concatenation_record l (new_node t1 0) (len_at t1 l.0 + length ys) (1 + depth_at t1 l.0) in
    let cat : Record F = concatenation_record l (new_node t 1) (len_at t l.0 + length ys) (1 + depth_at t l.0) in
    let two : IsGood meaning h1 pool (lit2 ∷ cat1 ∷ []) (Some (new_node t1 1)) (cells t1 l.0 ++ map Byte slice) =
    rejoined_good meaning h1 pool l (start + length xs) (length ys) (holds_after meaning h pool (lit1 ∷ []) holds grows one.can) (grows_itself pool grows.borders)
    (in_one_block_part pool start (length (xs ++ ys)) (start + length xs) (length ys) whole (omega arith) (omega (arith, count))) more (omega (arith, there, many)) (omega (arith, llen, short)) (omega (arith, ldepth, shallow)) in
    let node : length h1.nodes + 0 ≡ length h.nodes + 1 = omega (arith, many) in
    let same : cat1 ≡ cat = rw (node, llen, ldepth) refl in
    let last : Some (new_node t1 1) ≡ Some (new_node t 2) = ap (λ (n : ℕ). let r : Option NodeId = Some (record { 0 = n }) in r) (omega (arith, many)) in
    subst (λ (r : Record F). IsGood meaning h pool (lit1 ∷ lit2 ∷ r ∷ []) (Some (new_node t 2)) (cells t l.0 ++ map Byte ys)) same
    (good_as meaning h pool (lit1 ∷ lit2 ∷ cat1 ∷ []) (Some (new_node t1 1)) (Some (new_node t 2)) (cells t1 l.0 ++ map Byte slice) (cells t l.0 ++ map Byte ys) last
    (λ few. let old = sound_of meaning h holds (omega (arith, grows.longer)) in ap (λ (cs : List Cell). cs ++ map Byte slice) (cells_kept t t1 old e l.0 there) ∙ ap (λ (bs : List ℕ). cells t l.0 ++ map Byte bs) (second_slice h.pool xs ys))
    (then_good meaning h pool (lit1 ∷ []) (lit2 ∷ cat1 ∷ []) (Some (new_node t 0)) (Some (new_node t1 1)) (map Byte (slice_range pool.bytes start (start + length xs))) (cells t1 l.0 ++ map Byte slice) holds grows one two))

-- the records that are put, as the addition names them
pub grown_one : {F : Type 0} (t : Table) (x : NodeId) (bytes : List ℕ) {a n : ℕ} (r : Record F) → r ≡ literal_record a (n + length bytes) → a ≡ literal_place (view_at t x.0) → n ≡ len_at t x.0 → r ∷ [] ≡ literal_record (literal_place (view_at t x.0)) (len_at t x.0 + length bytes) ∷ []
grown_one t x bytes r is_literal is_place is_len = rw (is_literal, is_place, is_len) refl

pub grown_two : {F : Type 0} (t : Table) (x l : NodeId) (bytes : List ℕ) (first len depth : ℕ) {a n : ℕ} (r s : Record F) → r ≡ literal_record a (n + length bytes) → s ≡ concatenation_record l (record { 0 = first }) (len + (n + length bytes)) (1 + depth) → a ≡ literal_place (view_at t x.0) → n ≡ len_at t x.0 → first ≡ length t.nodes → len ≡ len_at t l.0 → depth ≡ depth_at t l.0
    → r ∷ s ∷ [] ≡ literal_record (literal_place (view_at t x.0)) (len_at t x.0 + length bytes) ∷ concatenation_record l (new_node t 0) (len_at t l.0 + (len_at t x.0 + length bytes)) (1 + depth_at t l.0) ∷ []
grown_two t x l bytes first len depth r s is_literal is_cat is_place is_len is_first is_left is_depth =
    let last : first ≡ length t.nodes + 0 = omega arith in
    rw (is_literal, is_cat, is_place, is_len, last, is_left, is_depth) refl

pub after_pair : {F : Type 0} (t : Table) (first count xs ys : ℕ) {start : ℕ} (r s : Record F) → r ≡ literal_record start first → s ≡ literal_record (start + first) count → start ≡ length t.pool → first ≡ xs → count ≡ ys → r ∷ s ∷ [] ≡ literal_record (length t.pool) xs ∷ literal_record (length t.pool + xs) ys ∷ []
after_pair t first count xs ys r s is_one is_two is_start is_first is_count = rw (is_one, is_two, is_start, is_first, is_count) refl

pub after_three : {F : Type 0} (t : Table) (l : NodeId) (first count xs ys last len depth : ℕ) {start : ℕ} (r s q : Record F) → r ≡ literal_record start first → s ≡ literal_record (start + first) count → q ≡ concatenation_record l (record { 0 = last }) (len + count) (1 + depth)
    → start ≡ length t.pool → first ≡ xs → count ≡ ys → last ≡ length t.nodes + 1 → len ≡ len_at t l.0 → depth ≡ depth_at t l.0
    → r ∷ s ∷ q ∷ [] ≡ literal_record (length t.pool) xs ∷ literal_record (length t.pool + xs) ys ∷ concatenation_record l (new_node t 1) (len_at t l.0 + ys) (1 + depth_at t l.0) ∷ []
after_three t l first count xs ys last len depth r s q is_one is_two is_cat is_start is_first is_count is_last is_len is_depth =
    rw (is_one, is_two, is_cat, is_start, is_first, is_count, is_last, is_len, is_depth) refl
