-- Parts of nodes.
use Rattle.std.proofs.Common.{◌≡◌, ℕ, zero, suc, ◌+◌, ◌-◌, ◌<◌, ◌≤◌, min, eqb, List, [], ◌∷◌, length, map, get_or, take, drop, Some, None, refl, sym, ap, subst, ◌∙◌, arith, length-drop}
use Rattle.std.specs.List.{slice_range, range_with_len}
use Rattle.std.proofs.lemmas.Bool.{cond_both, eqb-true, eqb-false}
use Rattle.std.proofs.lemmas.List.{take_min, take-map, drop-map, take_all}
use Rattle.leaf_buffer.specs.Contents.{Contents, IsInOneBlock, appended}
use Rattle.rope_node.specs.declared.node.NodeId.{NodeId}
use Rattle.rope_node.specs.declared.node.NodeView.TheVariants.{Lit, Src, Sub}
use Rattle.rope_node.specs.Table.{Table, len_at, view_at, depth_at}
use Rattle.rope_node.specs.Denotes.{Cell, Byte, Place, cells}
use Rattle.rope_node.proofs.Cells.{cells_at}
use Rattle.rope_node.proofs.Parts.{span_within, span-range_with_len}
use Rattle.node_table.specs.Held.{Held, table_of}
use Rattle.node_table.specs.Held.{IsKept}
use Rattle.node_table.specs.Records.{literal_record, source_record, part_record}
use Rattle.rope_store.specs.Additions.{Addition, new_node, nothing, inner_part, node_part}
use Rattle.leaf_buffer.proofs.Appending.{appended_nothing}
use Rattle.leaf_buffer.proofs.Pieces.{in_one_block_part}
use Rattle.leaf_buffer.proofs.PoolGrowth.{grows_appended}
use Rattle.rope_store.proofs.Growth.{holds_of, sound_of}
use Rattle.rope_store.proofs.Nodes.{IsGood, literal_good, source_good, part_good}

pub no_part : {F : Type 0} (t : Table) (x : NodeId) (i n : ℕ) → n ≡ 0 → ◌≡◌ {A = Addition F} (node_part t x i n) (nothing None)
no_part t x i zero none = refl
no_part t x i (suc n) none = absurd (omega arith)

pub whole_part : {F : Type 0} (t : Table) (x : NodeId) (i n : ℕ) → 0 < n → n ≡ len_at t x.0 → ◌≡◌ {A = Addition F} (node_part t x i n) (nothing (Some x))
whole_part t x i zero some all = absurd (omega arith)
whole_part {F = F} t x i (suc n) some all =
    let whole : Addition F = nothing (Some x) in
    cond_both (eqb (suc n) (len_at t x.0)) whole (inner_part t x i (suc n) (view_at t x.0)) (λ (a : Addition F). a ≡ whole) (λ _. refl) (λ e. absurd (eqb-false (suc n) (len_at t x.0) e all))

pub some_part : {F : Type 0} (t : Table) (x : NodeId) (i n : ℕ) → 0 < n → ¬ (n ≡ len_at t x.0) → ◌≡◌ {A = Addition F} (node_part t x i n) (inner_part t x i n (view_at t x.0))
some_part t x i zero some less = absurd (omega arith)
some_part {F = F} t x i (suc n) some less =
    let inner : Addition F = inner_part t x i (suc n) (view_at t x.0) in
    cond_both (eqb (suc n) (len_at t x.0)) (nothing (Some x)) inner (λ (a : Addition F). a ≡ inner) (λ e. absurd (less (eqb-true (suc n) (len_at t x.0) e))) (λ _. refl)

-- no more is taken than there is
pub take_least : {X : Type 0} (xs : List X) (i n m : ℕ) → length xs ≡ m → take (min n (m - i)) (drop i xs) ≡ take n (drop i xs)
take_least xs i n m many =
    let rest : m - i ≡ length (drop i xs) = omega (arith, length-drop i xs) in
    rw rest (take_min n (drop i xs))

pub take_whole : {X : Type 0} (xs : List X) (i n : ℕ) → n ≤ length xs - i → n ≡ length xs → 0 < n → take n (drop i xs) ≡ xs
take_whole xs i n inside all some =
    let first : i ≡ 0 = omega arith in
    rw first (take_all n xs (omega arith))

-- a part of a part
part_of_part : {X : Type 0} (xs : List X) (j m i n : ℕ) → i + n ≤ m → take n (drop i (take m (drop j xs))) ≡ take n (drop (j + i) xs)
part_of_part xs j m i n inside = span_within n i m j xs inside ∙ ap (λ (k : ℕ). take n (drop k xs)) (omega arith)

-- a part of a literal
pub literal_part_good : {F : Type 0} (meaning : F → ℕ → ℕ) (h : Held F) → IsKept meaning h → (x : NodeId) (a i n : ℕ) → x.0 < length h.nodes → view_at (table_of meaning h) x.0 ≡ Lit a → 0 < n → i + n ≤ len_at (table_of meaning h) x.0
    → IsGood meaning h (appended h.pool []) (literal_record (a + i) n ∷ []) (Some (new_node (table_of meaning h) 0)) (take n (drop i (cells (table_of meaning h) x.0)))
literal_part_good {F = F} meaning h store x a i n there is some inside =
    let t = table_of meaning h in
    let len = len_at t x.0 in
    let holds = holds_of meaning h store in
    let sound = sound_of meaning h holds store.pool in
    let good = holds.nodes x.0 there in
    let kept : (get_or h.functions x.0 None ≡ None) × IsInOneBlock h.pool a len = rw is at good.kept in
    let span : IsInOneBlock h.pool a len = kept.1 in
    let part : IsInOneBlock h.pool (a + i) n = in_one_block_part h.pool a len (a + i) n span (omega arith) (omega arith) in
    let same = appended_nothing h.pool in
    let size : a + len - a ≡ len = omega arith in
    let less : a + i + n - (a + i) ≡ n = omega arith in
    let bytes : slice_range h.pool.bytes (a + i) (a + i + n) ≡ take n (drop i (slice_range h.pool.bytes a (a + len))) =
    rw (size, less) (sym (part_of_part h.pool.bytes a len i n inside)) in
    let text : map Byte (slice_range (appended h.pool []).bytes (a + i) (a + i + n)) ≡ take n (drop i (cells t x.0)) =
    ap (λ (p : Contents). map Byte (slice_range p.bytes (a + i) (a + i + n))) same ∙ ap (map Byte) bytes ∙ sym (take-map Byte n (drop i (slice_range h.pool.bytes a (a + len))))
    ∙ ap (take n) (sym (drop-map Byte i (slice_range h.pool.bytes a (a + len)))) ∙ ap (λ (cs : List Cell). take n (drop i cs)) (sym (cells_at t sound x.0 there (Lit a) is)) in
    subst (λ (cs : List Cell). IsGood meaning h (appended h.pool []) (literal_record (a + i) n ∷ []) (Some (new_node t 0)) cs) text
    (literal_good meaning h (appended h.pool []) (a + i) n holds (grows_appended h.pool [] store.borders) (subst (λ (p : Contents). IsInOneBlock p (a + i) n) (sym same) part) some (omega (arith, good.sound.not_long)))

pub source_part_good : {F : Type 0} (meaning : F → ℕ → ℕ) (h : Held F) → IsKept meaning h → (x : NodeId) (s a i n : ℕ) → x.0 < length h.nodes → view_at (table_of meaning h) x.0 ≡ Src s a → 0 < n → i + n ≤ len_at (table_of meaning h) x.0
    → IsGood meaning h (appended h.pool []) (source_record s (a + i) n ∷ []) (Some (new_node (table_of meaning h) 0)) (take n (drop i (cells (table_of meaning h) x.0)))
source_part_good {F = F} meaning h store x s a i n there is some inside =
    let t = table_of meaning h in
    let len = len_at t x.0 in
    let holds = holds_of meaning h store in
    let sound = sound_of meaning h holds store.pool in
    let good = holds.nodes x.0 there in
    let source : s < length h.sources = rw is at good.sound.references in
    let span : a + len ≤ get_or h.sources s 0 = rw is at good.sound.span in
    let text : map (Place s) (range_with_len (a + i) n) ≡ take n (drop i (cells t x.0)) =
    ap (map (Place s)) (sym (span-range_with_len n i a len inside)) ∙ sym (take-map (Place s) n (drop i (range_with_len a len)))
    ∙ ap (take n) (sym (drop-map (Place s) i (range_with_len a len))) ∙ ap (λ (cs : List Cell). take n (drop i cs)) (sym (cells_at t sound x.0 there (Src s a) is)) in
    subst (λ (cs : List Cell). IsGood meaning h (appended h.pool []) (source_record s (a + i) n ∷ []) (Some (new_node t 0)) cs) text
    (source_good meaning h (appended h.pool []) s (a + i) n holds (grows_appended h.pool [] store.borders) source (omega arith) some)

-- the base of a part is there, and the part lies in it
pub base_there : {F : Type 0} (meaning : F → ℕ → ℕ) (h : Held F) → IsKept meaning h → (x b : NodeId) (j : ℕ) → x.0 < length h.nodes → view_at (table_of meaning h) x.0 ≡ Sub b j → (b.0 < length h.nodes) × (j + len_at (table_of meaning h) x.0 ≤ len_at (table_of meaning h) b.0)
base_there meaning h store x b j there is =
    let good = (store.nodes x.0 there).sound in
    let below : b.0 < x.0 = rw is at good.references in
    (omega arith, rw is at good.span)

-- a part of a part is one of its base
pub base_text : {F : Type 0} (meaning : F → ℕ → ℕ) (h : Held F) → IsKept meaning h → (x b : NodeId) (j i n : ℕ) → x.0 < length h.nodes → view_at (table_of meaning h) x.0 ≡ Sub b j → i + n ≤ len_at (table_of meaning h) x.0
    → take n (drop (j + i) (cells (table_of meaning h) b.0)) ≡ take n (drop i (cells (table_of meaning h) x.0))
base_text meaning h store x b j i n there is inside =
    let t = table_of meaning h in
    let sound = sound_of meaning h (holds_of meaning h store) store.pool in
    sym (part_of_part (cells t b.0) j (len_at t x.0) i n inside) ∙ ap (λ (cs : List Cell). take n (drop i cs)) (sym (cells_at t sound x.0 there (Sub b j) is))

pub over_good : {F : Type 0} (meaning : F → ℕ → ℕ) (h : Held F) → IsKept meaning h → (b : NodeId) (i n : ℕ) → b.0 < length h.nodes → i + n ≤ len_at (table_of meaning h) b.0 → 0 < n → 1 + depth_at (table_of meaning h) b.0 ≤ 64
    → IsGood meaning h (appended h.pool []) (part_record b i n (1 + depth_at (table_of meaning h) b.0) ∷ []) (Some (new_node (table_of meaning h) 0)) (take n (drop i (cells (table_of meaning h) b.0)))
over_good meaning h store b i n there inside some shallow =
    part_good meaning h (appended h.pool []) b i n (1 + depth_at (table_of meaning h) b.0) (holds_of meaning h store) (grows_appended h.pool [] store.borders) there inside some refl shallow

pub literal_part_is : {F : Type 0} (t : Table) (x : NodeId) (i n a : ℕ) → view_at t x.0 ≡ Lit a → ◌≡◌ {A = Addition F} (inner_part t x i n (view_at t x.0)) (inner_part t x i n (Lit a))
literal_part_is t x i n a is = ap (inner_part t x i n) is

pub source_part_is : {F : Type 0} (t : Table) (x : NodeId) (i n s a : ℕ) → view_at t x.0 ≡ Src s a → ◌≡◌ {A = Addition F} (inner_part t x i n (view_at t x.0)) (inner_part t x i n (Src s a))
source_part_is t x i n s a is = ap (inner_part t x i n) is

pub part_part_is : {F : Type 0} (t : Table) (x b : NodeId) (i n j : ℕ) → view_at t x.0 ≡ Sub b j → ◌≡◌ {A = Addition F} (inner_part t x i n (view_at t x.0)) (inner_part t x i n (Sub b j))
part_part_is t x b i n j is = ap (inner_part t x i n) is
