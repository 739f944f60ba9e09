-- Ropes of parts of sources, and their texts.
use Rattle.std.proofs.Common.{◌≡◌, ℕ, zero, suc, ◌+◌, ◌-◌, ◌^◌, ◌<◌, ◌≤◌, List, [], ◌∷◌, ◌++◌, length, map, take, drop, get_or, Option, Some, None, Err, inl, inr, refl, sym, ap, ap₂, subst, ◌∙◌, arith, length-append}
use Rattle.rope_node.specs.declared.limits.TheConstants.{MOST_NODES}
use Rattle.rope_node.specs.declared.limits.TheConstants.{MOST_SOURCES}
use Rattle.std.specs.Prelude.{◌⊎◌, IsSome, IsErrOf, min}
use Rattle.std.specs.List.{range_with_len}
use Rattle.std.proofs.lemmas.Bool.{cases_lt}
use Rattle.std.proofs.lemmas.List.{drop_all, take_all, length-drop, get_or-append-add}
use Rattle.std.proofs.lemmas.List.Elements.{All-get_or, All-map}
use Rattle.std.proofs.lemmas.List.FromFn.{length-range_with_len, length-map-range_with_len}
use Rattle.rope_node.specs.declared.node.NodeId.{NodeId}
use Rattle.rope_node.specs.Table.{Node, Table, no_node}
use Rattle.rope_node.specs.Denotes.{Place, cells_in, node_cells, rope_cells, rope_len, text}
use Rattle.rope_node.specs.Extends.{Extends}
use Rattle.rope_node.proofs.Parts.{span-map, span-range_with_len}
use Rattle.node_table.specs.Held.{Held, table_of}
use Rattle.node_table.specs.declared.fault.NodeFault.{NodeFault}
use Rattle.node_table.specs.declared.fault.NodeFault.TheVariants.{Memory, TooLong, TooDeep, TableFull, PoolFull, BadSpan, TooManySources}
use Rattle.rope_store.specs.Additions.{after, new_node, source_added}
use Rattle.rope_store.specs.Refusals.{Refuses}
use Rattle.leaf_buffer.proofs.Appending.{appended_nothing}
use Rattle.lazy_file.specs.SourceTexts.{AreSizes, Stated, text_at}
use Rattle.lazy_file.specs.declared.sources.TheConstants.{SOURCE_LIMIT}
use Rattle.cord_position.specs.Fetched.{AreStated, EachCell, IsStated, rope_cell}
use Rattle.cord_position.proofs.Spans.{each_cell}
use Rattle.cord_search.specs.Stated.{OfSpan, OfTexts}
use Rattle.cord_tools.specs.Files.{OfFile, OfFiles, file_bytes, file_cells}
use Rattle.cord_tools.specs.Spans.{IsSourcePart, IsSourceSpan, source_leaf}

-- ---- which fault comes

-- a source that may be added wants nothing but memory
pub add_only_memory : {X : Type 0} (e : NodeFault) (n len : ℕ) → n < MOST_SOURCES → len ≤ SOURCE_LIMIT → (e ≡ TooManySources) ⊎ ((e ≡ TooLong) ⊎ (e ≡ Memory))
    → (IsErrOf {T = X} (Err e) TooManySources → n ≡ MOST_SOURCES) → (IsErrOf {T = X} (Err e) TooLong → (n < MOST_SOURCES) × (2 ^ 40 ≤ len)) → e ≡ Memory
add_only_memory e n len few short (inl many) no_more too_long = absurd (omega (arith, few, no_more (ap Err many)))
add_only_memory e n len few short (inr (inl long)) no_more too_long = absurd (omega (arith, short, (too_long (ap Err long)).1))
add_only_memory e n len few short (inr (inr memory)) no_more too_long = memory

-- and so does a part of a source, where few nodes are there
pub part_only_memory : {F : Type 0} (t : Table) (h : Held F) (s a n : ℕ) (e : NodeFault) → Refuses h (source_added {F = F} t s a n) ((length h.sources ≤ s) ⊎ (get_or h.sources s 0 < a + n)) ⊥ (Err e)
    → s < length h.sources → a + n ≤ get_or h.sources s 0 → length h.nodes < MOST_NODES → h.pool.bytes ≡ [] → e ≡ Memory
part_only_memory t h s a n Memory refuses there inside few empty = refl
part_only_memory t h s a n TooLong refuses there inside few empty = absurd (refuses.too_long.0 refl).1
part_only_memory t h s a n TooManySources refuses there inside few empty = absurd (refuses.no_other refl)
part_only_memory t h s a n BadSpan refuses there inside few empty =
    elim (refuses.bad_span.0 refl) [
      | inl past ↦ absurd (omega (arith, past, there))
      | inr past ↦ absurd (omega (arith, past, inside))
    ]
part_only_memory t h s a zero TooDeep refuses there inside few empty = absurd (omega (arith, (refuses.too_deep.0 refl).2))
part_only_memory t h s a (suc n) TooDeep refuses there inside few empty = absurd (omega (arith, (refuses.too_deep.0 refl).2))
part_only_memory t h s a zero TableFull refuses there inside few empty = absurd (omega (arith, (refuses.table_full.0 refl).3, few))
part_only_memory t h s a (suc n) TableFull refuses there inside few empty = absurd (omega (arith, (refuses.table_full.0 refl).3, few))
part_only_memory t h s a zero PoolFull refuses there inside few empty = absurd (omega (arith, (refuses.pool_full.0 refl).4, ap length empty))
part_only_memory t h s a (suc n) PoolFull refuses there inside few empty = absurd (omega (arith, (refuses.pool_full.0 refl).4, ap length empty))

-- ---- which rope is made

span_made : {F : Type 0} (meaning : F → ℕ → ℕ) (old new : Held F) (s a n : ℕ) (rope : Option NodeId) → new ≡ after old (source_added {F = F} (table_of meaning old) s a n)
    → rope ≡ (source_added {F = F} (table_of meaning old) s a n).rope → IsSourceSpan (table_of meaning new) s a n rope
span_made meaning old new s a zero rope table is = subst (IsSourceSpan (table_of meaning new) s a zero) (sym is) refl
span_made {F} meaning old new s a (suc n) rope table is =
    let grown = after old (source_added {F = F} (table_of meaning old) s a (suc n)) in
    let added : List Node = source_leaf s a (suc n) ∷ [] in
    let there : length old.nodes + 0 < length (old.nodes ++ added) = omega (arith, length-append old.nodes added) in
    let leaf : get_or (old.nodes ++ added) (length old.nodes + 0) no_node ≡ source_leaf s a (suc n) = get_or-append-add old.nodes added 0 no_node in
    let made : IsSourceSpan (table_of meaning grown) s a (suc n) (Some (new_node (table_of meaning old) 0)) = (there, leaf) in
    subst (λ (h : Held F). IsSourceSpan (table_of meaning h) s a (suc n) rope) (sym table) (subst (IsSourceSpan (table_of meaning grown) s a (suc n)) (sym is) made)

pub part_made : {F : Type 0} (meaning : F → ℕ → ℕ) (old new : Held F) (s r start count len a n : ℕ) (rope : Option NodeId) → r ≡ s → len ≡ get_or old.sources r 0 → a ≡ min start len → n ≡ min count (len - a)
    → new ≡ after old (source_added {F = F} (table_of meaning old) r a n) → rope ≡ (source_added {F = F} (table_of meaning old) r a n).rope → IsSourcePart (table_of meaning new) s start count rope
part_made {F} meaning old new s r start count len a n rope same_s is_len is_a is_n table is =
    let made : IsSourceSpan (table_of meaning new) r a n rope = span_made {F = F} meaning old new r a n rope table is in
    let sizes : old.sources ≡ new.sources = sym (ap (λ (h : Held F). h.sources) table) in
    rw (is_n, is_a, is_len, same_s, sizes) at made

pub pool_after : {F : Type 0} (meaning : F → ℕ → ℕ) (old new : Held F) (s a n : ℕ) → new ≡ after old (source_added {F = F} (table_of meaning old) s a n) → new.pool ≡ old.pool
pool_after {F} meaning old new s a zero table = ap (λ (h : Held F). h.pool) table ∙ appended_nothing old.pool
pool_after {F} meaning old new s a (suc n) table = ap (λ (h : Held F). h.pool) table ∙ appended_nothing old.pool

-- a later table has the same rope
pub part_kept : (old new : Table) (s start count : ℕ) (rope : Option NodeId) → Extends old new → new.sources ≡ old.sources → IsSourcePart old s start count rope → IsSourcePart new s start count rope
part_kept old new s start count rope extends same is =
    subst (λ (sizes : List ℕ). IsSourceSpan new s (min start (get_or sizes s 0)) (min count (get_or sizes s 0 - min start (get_or sizes s 0))) rope) (sym same)
    (kept (min start (get_or old.sources s 0)) (min count (get_or old.sources s 0 - min start (get_or old.sources s 0))) rope is)
  where
    kept : (a n : ℕ) (rope : Option NodeId) → IsSourceSpan old s a n rope → IsSourceSpan new s a n rope
    kept a n None h = h
    kept a n (Some id) h = (omega (arith, h.0, extends.more_nodes), extends.nodes id.0 h.0 ∙ h.1)

-- ---- its text

span_cells : (t : Table) (s a n : ℕ) (rope : Option NodeId) → IsSourceSpan t s a n rope → rope_cells t rope ≡ map (Place s) (range_with_len a n)
span_cells t s a n None none = sym (ap (λ (m : ℕ). map (Place s) (range_with_len a m)) none)
span_cells t s a n (Some id) is = ap (λ (node : Node). node_cells t (cells_in t id.0) id.0 node.len node.view) is.1

pub places_text : (source : ℕ → ℕ → ℕ) (s : ℕ) (places : List ℕ) → text source (map (Place s) places) ≡ map (source s) places
places_text source s [] = refl
places_text source s (p ∷ places) = ap (λ (bytes : List ℕ). source s p ∷ bytes) (places_text source s places)

range_part : (len start count : ℕ) → take count (drop start (range_with_len 0 len)) ≡ range_with_len (min start len) (min count (len - min start len))
range_part len start count =
    elim (cases_lt len start) [
      | inl past ↦
          let none : drop start (range_with_len 0 len) ≡ [] = drop_all start (range_with_len 0 len) (omega (arith, past, length-range_with_len 0 len)) in
          let nil : take count (drop start (range_with_len 0 len)) ≡ [] = ap (take count) none ∙ take_all count [] (omega arith) in
          let zero_left : min count (len - min start len) ≡ 0 = omega (arith, past) in
          nil ∙ sym (ap (range_with_len (min start len)) zero_left)
      | inr inside ↦ inner inside
    ]
  where
    from_start : (n : ℕ) → start ≤ len → n ≤ len - start → n ≡ min count (len - min start len) → take n (drop start (range_with_len 0 len)) ≡ range_with_len (min start len) (min count (len - min start len))
    from_start n inside fits is = span-range_with_len n start 0 len (omega (arith, inside, fits)) ∙ ap₂ range_with_len (omega (arith, inside)) is

    left : start ≤ len → length (drop start (range_with_len 0 len)) ≤ len - start
    left inside =
        omega (arith, inside, length-range_with_len 0 len, length-drop start (range_with_len 0 len))

    inner : start ≤ len → take count (drop start (range_with_len 0 len)) ≡ range_with_len (min start len) (min count (len - min start len))
    inner inside =
        elim (cases_lt (len - start) count) [
          | inl more ↦
              take_all count (drop start (range_with_len 0 len)) (omega (arith, left inside, more))
              ∙ sym (take_all (len - start) (drop start (range_with_len 0 len)) (left inside))
              ∙ from_start (len - start) inside (omega arith) (omega (arith, inside, more))
          | inr fits ↦ from_start count inside fits (omega (arith, inside, fits))
        ]

part_text : (t : Table) (source : ℕ → ℕ → ℕ) (s start count : ℕ) (rope : Option NodeId) → IsSourcePart t s start count rope → text source (rope_cells t rope) ≡ take count (drop start (file_bytes t.sources source s))
part_text t source s start count rope is =
    let len = get_or t.sources s 0 in
    let a = min start len in
    let n = min count (len - min start len) in
    ap (text source) (span_cells t s a n rope is)
    ∙ places_text source s (range_with_len a n)
    ∙ ap (map (source s)) (sym (range_part len start count))
    ∙ sym (span-map (source s) count start (range_with_len 0 len))

part_stated : (t : Table) (st : Stated) (s start count : ℕ) (rope : Option NodeId) → IsSourcePart t s start count rope → IsSome (text_at st s) → AreStated st (rope_cells t rope)
part_stated t st s start count rope is stated =
    let len = get_or t.sources s 0 in
    let places = range_with_len (min start len) (min count (len - min start len)) in
    subst (AreStated st) (sym (span_cells t s (min start len) (min count (len - min start len)) rope is)) (All-map (IsStated st) (Place s) places (λ k d lt. stated))

-- where the source states its text, each of the rope's cells is stated
each_stated : (t : Table) (st : Stated) (s start count : ℕ) (rope : Option NodeId) → IsSourcePart t s start count rope → IsSome (text_at st s) → (i j : ℕ) → EachCell (rope_cell t rope) i j (IsStated st)
each_stated t st s start count rope is stated i j = each_cell t rope (IsStated st) tt (part_stated t st s start count rope is stated) i j

-- what is told of the rope's text is told of the part of the file
pub of_part : (t : Table) (st : Stated) (s start count : ℕ) (rope : Option NodeId) (i j : ℕ) (P : List ℕ → Type 0) → t.sources ≡ st.sizes → IsSourcePart t s start count rope
    → OfSpan t st rope i j P → OfFile st s (λ u. P (take count (drop start u)))
of_part t st s start count rope i j P own is told source agrees stated =
    subst P (part_text t source s start count rope is ∙ ap (λ (ns : List ℕ). take count (drop start (file_bytes ns source s))) own)
    (told source agrees (each_stated t st s start count rope is stated i j))

-- all the bytes of a file
whole_bytes : (sizes : List ℕ) (source : ℕ → ℕ → ℕ) (s count : ℕ) → AreSizes sizes → s < length sizes → SOURCE_LIMIT ≤ count → take count (drop 0 (file_bytes sizes source s)) ≡ file_bytes sizes source s
whole_bytes sizes source s count limits there big =
    take_all count (file_bytes sizes source s) (omega (arith, big, length-map-range_with_len (source s) 0 (get_or sizes s 0), All-get_or (λ n. n ≤ SOURCE_LIMIT) sizes s 0 there limits.each))

pub of_whole : (st : Stated) (s count : ℕ) (P : List ℕ → Type 0) → AreSizes st.sizes → s < length st.sizes → SOURCE_LIMIT ≤ count → OfFile st s (λ u. P (take count (drop 0 u))) → OfFile st s P
of_whole st s count P limits there big told source agrees stated = subst P (whole_bytes st.sizes source s count limits there big) (told source agrees stated)

pub of_files : (t : Table) (st : Stated) (s r count : ℕ) (x y : Option NodeId) (P : List ℕ → List ℕ → Type 0) → AreSizes st.sizes → s < length st.sizes → r < length st.sizes → SOURCE_LIMIT ≤ count → t.sources ≡ st.sizes
    → IsSourcePart t s 0 count x → IsSourcePart t r 0 count y → OfTexts t st x y P → OfFiles st s r P
of_files t st s r count x y P limits first second big own is other told source agrees here there =
    let bytes : (q : ℕ) (rope : Option NodeId) → q < length st.sizes → IsSourcePart t q 0 count rope → text source (rope_cells t rope) ≡ file_bytes st.sizes source q =
    λ q rope lt part. part_text t source q 0 count rope part ∙ ap (λ (ns : List ℕ). take count (drop 0 (file_bytes ns source q))) own ∙ whole_bytes st.sizes source q count limits lt big in
    let both = told source agrees (each_stated t st s 0 count x is here 0 (rope_len t x)) (each_stated t st r 0 count y other there 0 (rope_len t y)) in
    subst (λ (u : List ℕ). P u (file_bytes st.sizes source r)) (bytes s x first is) (subst (P (text source (rope_cells t x))) (bytes r y second other) both)

-- ---- its cells

pub part_cells : (t : Table) (sizes : List ℕ) (s start count : ℕ) (rope : Option NodeId) → t.sources ≡ sizes → IsSourcePart t s start count rope → rope_cells t rope ≡ take count (drop start (file_cells sizes s))
part_cells t sizes s start count rope own is =
    let len = get_or t.sources s 0 in
    span_cells t s (min start len) (min count (len - min start len)) rope is
    ∙ ap (map (Place s)) (sym (range_part len start count))
    ∙ sym (span-map (Place s) count start (range_with_len 0 len))
    ∙ ap (λ (ns : List ℕ). take count (drop start (file_cells ns s))) own

pub whole_cells : (t : Table) (sizes : List ℕ) (s count : ℕ) (rope : Option NodeId) → t.sources ≡ sizes → AreSizes sizes → s < length sizes → SOURCE_LIMIT ≤ count → IsSourcePart t s 0 count rope → rope_cells t rope ≡ file_cells sizes s
whole_cells t sizes s count rope own limits there big is =
    part_cells t sizes s 0 count rope own is
    ∙ take_all count (file_cells sizes s) (omega (arith, big, length-map-range_with_len (Place s) 0 (get_or sizes s 0), All-get_or (λ n. n ≤ SOURCE_LIMIT) sizes s 0 there limits.each))
