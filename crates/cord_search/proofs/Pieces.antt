-- Bytes of one run are the text's.
use Rattle.std.proofs.Common.{◌≡◌, ℕ, zero, suc, ◌+◌, ◌-◌, ◌<◌, ◌≤◌, min, List, [], ◌++◌, map, length, take, drop, get_or, Option, Some, None, refl, inl, inr, sym, ap, subst, ◌∙◌, arith}
use Rattle.std.specs.Prelude.{Result, Ok, Err, IfSome, IfOk, slice_get}
use Rattle.std.proofs.lemmas.Bool.{cases_lt}
use Rattle.lazy_file.specs.declared.faults.SourceFault.{SourceFault}
use Rattle.std.specs.List.{slice_range, range_with_len}
use Rattle.std.proofs.Math.ListN as ListN
use Rattle.std.proofs.lemmas.List.{get_or-append-add, get_or_append_left, length-append, get_or-map, get_or-take, get_or-drop, get_or_default, ext_get_or, take_all, length-take, length-take-le, length-drop, length-map, map-id}
use Rattle.std.proofs.lemmas.List.FromFn.{length-range_with_len}
use Rattle.std.proofs.lemmas.Option.{slice_get-get_or, slice_get_within, get_or_from_slice_get}
use Rattle.std.proofs.lemmas.Simd.{map-map}
use Rattle.rope_node.specs.declared.node.LeafSpan.{LeafSpan}
use Rattle.rope_node.specs.declared.node.NodeId.{NodeId}
use Rattle.rope_node.specs.declared.node.NodeView.{NodeView}
use Rattle.rope_node.specs.declared.node.NodeView.TheVariants.{Lit, Src, Fun, Cat, Sub}
use Rattle.rope_node.specs.Table.{Table, view_at, len_at, IsLeaf}
use Rattle.rope_node.specs.Denotes.{Cell, Byte, Place, cell_at, cell_byte, cells, cells_in, node_cells, rope_cells, text}
use Rattle.rope_node.proofs.Parts.{span-map}
use Rattle.lazy_file.specs.SourceTexts.{Agrees, Stated}
use Rattle.cord_position.specs.Fetched.{AreStated, IsStated, rope_cell, rope_part}
use Rattle.cord_position.specs.Runs.{AreBytesOf, IsLeafRun, span_len}
use Rattle.cord_position.proofs.LeafParts.{run_cells}
use Rattle.cord_search.specs.Pieces.{IsPiece}

-- a byte of the first bytes, and of a part
pub byte_of_first : (xs : List ℕ) (n k : ℕ) → k < length (take n xs) → slice_get (take n xs) k ≡ slice_get xs k
byte_of_first xs n k lt =
    let long = length-take n xs in
    slice_get-get_or (take n xs) k 0 lt ∙ ap Some (get_or-take n xs k 0 (omega (arith, lt, long))) ∙ sym (slice_get-get_or xs k 0 (omega (arith, lt, long)))

pub byte_of_rest : (xs : List ℕ) (i k : ℕ) → k < length (drop i xs) → slice_get (drop i xs) k ≡ slice_get xs (i + k)
byte_of_rest xs i k lt =
    slice_get-get_or (drop i xs) k 0 lt ∙ ap Some (get_or-drop i xs k 0) ∙ sym (slice_get-get_or xs (i + k) 0 (omega (arith, lt, length-drop i xs)))

byte_of_part : (xs bytes : List ℕ) (i n k : ℕ) → bytes ≡ take n (drop i xs) → k < length bytes → slice_get bytes k ≡ slice_get xs (i + k)
byte_of_part xs bytes i n k is lt =
    let held : k < length (take n (drop i xs)) = omega (arith, lt, ap length is) in
    ap (λ ys. slice_get ys k) is ∙ byte_of_first (drop i xs) n k held ∙ byte_of_rest xs i k (omega (arith, held, length-take n (drop i xs)))

-- a byte of a text is that of its cell
pub byte_of_cell : (t : Table) (id : ℕ) (source : ℕ → ℕ → ℕ) (k : ℕ) → k < length (cells t id) → slice_get (text source (cells t id)) k ≡ Some (cell_byte source (cell_at t id k))
byte_of_cell t id source k lt =
    slice_get-get_or (map (cell_byte source) (cells t id)) k 0 (omega (arith, lt, length-map (cells t id) (cell_byte source)))
    ∙ ap Some (get_or-map (cell_byte source) (cells t id) k (Byte 0) 0 lt)

-- a literal's bytes stand for themselves
pub literal_piece : (t : Table) (st : Stated) (rope : Option NodeId) (i m n : ℕ) (run : List ℕ) → map Byte run ≡ rope_part t rope i m → IsPiece t st rope i (take n run)
literal_piece t st rope i m n run is source agrees k lt stated =
    let bytes : run ≡ take m (drop i (text source (rope_cells t rope))) =
    sym (map-map (cell_byte source) Byte run ∙ map-id run) ∙ ap (map (cell_byte source)) is ∙ sym (span-map (cell_byte source) m i (rope_cells t rope)) in
    byte_of_first run n k lt ∙ byte_of_part (text source (rope_cells t rope)) run i m k bytes (omega (arith, lt, length-take n run))

-- the cells of a leaf are all stated where one is
leaf_stated : (t : Table) (st : Stated) (below : ℕ → List Cell) (id n j k : ℕ) (w : NodeView) → IsLeaf w → j < n → k < n
    → IsStated st (get_or (node_cells t below id n w) j (Byte 0)) → IsStated st (get_or (node_cells t below id n w) k (Byte 0))
leaf_stated t st below id n j k (Lit a) leaf left right h = subst (IsStated st) (sym (ListN.get_or-map Byte (slice_range t.pool a (a + n)) k 0)) tt
leaf_stated t st below id n j k (Src s a) leaf left right h =
    let there = get_or-map (Place s) (range_with_len a n) j 0 (Byte 0) (rw length-range_with_len left) in
    let here = get_or-map (Place s) (range_with_len a n) k 0 (Byte 0) (rw length-range_with_len right) in
    let some = subst (IsStated st) there h in
    subst (IsStated st) (sym here) some
leaf_stated t st below id n j k Fun leaf left right h =
    subst (IsStated st) (sym (get_or-map (λ p. Byte (t.answer id p)) (range_with_len 0 n) k 0 (Byte 0) (rw length-range_with_len right))) tt
leaf_stated t st below id n j k (Cat l r) leaf left right h = absurd leaf
leaf_stated t st below id n j k (Sub b i) leaf left right h = absurd leaf

-- so are those of a run
run_stated : (t : Table) (st : Stated) (rope : Option NodeId) (i : ℕ) (x : LeafSpan) → IsLeafRun t rope i x → (j k : ℕ) → j < x.len → k < x.len
    → IsStated st (rope_cell t rope (i + j)) → IsStated st (rope_cell t rope (i + k))
run_stated t st rope i x run j k left right h =
    let there = subst (IsStated st) (run_cells t rope i x run j left) h in
    let here = leaf_stated t st (cells_in t x.leaf.0) x.leaf.0 (len_at t x.leaf.0) (x.start + j) (x.start + k) (view_at t x.leaf.0) run.leaf (omega (arith, left, run.in_leaf)) (omega (arith, right, run.in_leaf)) there in
    subst (IsStated st) (sym (run_cells t rope i x run k right)) here

part_stated : (t : Table) (st : Stated) (rope : Option NodeId) (i n : ℕ) → ((k : ℕ) → k < n → IsStated st (rope_cell t rope (i + k))) → AreStated st (rope_part t rope i n)
part_stated t st None i n h k d lt =
    let none : List Cell = [] in
    absurd (omega (arith, lt, length-take n (drop i none), length-drop i none))
part_stated t st (Some id) i n h k d lt =
    let cs = cells t id.0 in
    let few = length-take n (drop i cs) in
    let long = length-drop i cs in
    let same : get_or (take n (drop i cs)) k d ≡ get_or cs (i + k) (Byte 0) =
    get_or-take n (drop i cs) k d (omega (arith, lt, few)) ∙ get_or-drop i cs k d ∙ get_or_default cs (i + k) d (Byte 0) (omega (arith, lt, few, long)) in
    subst (IsStated st) (sym same) (h k (omega (arith, lt, few)))

pub filled_piece : (t : Table) (st : Stated) (rope : Option NodeId) (i n : ℕ) (span : Option LeafSpan) (bytes : List ℕ) → IfSome span (IsLeafRun t rope i) → n ≤ span_len span → length bytes ≤ n
    → AreBytesOf st (rope_part t rope i n) bytes → IsPiece t st rope i bytes
filled_piece t st rope i n None bytes run inside few are source agrees k lt stated = absurd (omega (arith, inside, few, lt))
filled_piece t st rope i n (Some x) bytes run inside few are source agrees k lt stated =
    let all = part_stated t st rope i n (λ p below. run_stated t st rope i x run k p (omega (arith, lt, few, inside)) (omega (arith, below, inside)) stated) in
    byte_of_part (text source (rope_cells t rope)) bytes i n k (are source agrees all ∙ sym (span-map (cell_byte source) n i (rope_cells t rope))) lt

pub filled_run : (t : Table) (st : Stated) (rope : Option NodeId) (i m : ℕ) (span : Option LeafSpan) (buffer : List ℕ) (r : Result ℕ SourceFault) → IfSome span (IsLeafRun t rope i) → IfOk r (λ n. n ≡ min (span_len span) m)
    → IfOk r (λ n. AreBytesOf st (rope_part t rope i n) (take n buffer)) → IfOk r (λ n. IsPiece t st rope i (take n buffer))
filled_run t st rope i m span buffer (Err e) run count are = tt
filled_run t st rope i m span buffer (Ok n) run count are = filled_piece t st rope i n span (take n buffer) run (omega (arith, count)) (omega (arith, length-take n buffer)) are

-- one piece behind the other
pub piece_after : (t : Table) (st : Stated) (rope : Option NodeId) (i d : ℕ) (xs ys : List ℕ) → length xs ≡ d → IsPiece t st rope i xs → IsPiece t st rope (i + d) ys → IsPiece t st rope i (xs ++ ys)
piece_after t st rope i d xs ys long first second source agrees k lt stated =
    elim (cases_lt k (length xs)) [
      | inl below ↦
          slice_get-get_or (xs ++ ys) k 0 lt ∙ ap Some (get_or_append_left xs ys 0 k below) ∙ sym (slice_get-get_or xs k 0 below) ∙ first source agrees k below stated
      | inr past ↦
          let j = k - length xs in
          let is : k ≡ length xs + j = omega (arith, past) in
          let there : (i + d) + j ≡ i + k = omega (arith, past, long) in
          let held : j < length ys = omega (arith, lt, past, length-append xs ys) in
          slice_get-get_or (xs ++ ys) k 0 lt ∙ ap Some (ap (λ (p : ℕ). get_or (xs ++ ys) p 0) is ∙ get_or-append-add xs ys j 0) ∙ sym (slice_get-get_or ys j 0 held)
          ∙ second source agrees j held (subst (λ (p : ℕ). IsStated st (rope_cell t rope p)) (sym there) stated) ∙ ap (slice_get (text source (rope_cells t rope))) there
    ]

-- the first bytes of a piece are the text's where their cells are stated
pub first_bytes : (xs u : List ℕ) (i q : ℕ) → q ≤ length xs → ((k : ℕ) → k < q → slice_get xs k ≡ slice_get u (i + k)) → take q xs ≡ take q (drop i u)
first_bytes xs u i q le same =
    let left = length-take-le q xs le in
    let within : (k : ℕ) → k < q → i + k < length u = λ k lt. slice_get_within u (i + k) (get_or xs k 0) (sym (same k lt) ∙ slice_get-get_or xs k 0 (omega (arith, lt, le))) in
    let held : length (take q (drop i u)) ≡ q = held q within in
    ext_get_or 0 (take q xs) (take q (drop i u)) (left ∙ sym held) (λ k lt.
    let below : k < q = omega (arith, lt, left) in
    get_or-take q xs k 0 below ∙ get_or_from_slice_get xs k (get_or u (i + k) 0) 0 (same k below ∙ slice_get-get_or u (i + k) 0 (within k below))
    ∙ sym (get_or-take q (drop i u) k 0 below ∙ get_or-drop i u k 0))
  where
    held : (q : ℕ) → ((k : ℕ) → k < q → i + k < length u) → length (take q (drop i u)) ≡ q
    held zero within = refl
    held (suc n) within = omega (arith, within n (omega arith), length-take (suc n) (drop i u), length-drop i u)

pub piece_bytes : (t : Table) (st : Stated) (rope : Option NodeId) (i q : ℕ) (bytes : List ℕ) (source : ℕ → ℕ → ℕ) → Agrees st source → IsPiece t st rope i bytes → q ≤ length bytes
    → ((p : ℕ) → i ≤ p → p < i + q → IsStated st (rope_cell t rope p)) → take q bytes ≡ take q (drop i (text source (rope_cells t rope)))
piece_bytes t st rope i q bytes source agrees piece le stated =
    first_bytes bytes (text source (rope_cells t rope)) i q le (λ k lt. piece source agrees k (omega (arith, lt, le)) (stated (i + k) (omega arith) (omega (arith, lt))))

-- the same over later sources, and of the whole piece
pub piece_first : (t : Table) (old new : Stated) (rope : Option NodeId) (i q : ℕ) (bytes : List ℕ) (source : ℕ → ℕ → ℕ) → new ≡ old → Agrees old source → IsPiece t new rope i bytes → q ≤ length bytes
    → ((p : ℕ) → i ≤ p → p < i + q → IsStated old (rope_cell t rope p)) → take q bytes ≡ take q (drop i (text source (rope_cells t rope)))
piece_first t old new rope i q bytes source same agrees piece le stated = piece_bytes t old rope i q bytes source agrees (subst (λ st. IsPiece t st rope i bytes) same piece) le stated

pub piece_all : (t : Table) (old new : Stated) (rope : Option NodeId) (i : ℕ) (bytes : List ℕ) (source : ℕ → ℕ → ℕ) → new ≡ old → Agrees old source → IsPiece t new rope i bytes
    → ((p : ℕ) → i ≤ p → p < i + length bytes → IsStated old (rope_cell t rope p)) → bytes ≡ take (length bytes) (drop i (text source (rope_cells t rope)))
piece_all t old new rope i bytes source same agrees piece stated =
    sym (take_all (length bytes) bytes (omega arith)) ∙ piece_first t old new rope i (length bytes) bytes source same agrees piece (omega arith) stated
