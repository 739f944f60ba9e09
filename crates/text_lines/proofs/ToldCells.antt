-- Which cells are stated where all others are.
use Rattle.std.proofs.Common.{◌≡◌, ◌⊎◌, ℕ, ◌+◌, ◌-◌, ◌<◌, ◌≤◌, true, false, List, length, get_or, take, drop, Option, Some, None, refl, sym, ap, ◌∙◌, arith, ◌==◌, IfSome, eqb-true, get_or-drop, get_or-take}
use Rattle.std.specs.Option.{is_some, option_eq}
use Rattle.rope_node.specs.declared.node.LeafSpan.{LeafSpan}
use Rattle.rope_node.specs.declared.node.NodeId.{NodeId}
use Rattle.rope_node.specs.declared.node.NodeView.{NodeView}
use Rattle.rope_node.specs.declared.node.NodeView.TheVariants.{Lit, Src, Fun, Cat, Sub}
use Rattle.rope_node.specs.Table.{IsLeaf, IsSound, Table, len_at, view_at}
use Rattle.rope_node.specs.Denotes.{Byte, Cell, Place, cell_at, cells}
use Rattle.lazy_file.specs.SourceTexts.{Stated}
use Rattle.cord_position.specs.Fetched.{IsStated, rope_cell}
use Rattle.cord_position.specs.Runs.{IsLeafRun, span_len}
use Rattle.cord_position.proofs.LeafCells.{function_cell, literal_first, source_cell}
use Rattle.text_lines.specs.StatedCells.{AreToldByOthers, HaveOneSource, cell_source}

-- ---- the cells of a run have one source, or none

abbrev view_source : NodeView → Option ℕ
view_source (Src s a) = Some s
view_source _ = None

leaf_source : (t : Table) → IsSound t → (id start : ℕ) (v : NodeView) → id < length t.nodes → start < len_at t id → view_at t id ≡ v → IsLeaf v → cell_source (cell_at t id start) ≡ view_source v
leaf_source t s id start (Lit a) lt inside e leaf = ap cell_source (literal_first t s id start lt inside (Lit a) e tt).1
leaf_source t s id start (Src n a) lt inside e leaf = ap cell_source (source_cell t s id start n a lt inside e)
leaf_source t s id start Fun lt inside e leaf = ap cell_source (function_cell t s id start lt inside e)
leaf_source t s id start (Cat l r) lt inside e leaf = absurd leaf
leaf_source t s id start (Sub b i) lt inside e leaf = absurd leaf

part_cell : (xs ys : List Cell) (i j n k : ℕ) → k < n → take n (drop i xs) ≡ take n (drop j ys) → get_or xs (i + k) (Byte 0) ≡ get_or ys (j + k) (Byte 0)
part_cell xs ys i j n k lt same =
    sym (get_or-take n (drop i xs) k (Byte 0) lt ∙ get_or-drop i xs k (Byte 0)) ∙ ap (λ (cs : List Cell). get_or cs k (Byte 0)) same ∙ get_or-take n (drop j ys) k (Byte 0) lt ∙ get_or-drop j ys k (Byte 0)

run_cell : (t : Table) (rope : Option NodeId) (i : ℕ) (x : LeafSpan) → IsLeafRun t rope i x → (k : ℕ) → k < x.len → rope_cell t rope (i + k) ≡ cell_at t x.leaf.0 (x.start + k)
run_cell t None i x run k lt = absurd (omega (arith, run.in_rope, run.some))
run_cell t (Some id) i x run k lt = part_cell (cells t id.0) (cells t x.leaf.0) i x.start x.len k lt run.cells

run_source : (t : Table) → IsSound t → (rope : Option NodeId) (i : ℕ) (x : LeafSpan) → IsLeafRun t rope i x → (k : ℕ) → k < x.len → cell_source (rope_cell t rope (i + k)) ≡ view_source (view_at t x.leaf.0)
run_source t s rope i x run k lt =
    ap cell_source (run_cell t rope i x run k lt) ∙ leaf_source t s x.leaf.0 (x.start + k) (view_at t x.leaf.0) run.there (omega (arith, run.in_leaf, lt)) refl run.leaf

pub span_source : (t : Table) → IsSound t → (rope : Option NodeId) (i count : ℕ) (o : Option LeafSpan) → IfSome o (IsLeafRun t rope i) → 1 ≤ count → count ≤ span_len o → HaveOneSource (rope_cell t rope) i count
span_source t s rope i count None run some few k from below = absurd (omega (arith, some, few))
span_source t s rope i count (Some x) run some few k from below =
    let back : i + (k - i) ≡ k = omega (arith, from) in
    let here : i + 0 ≡ i = omega arith in
    ap (λ j. cell_source (rope_cell t rope j)) (sym back) ∙ run_source t s rope i x run (k - i) (omega (arith, from, below, few))
    ∙ sym (run_source t s rope i x run 0 (omega (arith, some, few))) ∙ ap (λ j. cell_source (rope_cell t rope j)) here

-- ---- a cell is stated as another one of its source

stated_alike : (st : Stated) (c d : Cell) → cell_source c ≡ cell_source d → IsStated st d → IsStated st c
stated_alike st (Byte b) d same told = tt
stated_alike st (Place s p) (Byte b) same told = absurd cc
stated_alike st (Place s p) (Place s' p') same told = let e : s ≡ s' = cc in rw e told

stated_alone : (st : Stated) (c : Cell) → cell_source c ≡ None → IsStated st c
stated_alone st (Byte b) none = tt
stated_alone st (Place s p) none = absurd cc

pub told_alone : (cell : ℕ → Cell) (len place count : ℕ) → HaveOneSource cell place count → cell_source (cell place) ≡ None → AreToldByOthers cell len place count
told_alone cell len place count one none st others k from below = stated_alone st (cell k) (one k from below ∙ none)

pub told_beside : (cell : ℕ → Cell) (len place count j : ℕ) → HaveOneSource cell place count → j < len → (j < place) ⊎ (place + count ≤ j) → cell_source (cell place) ≡ cell_source (cell j)
    → AreToldByOthers cell len place count
told_beside cell len place count j one lt apart same st others k from below = stated_alike st (cell k) (cell j) (one k from below ∙ same) (others j lt apart)

-- ---- what a test of sources tells

pub none_of : (o : Option ℕ) → is_some o ≡ false → o ≡ None
none_of None e = refl
none_of (Some x) e = absurd cc

pub same_of : (a b : Option ℕ) → true ≡ option_eq (λ x y. x == y) a b → a ≡ b
same_of None None e = refl
same_of None (Some y) e = absurd cc
same_of (Some x) None e = absurd cc
same_of (Some x) (Some y) e = ap Some (eqb-true x y (sym e))
