-- Cells of a node that are a rope's, and what repeats among them.
use Rattle.std.proofs.Common.{◌≡◌, ℕ, ◌+◌, ◌<◌, ◌≤◌, List, [], length, Option, Some, None, refl, sym, subst, ap, ◌∙◌, arith}
use Rattle.std.specs.Prelude.{IfSome}
use Rattle.function_leaf.specs.Repeating.{Repeats}
use Rattle.rope_node.specs.declared.node.NodeId.{NodeId}
use Rattle.rope_node.specs.declared.node.NodeView.TheVariants.{Fun}
use Rattle.rope_node.specs.Table.{Table, view_at, len_at, IsLeaf, IsSound}
use Rattle.rope_node.specs.Denotes.{Byte, cell_at, cells}
use Rattle.lazy_file.specs.SourceTexts.{Stated}
use Rattle.cord_position.specs.Fetched.{leaf_part}
use Rattle.cord_position.specs.Runs.{AreBytesOf}
use Rattle.cord_position.proofs.LeafCells.{function_cell}
use Rattle.cord_search.specs.Pieces.{IsPiece}
use Rattle.cord_search.proofs.NodePieces.{leaf_piece, piece_of_same}
use Rattle.cord_search.specs.Seeking.{IsLeafPeriod, IsSeeking, RepeatsFrom}
use Rattle.rope_node.specs.Steps.{SameCells}
use Rattle.cord_search.specs.declared.seeker.Seeker.{Seeker}
use Rattle.cord_search.proofs.Seeks.{ring_emptied}

-- a part of the cells, by those of another node
pub same_part : (t : Table) (x y z : NodeId) (a i j n d m b k : ℕ) → SameCells t x y a i n → d + m ≤ n → b ≡ a + d → k ≡ i + d → SameCells t y z k j m → SameCells t x z b j m
same_part t x y z a i j n d m b k first few here there second = record {
  here = omega (arith, first.here, few, here);
  there = second.there;
  each = λ q lt.
      ap (cell_at t x.0) (omega (arith, here)) ∙ first.each (d + q) (omega (arith, lt, few)) ∙ ap (cell_at t y.0) (omega (arith, there)) ∙ second.each q lt;
}

pub same_rest : (t : Table) (x y : NodeId) (a i n d m : ℕ) → SameCells t x y a i n → d + m ≤ n → SameCells t x y (a + d) (i + d) m
same_rest t x y a i n d m same few = record {
  here = omega (arith, same.here, few);
  there = omega (arith, same.there, few);
  each = λ q lt. ap (cell_at t x.0) (omega arith) ∙ same.each (d + q) (omega (arith, lt, few)) ∙ ap (cell_at t y.0) (omega arith);
}

-- bytes that were read of a leaf are the rope's at the place
pub piece_in_leaf : (t : Table) (st : Stated) (x leaf : NodeId) (first start len done m place : ℕ) (run : List ℕ) → leaf.0 < length t.nodes → IsLeaf (view_at t leaf.0) → SameCells t x leaf first start len
    → start + len ≤ len_at t leaf.0 → 1 ≤ m → done + m ≤ len → length run ≡ m → place ≡ first + done → AreBytesOf st (leaf_part t leaf (start + done) m) run → IsPiece t st (Some x) place run
piece_in_leaf t st x leaf first start len done m place run there is same fits some few long at are =
    let piece = leaf_piece t st leaf (start + done) m run there is some (omega (arith, fits, few)) long are in
    subst (λ (p : ℕ). IsPiece t st (Some x) p run) (sym at) (piece_of_same t st x leaf (first + done) (start + done) m run (same_rest t x leaf first start len done m same few) long piece)

-- a function leaf repeats as its function does
pub leaf_period : (t : Table) → IsSound t → (leaf : NodeId) → leaf.0 < length t.nodes → view_at t leaf.0 ≡ Fun → (p : Option ℕ) → IfSome p (Repeats (t.answer leaf.0)) → IfSome p (IsLeafPeriod t leaf)
leaf_period t s leaf there e None h = tt
leaf_period t s leaf there e (Some p) h = record {
  some = h.some;
  same = λ k lt.
      function_cell t s leaf.0 (k + p) there lt e ∙ ap Byte (h.same k) ∙ sym (function_cell t s leaf.0 k there (omega (arith, lt)) e);
}

-- and so do its cells where they are a rope's
pub period_there : (t : Table) (x leaf : NodeId) (a i n : ℕ) → SameCells t x leaf a i n → i + n ≤ len_at t leaf.0 → (p : Option ℕ) → IfSome p (IsLeafPeriod t leaf) → IfSome p (RepeatsFrom t (Some x) a n)
period_there t x leaf a i n same inside None h = tt
period_there t x leaf a i n same inside (Some p) h = record {
  some = h.some;
  same = λ k lt.
      same.each (k + p) lt ∙ ap (cell_at t leaf.0) (omega arith) ∙ h.same (i + k) (omega (arith, lt, inside)) ∙ sym (same.each k (omega (arith, lt)));
}

pub same_itself : (t : Table) (x : NodeId) (i n : ℕ) → i + n ≤ length (cells t x.0) → SameCells t x x i i n
same_itself t x i n fits = record { here = fits; there = fits; each = λ k lt. refl }

-- a search that has taken nothing yet
pub seeking_begun : (t : Table) (st : Stated) (rope : Option NodeId) (start : ℕ) (s : Seeker) → s.ring.items ≡ [] → s.place ≡ start → IsSeeking t st rope start s
seeking_begun t st rope start s empty begun =
    ring_emptied t st rope start s empty (omega (arith, begun)) (omega (arith, begun)) (λ end far source agrees stated j low high. absurd (omega (arith, begun, low, high)))
