-- What is told of the texts of ropes, over what the sources state.
use Rattle.std.specs.Prelude.{◌≡◌, ◌≢◌, ℕ, ◌+◌, ◌≤◌, ◌⊎◌, max, List, length, take, drop, Option, Some, None, Result}
use Rattle.std.specs.declared.cmp.Ordering.{Ordering}
use Rattle.std.specs.declared.cmp.Ordering.TheVariants.{Equal}
use Rattle.rope_node.specs.declared.node.NodeId.{NodeId}
use Rattle.rope_node.specs.Table.{Table}
use Rattle.rope_node.specs.Denotes.{Cell, rope_cells, rope_len, text}
use Rattle.lazy_file.specs.SourceTexts.{Agrees, Stated}
use Rattle.lazy_file.specs.Readings.{fault_in, Reading, Reads}
use Rattle.lazy_file.specs.declared.faults.SourceFault.{SourceFault}
use Rattle.cord_position.specs.Fetched.{EachCell, InCells, IsStated, rope_cell}
use Rattle.cord_search.specs.Order.{order}
use Rattle.cord_search.specs.Places.{IsFirst, IsLast}

-- P holds of the rope's text, whatever bytes the sources have that agree with what they state, where
-- each of its cells from place i up to place j is stated
abbrev pub OfSpan : Table → Stated → Option NodeId → ℕ → ℕ → (List ℕ → Type 0) → Type 0
OfSpan t st rope i j P = (source : ℕ → ℕ → ℕ) → Agrees st source → EachCell (rope_cell t rope) i j (IsStated st)
    → P (text source (rope_cells t rope))

-- the same, where all its cells are
abbrev pub OfText : Table → Stated → Option NodeId → (List ℕ → Type 0) → Type 0
OfText t st rope P = OfSpan t st rope 0 (rope_len t rope) P

-- where the place that was found ends, or the text
abbrev pub end_of_found : Table → Option NodeId → List ℕ → Option ℕ → ℕ
end_of_found t rope s (Some k) = k + length s
end_of_found t rope s None = rope_len t rope

-- the place that was found, or the text's first
abbrev pub start_of_found : Option ℕ → ℕ
start_of_found (Some k) = k
start_of_found None = 0

-- the first place of s from start on, if there is one; it rests on the cells from start up to there
abbrev pub FindsFirst : Table → Stated → Option NodeId → List ℕ → ℕ → Option ℕ → Type 0
FindsFirst t st rope s start found = OfSpan t st rope start (end_of_found t rope s found) (λ u. IsFirst s u start found)

-- the last place of s up to end, if there is one; it rests on the cells from there on
abbrev pub FindsLast : Table → Stated → Option NodeId → List ℕ → ℕ → Option ℕ → Type 0
FindsLast t st rope s end found = OfSpan t st rope (start_of_found found) (end + length s) (λ u. IsLast s u end found)

-- the order of n bytes of one text from i on and n bytes of another from j on, or of as many as there are
abbrev pub order_of_parts : ℕ → ℕ → ℕ → List ℕ → List ℕ → Ordering
order_of_parts i j n u v = order (take n (drop i u)) (take n (drop j v))

-- that order, where one text is x's and the other y's; it rests on the cells up to the first byte in
-- which they differ: on any m of each in which they do, and else on all n
abbrev pub OrdersParts : Table → Stated → Option NodeId → ℕ → Option NodeId → ℕ → ℕ → Ordering → Type 0
OrdersParts t st x i y j n found = (source : ℕ → ℕ → ℕ) → Agrees st source → (m : ℕ) → m ≤ n
    → EachCell (rope_cell t x) i (i + m) (IsStated st) → EachCell (rope_cell t y) j (j + m) (IsStated st)
    → let part = order_of_parts i j m (text source (rope_cells t x)) (text source (rope_cells t y)) in
    (m ≡ n) ⊎ (part ≢ Equal) → found ≡ part

-- the length of the longer of two texts
abbrev pub longer : Table → Option NodeId → Option NodeId → ℕ
longer t x y = max (rope_len t x) (rope_len t y)

-- P holds of both texts, where all their cells are stated
abbrev pub OfTexts : Table → Stated → Option NodeId → Option NodeId → (List ℕ → List ℕ → Type 0) → Type 0
OfTexts t st x y P = (source : ℕ → ℕ → ℕ) → Agrees st source
    → EachCell (rope_cell t x) 0 (rope_len t x) (IsStated st) → EachCell (rope_cell t y) 0 (rope_len t y) (IsStated st)
    → P (text source (rope_cells t x)) (text source (rope_cells t y))

-- what a call does that may read n of these cells from i on and n of those from j on
abbrev pub ReadsTwoSpans : {X : Type 0} → Reading → Reading → (ℕ → Cell) → ℕ → (ℕ → Cell) → ℕ → ℕ → Result X SourceFault
    → Type 0
ReadsTwoSpans before after cell i other j n outcome =
    Reads before after (λ s p. InCells cell i (i + n) s p ⊎ InCells other j (j + n) s p) (fault_in outcome)
