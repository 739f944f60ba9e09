-- Spans of nodes, and what a step down from one leads to.
use Rattle.std.specs.Prelude.{◌≡◌, ℕ, ◌+◌, ◌-◌, ◌<◌, ◌≤◌, min, nat_lt, if◌then◌else◌, length, Option, Some, None}
use Rattle.rope_node.specs.declared.node.LeafSpan.{LeafSpan}
use Rattle.rope_node.specs.declared.node.NodeId.{NodeId}
use Rattle.rope_node.specs.declared.node.NodeView.{NodeView}
use Rattle.rope_node.specs.declared.node.NodeView.TheVariants.{Lit, Src, Fun, Cat, Sub}
use Rattle.rope_node.specs.declared.node.Span.{Span}
use Rattle.rope_node.specs.declared.step.StepDown.{StepDown}
use Rattle.rope_node.specs.declared.step.StepDown.TheVariants.{Below, Leaf, Across}
use Rattle.rope_node.specs.Table.{Table, len_at, depth_at, IsLeaf}
use Rattle.rope_node.specs.Denotes.{cells, cell_at}
use Rattle.rope_node.specs.Path.{span_at, shortened}

-- a span that is not empty, inside its node
pub record IsSpan (t : Table) (x : Span) : Type 0 where
  pub there : x.node.0 < length t.nodes
  pub some : 1 ≤ x.len
  pub inside : x.start + x.len ≤ len_at t x.node.0

-- the first bytes of a span of a concatenation, as a span of the child that holds them: as many as lie in that child
abbrev pub cat_span : Table → Span → NodeId → NodeId → Span
cat_span t x l r =
    if nat_lt x.start (len_at t l.0)
    then record { node = l; start = x.start; len = min x.len (len_at t l.0 - x.start) }
    else record { node = r; start = x.start - len_at t l.0; len = x.len }

-- of a span of any node: all of a substring's bytes lie in its base, and a leaf has no child
abbrev pub child_span : Table → Span → NodeView → Option Span
child_span t x (Lit a) = None
child_span t x (Src s a) = None
child_span t x Fun = None
child_span t x (Cat l r) = Some (cat_span t x l r)
child_span t x (Sub b i) = Some (record { node = b; start = x.start + i; len = x.len })

-- n cells of a node from place i on are those of another from place j on
pub record SameCells (t : Table) (x y : NodeId) (i j n : ℕ) : Type 0 where
  pub here : i + n ≤ length (cells t x.0)
  pub there : j + n ≤ length (cells t y.0)
  pub each : (k : ℕ) → k < n → cell_at t x.0 (i + k) ≡ cell_at t y.0 (j + k)

-- span z, of a node below that of span x, has the cells that x begins with
pub record HasFirstCells (t : Table) (x z : Span) : Type 0 where
  pub few : z.len ≤ x.len
  pub is_span : IsSpan t z
  pub lower : z.node.0 < x.node.0
  pub shallower : depth_at t z.node.0 < depth_at t x.node.0
  pub same : SameCells t x.node z.node x.start z.start z.len

-- span z of a child has the first bytes of span x, n of them or more
pub record IsSpanBelow (t : Table) (x : Span) (view : NodeView) (n : ℕ) (z : Span) : Type 0 where
  pub child : Some z ≡ child_span t x view
  pub many : n ≤ z.len
  pub cells : HasFirstCells t x z

-- the first n bytes of a span of a concatenation begin in its left child and end in the right one
pub record IsBorder (t : Table) (x : Span) (view : NodeView) (n : ℕ) : Type 0 where
  pub l : NodeId
  pub r : NodeId
  pub is_cat : view ≡ Cat l r
  pub before : x.start < len_at t l.0
  pub past : len_at t l.0 < x.start + n

-- the bytes of span x behind its first n
abbrev pub span_behind : Span → ℕ → Span
span_behind x n = record { node = x.node; start = x.start + n; len = x.len - n }

-- such a span x is span a of the left child, and then span b of the right one
pub record IsAcross (t : Table) (x : Span) (view : NodeView) (n : ℕ) (a b : Span) : Type 0 where
  pub border : IsBorder t x view n
  pub child : Some a ≡ child_span t x view
  pub others : b ≡ record { node = border.r; start = 0; len = x.len - a.len }
  pub all : a.len + b.len ≡ x.len
  pub cells : HasFirstCells t x a
  pub other_cells : HasFirstCells t (span_behind x a.len) b

-- what a step down from a span leads to, where the first n of its bytes lie in one child; or why they do not
abbrev pub StepsDownTo : Table → Span → NodeView → ℕ → StepDown → Type 0
StepsDownTo t x view n (Below z) = IsSpanBelow t x view n z
StepsDownTo t x view n Leaf = IsLeaf view
StepsDownTo t x view n (Across a b) = IsAcross t x view n a b

-- the span of the leaf that span x begins with, as far as the path to it and x go
abbrev pub first_of : Table → Span → LeafSpan
first_of t x = shortened x.len (span_at t x.node.0 x.start)

-- a span of a leaf, by its leaf
abbrev pub as_leaf_span : Span → LeafSpan
as_leaf_span x = record { leaf = x.node; start = x.start; len = x.len }
