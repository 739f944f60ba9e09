-- Where a way down stands, where a step of it leads, and what descents hand on: a leaf span, with what its leaf is.
use Rattle.std.specs.Prelude.{◌≡◌, ℕ, ◌+◌, ◌<◌, ◌≤◌, length, Some}
use Rattle.rope_node.specs.declared.node.NodeId.{NodeId}
use Rattle.rope_node.specs.declared.node.NodeView.{NodeView}
use Rattle.rope_node.specs.declared.node.Span.{Span}
use Rattle.rope_node.specs.Table.{Table, view_at, len_at, IsLeaf}
use Rattle.rope_node.specs.Steps.{child_span, first_of, as_leaf_span, IsBorder}
use Rattle.span_descent.specs.declared.descent.SpanPlace.{SpanPlace}
use Rattle.span_descent.specs.declared.descent.Reached.{Reached}
use Rattle.span_descent.specs.declared.way.Descent.{Descent}
use Rattle.span_descent.specs.declared.way.Descent.TheVariants.{Below, Leaf, Border}
use Rattle.span_descent.specs.Leads.{Leads, LeadsToLeaf}
use Rattle.span_descent.specs.Steps.{IsReached}

-- n bytes from its start on lie in the leaf
pub record IsSpanPlace (t : Table) (n : ℕ) (s : SpanPlace) : Type 0 where
  pub there : s.leaf.0 < length t.nodes
  pub inside : s.start + n ≤ len_at t s.leaf.0

-- the n bytes of node x from p on lead to it
pub record LeadsToSpan (t : Table) (n x p : ℕ) (s : SpanPlace) : Type 0 where
  pub leads : LeadsToLeaf t n s.leaf.0 s.start x p
  pub view : s.view ≡ view_at t s.leaf.0

-- the first bytes of span x lead to this leaf span, as many of them as lie in it
pub record IsLeafOf (t : Table) (x : Span) (z : Reached) : Type 0 where
  pub reached : IsReached t x z.span
  pub whole : as_leaf_span z.span ≡ first_of t x
  pub view : z.view ≡ view_at t z.span.node.0
  pub leaf : IsLeaf z.view

-- one byte more than n of span x leads to no node from this one down
abbrev pub OnlyAbove : Table → ℕ → Span → NodeId → Type 0
OnlyAbove t n x node = (k o : ℕ) → Leads t (n + 1) k o x.node.0 x.start → node.0 < k

-- A way down span x stands at span z: the first bytes of x lead to z, and both begin with the same leaf span. They are
-- all of x, or one byte more leads only to nodes above.
pub record IsStand (t : Table) (x z : Span) : Type 0 where
  pub reached : IsReached t x z
  pub first : first_of t z ≡ first_of t x
  pub cut : z.len < x.len → OnlyAbove t z.len x z.node

-- a way down span x stands at span z, which begins where span y begins
pub record IsStandAt (t : Table) (x y z : Span) : Type 0 where
  pub stands : IsStand t x z
  pub node : z.node ≡ y.node
  pub start : z.start ≡ y.start

-- what a step down from a span of a node leads to: the span of the child that holds its first bytes, where those are n
-- or more; or why there is none
abbrev pub GoesDownTo : {P : Type 0} → (P → Span) → Table → Span → NodeView → ℕ → Descent P → Type 0
GoesDownTo lies t x view n (Below z) = (Some (lies z) ≡ child_span t x view) × (n ≤ (lies z).len)
GoesDownTo lies t x view n Leaf = IsLeaf view
GoesDownTo lies t x view n Border = IsBorder t x view n

-- the stop behind a step from another
abbrev pub stop_after : {P : Type 0} → P → Descent P → P
stop_after stop (Below z) = z
stop_after stop Leaf = stop
stop_after stop Border = stop
