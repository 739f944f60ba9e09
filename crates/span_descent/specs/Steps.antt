-- Where the span of a node leads, as a span.
use Rattle.std.specs.Prelude.{◌<◌, ◌≤◌, List, take, drop}
use Rattle.rope_node.specs.Table.{Table, depth_at}
use Rattle.rope_node.specs.Denotes.{Cell, cells}
use Rattle.rope_node.specs.declared.node.Span.{Span}
use Rattle.rope_node.specs.Steps.{IsSpan}
use Rattle.span_descent.specs.Leads.{Leads}

abbrev pub span_cells : Table → Span → List Cell
span_cells t x = take x.len (drop x.start (cells t x.node.0))

-- the first bytes of span x lead to span z
pub record IsReached (t : Table) (x z : Span) : Type 0 where
  pub few : z.len ≤ x.len
  pub is_span : IsSpan t z
  pub leads : Leads t z.len z.node.0 z.start x.node.0 x.start

-- the first bytes of span x lead to span z by one step down, or by more
pub record IsBelow (t : Table) (x z : Span) : Type 0 where
  pub lower : z.node.0 < x.node.0
  pub shallower : depth_at t z.node.0 < depth_at t x.node.0
  pub reached : IsReached t x z
