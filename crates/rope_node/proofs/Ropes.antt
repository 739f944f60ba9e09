-- How long ropes are, and ropes of a table that goes on.
use Rattle.std.proofs.Common.{◌≡◌, ◌<◌, length, Option, Some, None, refl, ◌∙◌, arith}
use Rattle.rope_node.specs.declared.node.NodeId.{NodeId}
use Rattle.rope_node.specs.declared.limits.TheConstants.{TEXT_LIMIT}
use Rattle.rope_node.specs.Table.{Table, IsSound, HasTrueRecords}
use Rattle.rope_node.specs.Denotes.{rope_cells, rope_len, IsRope}
use Rattle.rope_node.specs.Extends.{Extends}
use Rattle.rope_node.proofs.Cells.{cells_length}
use Rattle.rope_node.proofs.Extensions.{cells_kept}

-- a rope has as many cells as it is long
pub rope_length : (t : Table) → IsSound t → HasTrueRecords t → (rope : Option NodeId) → IsRope t rope → length (rope_cells t rope) ≡ rope_len t rope
rope_length t s h None there = refl
rope_length t s h (Some id) there = cells_length t s h id.0 there

-- and is shorter than the limit
pub rope_short : (t : Table) → IsSound t → (rope : Option NodeId) → IsRope t rope → rope_len t rope < TEXT_LIMIT
rope_short t s None there = omega arith
rope_short t s (Some id) there = (s.nodes id.0 there).not_long

-- a rope stays one
pub rope_kept : (old new : Table) → Extends old new → (rope : Option NodeId) → IsRope old rope → IsRope new rope
rope_kept old new x None there = tt
rope_kept old new x (Some id) there = omega (arith, there, x.more_nodes)

-- a rope keeps its cells
pub rope_cells_kept : (old new : Table) → IsSound old → Extends old new → (rope : Option NodeId) → IsRope old rope → rope_cells new rope ≡ rope_cells old rope
rope_cells_kept old new s x None there = refl
rope_cells_kept old new s x (Some id) there = cells_kept old new s x id.0 there

pub extends_itself : (t : Table) → Extends t t
extends_itself t = record {
  nodes = λ id lt. refl;
  more_nodes = omega arith;
  pool = λ a n h. refl;
  more_pool = omega arith;
  sources = λ s lt. refl;
  more_sources = omega arith;
  answer = λ id lt. refl;
}

-- what goes on twice goes on
pub extends_through : (a b c : Table) → Extends a b → Extends b c → Extends a c
extends_through a b c x y = record {
  nodes = λ id lt. y.nodes id (omega (arith, x.more_nodes)) ∙ x.nodes id lt;
  more_nodes = omega (arith, x.more_nodes, y.more_nodes);
  pool = λ p n h. y.pool p n (omega (arith, x.more_pool)) ∙ x.pool p n h;
  more_pool = omega (arith, x.more_pool, y.more_pool);
  sources = λ s lt. y.sources s (omega (arith, x.more_sources)) ∙ x.sources s lt;
  more_sources = omega (arith, x.more_sources, y.more_sources);
  answer = λ id lt. y.answer id (omega (arith, x.more_nodes)) ∙ x.answer id lt;
}
