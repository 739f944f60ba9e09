use Rattle.std.proofs.Common.{length, take, drop}
use Rattle.rope_node.specs.Denotes.{rope_len}
use Rattle.command_parts.specs.Commands.{Many}
use Rattle.command_parts.specs.Parts.{root_at, IsInRange}
use Rattle.command_parts.proofs.PartsInRange.{parts_in_range}
use Rattle.command_parts.proofs.SplicedTexts.{are_splices}
use Rattle.command_parts.proofs.part_iter.parts.Goals as goal

pub of-requires-clause-follow : goal.of-requires-clause-follow
of-requires-clause-follow g c =
    let t = g.S.NodeSpace.table c.args.space.now in
    let roots = g.R.Roots.roots c.args.roots.now in
    let named = take c.in-Many.count (drop c.in-Many.first (g.P.Splices.splices c.args.splices.now)) in
    let range : IsInRange t roots (Many c.in-Many.r named) = rw c.in-Many.is at c.requires.in_range in
    rw (c.rope_len-len.ensures.exact, c.root-rope-in-Many.ensures) (are_splices (length t.pool) (rope_len t (root_at roots c.in-Many.r)) named range.1).follow

pub returns-in-Many-clause-are_parts : goal.returns-in-Many-clause-are_parts
returns-in-Many-clause-are_parts g c =
    let t = g.S.NodeSpace.table c.args.space.now in
    let roots = g.R.Roots.roots c.args.roots.now in
    let named = take c.in-Many.count (drop c.in-Many.first (g.P.Splices.splices c.args.splices.now)) in
    let range : IsInRange t roots (Many c.in-Many.r named) = rw c.in-Many.is at c.requires.in_range in
    rw (c.cutting.ensures, c.of.ensures, c.rope_len-len.ensures.exact, c.root-rope-in-Many.ensures) (parts_in_range t roots (Many c.in-Many.r named) c.requires.ropes range)
