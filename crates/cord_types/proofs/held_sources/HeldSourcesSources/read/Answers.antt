use Rattle.std.proofs.Common.{◌≤◌, ◌<◌, ◌+◌, arith, length}
use Rattle.std.specs.List.{slice_index}
use Rattle.std.proofs.lemmas.Grind.{common_steps}
use Rattle.cord_types.specs.HeldTexts.{held_bytes}
use Rattle.cord_types.proofs.HeldLemmas.{short_read}
use Rattle.cord_types.proofs.held_sources.HeldSourcesSources.read.Goals as goal

pub returns-in-None-clause-reads : goal.returns-in-None-clause-reads
returns-in-None-clause-reads c =
    let st = c.args.self.now in
    let n = length c.args.buffer.now in
    let inside : c.args.off + n ≤ slice_index st.sizes c.args.s = grind (arith, common_steps) in
    let fewer : length (held_bytes st c.args.s) < c.args.off + n = grind (arith, common_steps) in
    short_read st c.args.s c.args.off n fewer inside (λ never. omega (arith, fewer, c.span.ensures.always never))
