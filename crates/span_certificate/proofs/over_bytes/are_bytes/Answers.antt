use Rattle.std.proofs.Common.{◌+◌, take, drop, arith, subst}
use Rattle.std.specs.Prelude.{All}
use Rattle.span_certificate.specs.Covers.{IsByte}
use Rattle.command_parts.specs.Parts.{part_cells}
use Rattle.span_certificate.specs.Runs.{IsSourced}
use Rattle.span_certificate.proofs.OverBytes.{bytes_more, described_bytes, described_places, first_of_run}
use Rattle.span_certificate.proofs.over_bytes.are_bytes.Goals as goal

pub returns-then-is_sourced-clause-bytes : goal.returns-then-is_sourced-clause-bytes
returns-then-is_sourced-clause-bytes g c =
    let t = g.S.CountedSpace.table c.args.space.now in
    let run = c.run_of-run.ensures.run in
    let is = c.is_sourced.ensures.0 c.if-is_sourced.true in (
      λ never. absurd cc,
      λ all.
          let first = first_of_run (part_cells t c.args.part) c.args.off c.loop-done.done c.args.len c.loop-done-test.true all in
          absurd (described_places t c.run_of-run.result.what is (subst (All IsByte) (run.cells 1 run.some) first)),
    )

pub loop-done-preserved : goal.loop-done-preserved
loop-done-preserved g c =
    let t = g.S.CountedSpace.table c.args.space.now in
    let run = c.run_of-run.ensures.run in
    let none : ¬ IsSourced c.run_of-run.result.what = λ is. let yes = c.is_sourced.ensures.1 is in let no = c.if-is_sourced.false in absurd cc in
    let here : All IsByte (take c.run_of-run.result.len (drop (c.args.off + c.loop-done.done) (part_cells t c.args.part))) =
    rw (run.cells c.run_of-run.result.len (omega arith)) (described_bytes t c.run_of-run.result.len c.run_of-run.result.what none) in
    record {
      inside = omega (arith, run.few, c.loop-done-test.true);
      bytes = bytes_more (part_cells t c.args.part) c.args.off c.loop-done.done c.run_of-run.result.len c.loop-done.invariant.bytes here;
      way = c.run_of-run.ensures.way;
    }
