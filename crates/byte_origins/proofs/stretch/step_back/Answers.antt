use Rattle.std.proofs.Common.{arith}
use Rattle.byte_origins.specs.Origins.{origins_at}
use Rattle.byte_origins.proofs.Lengths.{as_long}
use Rattle.byte_origins.proofs.RopeRuns.{run_fits}
use Rattle.byte_origins.proofs.Weaving.{are_ropes}
use Rattle.byte_origins.proofs.stretch.step_back.Goals as goal

pub run_at-requires : goal.run_at-requires
run_at-requires c = are_ropes c.args.image.now c.args.ropes.now.texts c.args.ropes.now.roots.items c.requires.ropes

pub returns-in-Some : goal.returns-in-Some
returns-in-Some c =
    let v = c.args.image.now in
    let is = c.in-Some.ensures v c.requires.ropes in
    let there = c.requires.stretch.there in
    let t = c.revisions-count.ensures.true_records in
    record {
      fits = omega (arith, run_fits (origins_at v c.args.x.revision) c.args.x.place c.in-Some.run' is, as_long v t t.rules c.args.x.revision there);
      is_run = is;
    }
