use Rattle.std.proofs.Common.{arith}
use Rattle.cord_position.proofs.HereLaws.{here_run}
use Rattle.cord_position.proofs.run.find_run.Goals as goal

pub returns-clause-run : goal.returns-clause-run
returns-clause-run g c = here_run (g.S.NodeSpace.table c.args.space.now) c.args.rope c.args.place c.args.here c.requires (omega (arith, c.if-offset-here.false))
