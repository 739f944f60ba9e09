use Rattle.span_descent.proofs.Stands.{stand_begins}
use Rattle.span_descent.proofs.from_root.FromRootWay.begin.Goals as goal

pub returns-clause-on : goal.returns-clause-on
returns-clause-on g c = record { way = c.requires.way; span = c.requires.span; at = tt; stands = stand_begins (g.S.CountedSpace.table c.args.space.now) c.args.x c.requires.span }
