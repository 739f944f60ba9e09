use Rattle.std.proofs.Common.{◌+◌, arith}
use Rattle.span_certificate.proofs.longest.LongestQuestion.ask.Goals as goal

pub stay_within-requires-clause-inside_root : goal.stay_within-requires-clause-inside_root
stay_within-requires-clause-inside_root g c = c.requires.stands.goes_on (c.args.row.len + 1) (omega (arith, c.if-row-len.false, c.len.ensures))
