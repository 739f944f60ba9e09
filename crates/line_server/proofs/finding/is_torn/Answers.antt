use Rattle.std.proofs.Common.{arith}
use Rattle.line_server.proofs.Journals.{torn_some}
use Rattle.line_server.proofs.finding.is_torn.Goals as goal

pub returns-in-Some-len1-up-clause-torn : goal.returns-in-Some-len1-up-clause-torn
returns-in-Some-len1-up-clause-torn c =
    λ t. torn_some c.args.front.now c.args.text.now c.in-Some-len1-up.field-0.now c.in-Some-len1-up.ensures (omega (arith, c.in-Some-len1-up.len_at_least))
