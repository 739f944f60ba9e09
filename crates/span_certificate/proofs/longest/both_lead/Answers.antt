use Rattle.span_certificate.proofs.LongestRows.{root_leads}
use Rattle.span_certificate.proofs.longest.both_lead.Goals as goal

pub returns-then-part_leads-clause-lead : goal.returns-then-part_leads-clause-lead
returns-then-part_leads-clause-lead g c =
    let first = c.part_leads.ensures.leads.0 c.if-part_leads.true in
    let second = root_leads (g.S.CountedSpace.table c.args.space.now) c.args.len c.args.node.0 c.args.at c.args.root c.args.place c.length.result c.part_leads-then-part_leads.result c.part_leads-then-part_leads.ensures.leads in
    (λ h. (first, second.0 h), λ both. second.1 both.1)
