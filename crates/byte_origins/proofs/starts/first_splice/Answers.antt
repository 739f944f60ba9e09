use Rattle.std.proofs.Common.{List, sym, ap, arith, ◌∙◌}
use Rattle.std.proofs.lemmas.List.{take_all}
use Rattle.std.specs.List.{sum_by}
use Rattle.command_parts.specs.Fields.{splices_of}
use Rattle.image_reader.specs.declared.revision.Revision.{Revision}
use Rattle.byte_origins.proofs.starts.first_splice.Goals as goal

pub lowered-requires-clause-first : goal.lowered-requires-clause-first
lowered-requires-clause-first g c =
    let v = g.H.History.image c.args.history in
    let count = c.revision_count.ensures.count in
    c.in-Some.ensures ∙ ap (λ (rs : List Revision). sum_by (λ (r : Revision). splices_of r.edit) rs) (sym (take_all c.revision_count.result v.revisions (omega (arith, count))))
