use Rattle.std.proofs.Common.{◌≡◌, sym, ap, subst, ◌∙◌}
use Rattle.command_parts.specs.Commands.{full_edit, NamesSplices}
use Rattle.command_parts.specs.declared.edit.Edit.{Edit}
use Rattle.image_reader.specs.declared.revision.Revision.{Revision}
use Rattle.image_reader.specs.Value.{ImageValue, IsImage}
use Rattle.image_reader.specs.Accepted.{revision_at}
use Rattle.session_checker.proofs.EarlierRevisions.{names_there}
use Rattle.byte_origins.proofs.history.RefCheckedHistory.command.Goals as goal

pub returns-clause-says : goal.returns-clause-says
returns-clause-says c =
    let v = c.args.self.now in
    let same = c.over-revisions.ensures ∙ c.image.ensures in
    ap (λ (x : Revision). full_edit v.splices x.edit) (c.revision-revision.ensures.at ∙ ap (λ (w : ImageValue). revision_at w c.args.k) same)

pub returns-clause-names : goal.returns-clause-names
returns-clause-names c =
    let v = c.args.self.now in
    let same = c.over-revisions.ensures ∙ c.image.ensures in
    let at = c.revision-revision.ensures.at ∙ ap (λ (w : ImageValue). revision_at w c.args.k) same in
    subst (λ (x : Revision). NamesSplices v.splices x.edit) (sym at) (names_there v (subst IsImage same c.revision-revision.ensures.image) c.args.k c.requires.there)
