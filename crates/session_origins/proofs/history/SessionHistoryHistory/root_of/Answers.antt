use Rattle.std.proofs.Common.{arith, ◌∙◌}
use Rattle.std.proofs.lemmas.List.{length-map}
use Rattle.edit_commands.specs.declared.revision.Revision.{Revision}
use Rattle.session_image.specs.Written.{recorded_revision}
use Rattle.session_origins.proofs.SessionHistories.{root_is}
use Rattle.session_origins.proofs.history.SessionHistoryHistory.root_of.Goals as goal

pub root-requires : goal.root-requires
root-requires c =
    let v = c.args.self.0.now in
    omega (arith, c.requires, length-map v.revisions recorded_revision, length-map v.revisions (λ (r : Revision). r.root))

pub returns : goal.returns
returns c = c.root.ensures ∙ root_is c.args.self.0.now c.count-count.ensures.session c.args.k c.requires
