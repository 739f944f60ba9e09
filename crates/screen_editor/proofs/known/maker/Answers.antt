use Rattle.std.proofs.Common.{◌≡◌, ◌∙◌, Some, ap, sym}
use Rattle.command_parts.specs.declared.edit.Edit.{Edit}
use Rattle.command_parts.specs.declared.edit.Edit.TheVariants.{Back}
use Rattle.edit_commands.specs.Session.{SessionValue, edit_of}
use Rattle.screen_editor.proofs.UndoneTexts.{StandsFor, back_stands}
use Rattle.screen_editor.proofs.known.maker.Goals as goal

stands_for : (c : goal.Else-passed-ge-MOST_BACKS) → StandsFor c.args.workspace.now c.loop-r.k c.in-Some-Back.r
stands_for c =
    let w = c.args.workspace.now in
    let k = c.loop-r.k in
    let back = c.in-Some-Back in
    let at : edit_of w.session k ≡ Some (Back back.r) = sym (c.edit.ensures ∙ ap (λ (v : SessionValue). edit_of v k) c.session-session.ensures.value) ∙ back.is ∙ ap (λ (e : Edit). Some e) back.field-0-is in
    back_stands w k back.r c.last-k.ensures.kept c.last-k.ensures.history at

pub loop-r-smaller : goal.loop-r-smaller
loop-r-smaller c = (stands_for c).before

pub loop-r-preserved : goal.loop-r-preserved
loop-r-preserved c =
    let stands = stands_for c in
    record { text = λ source. stands.text source ∙ c.loop-r.invariant.text source; prior = stands.prior ∙ c.loop-r.invariant.prior }
