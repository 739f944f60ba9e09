use Rattle.std.proofs.Common.{◌≡◌, [], ◌∷◌, ◌++◌, sym, subst, rules, ◌≤◌, ◌<◌, length, IfSome, Err}
use Rattle.edit_commands.specs.Refusals.{result_len}
use Rattle.screen_editor.specs.declared.workspace.TheConstants.{LONGEST_TEXT}
use Rattle.screen_editor.specs.declared.fault.KeyFault.TheVariants as Fault
use Rattle.screen_editor.specs.Editing.{Editing}
use Rattle.screen_editor.specs.Priors.{prior_behind}
use Rattle.screen_editor.specs.Recorded.{edit_at}
use Rattle.screen_editor.specs.Taking.{IsInOrder, RevisesOrNot}
use Rattle.screen_editor.proofs.Revising.{after_fault, after_revision, refused_in_order}
use Rattle.screen_editor.proofs.workspace.Workspace.revise.Goals as goal

pub invariant_of-self-in-Err : goal.invariant_of-self-in-Err
invariant_of-self-in-Err c =
    let before : Editing = record { session = c.self.inside.session; priors = c.self.inside.priors.items; place = c.self.inside.place; mark = c.self.inside.mark; cuts = c.self.inside.cuts.items; message = c.self.inside.message } in
    let same : c.try_reserve.new.self.items ≡ c.self.inside.priors.items = search rules in
    rw same (after_fault before c.args.command c.in-Err.fault c.apply-applied.new.self c.self.invariant.0 c.count-before.ensures.history c.in-Err.ensures c.count-after.ensures.session c.count-after.ensures.history, c.self.invariant.1)

pub invariant_of-self-2 : goal.invariant_of-self-2
invariant_of-self-2 c =
    let before : Editing = record { session = c.self.inside.session; priors = c.self.inside.priors.items; place = c.self.inside.place; mark = c.self.inside.mark; cuts = c.self.inside.cuts.items; message = c.self.inside.message } in
    let pushed : c.push-done.new.self.items ≡ c.self.inside.priors.items ++ c.args.prior ∷ [] = search rules in
    rw pushed (
      after_revision before c.args.command c.in_default.field-0 c.args.prior c.args.place c.apply-applied.new.self c.self.invariant.0 c.count-before.ensures.history c.in_default.ensures c.count-after.ensures.session c.count-after.ensures.history
          (subst (λ (e : Editing). IsInOrder e.session c.args.command) (sym c.self.view_is) c.requires.order)
          (subst (λ (e : Editing). result_len e.session c.args.command ≤ LONGEST_TEXT) (sym c.self.view_is) c.requires.short)
          (subst (λ (e : Editing). c.args.place ≤ result_len e.session c.args.command) (sym c.self.view_is) c.requires.place)
          (subst (λ (e : Editing). IfSome c.args.prior (λ j. j < length e.session.revisions)) (sym c.self.view_is) c.requires.prior)
          (subst (λ (e : Editing). c.args.prior ≡ prior_behind e.priors (edit_at 0 c.args.command)) (sym c.self.view_is) c.requires.named),
      c.self.invariant.1,
    )

pub returns-in-Err-clause-done : goal.returns-in-Err-clause-done
returns-in-Err-clause-done c =
    let before : Editing = record { session = c.self.inside.session; priors = c.self.inside.priors.items; place = c.self.inside.place; mark = c.self.inside.mark; cuts = c.self.inside.cuts.items; message = c.self.inside.message } in
    let same : c.try_reserve.new.self.items ≡ c.self.inside.priors.items = search rules in
    let done =
    refused_in_order before c.args.command c.args.prior c.args.place c.in-Err.fault c.apply-applied.new.self c.count-before.ensures.session
    (subst (λ (e : Editing). IsInOrder e.session c.args.command) (sym c.self.view_is) c.requires.order)
    (subst (λ (e : Editing). result_len e.session c.args.command ≤ LONGEST_TEXT) (sym c.self.view_is) c.requires.short) c.in-Err.ensures in
    rw same (subst (λ (e : Editing). RevisesOrNot c.args.command c.args.prior c.args.place e (Err (Fault.Edit c.in-Err.fault)) (record before { session = c.apply-applied.new.self })) c.self.view_is done)
