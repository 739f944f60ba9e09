use Rattle.std.proofs.Common.{◌≡◌, Err, sym, rules, ◌∙◌}
use Rattle.screen_editor.proofs.KeySteps.{cut_idle, cut_idle_here}
use Rattle.screen_editor.proofs.KeysTaken.{cut_inside, cut_refused, cut_taken}
use Rattle.screen_editor.proofs.workspace.Workspace.cut.Goals as goal

pub returns-in_default : goal.returns-in_default
returns-in_default c = cut_idle c.args.self.now c.last-last.ensures.kept c.last-last.ensures.history (sym c.in_default.ensures.value)

pub returns-then-mark-place : goal.returns-then-mark-place
returns-then-mark-place c = cut_idle_here c.args.self.now c.in-Some.mark c.last-last.ensures.kept c.last-last.ensures.history (sym c.in-Some.ensures.value) (c.if-mark-place.true ∙ c.place-place.ensures.value)

pub returns-in_err-revise : goal.returns-in_err-revise
returns-in_err-revise c =
    let same : c.from_residual.result ≡ Err c.in_err-revise.field-0.0 = search rules in
    rw same (cut_refused c.last-last.ensures.kept c.last-last.ensures.history c.last-last.ensures.value c.place-place.ensures.value c.in-Some.ensures.value c.in-Some.ensures.inside c.if-mark-place.false c.min-start.ensures c.max.ensures
    c.in_err-revise.ensures.done)

pub keep_cut-requires : goal.keep_cut-requires
keep_cut-requires c = cut_inside c.last-last.ensures.kept c.last-last.ensures.history c.last-last.ensures.value c.place-place.ensures.value c.in-Some.ensures.value c.in-Some.ensures.inside c.if-mark-place.false c.min-start.ensures c.max.ensures
    c.in_ok-revise.ensures.history c.in_ok-revise.ensures.done

pub returns : goal.returns
returns c = cut_taken c.last-last.ensures.kept c.last-last.ensures.history c.last-last.ensures.value c.place-place.ensures.value c.in-Some.ensures.value c.in-Some.ensures.inside c.if-mark-place.false c.min-start.ensures c.max.ensures
    c.in_ok-revise.ensures.done c.keep_cut.ensures
