use Rattle.std.proofs.Common.{sym, arith}
use Rattle.screen_editor.proofs.PlainCuts.{plain_ended, plain_left, plain_line}
use Rattle.screen_editor.proofs.known.plain_after.Goals as goal

pub returns-in_default : goal.returns-in_default
returns-in_default c = plain_left c.args.key c.args.workspace.now c.args.known.now c.taken_out.result c.taken_out.ensures c.in_default.not-Some

pub returns-then-is_some : goal.returns-then-is_some
returns-then-is_some c = plain_line c.args.key c.args.workspace.now c.args.known.now c.in-Some.out c.about.result c.last-last.ensures.history c.in-Some.ensures c.about.ensures.holds (sym c.if-is_some.ensures)

pub returns : goal.returns
returns c =
    let kept = c.last-last.ensures.kept in
    plain_ended c.args.key c.args.workspace.now c.args.known.now c.max.result (omega (arith, c.max.ensures)) (omega (arith, c.max.ensures, c.saturating_add.ensures, c.last-last.ensures.value, kept.some, kept.session.few))
