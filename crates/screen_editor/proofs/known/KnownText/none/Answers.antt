use Rattle.std.proofs.Common.{arith}
use Rattle.screen_editor.proofs.PlainCuts.{none_known}
use Rattle.screen_editor.proofs.known.KnownText.none.Goals as goal

pub returns : goal.returns
returns c st =
    let kept = c.last.ensures.kept in
    none_known st c.args.workspace.now (record { lines = c.none.result; plain_from = c.saturating_add.result }) c.none.ensures (omega (arith, c.saturating_add.ensures, c.last.ensures.value, kept.some, kept.session.few))
