use Rattle.std.proofs.Common.{sym}
use Rattle.screen_editor.proofs.KeySteps.{none_is}
use Rattle.screen_editor.proofs.KnownKeys.{stays_none_cut, stays_pasted}
use Rattle.screen_editor.proofs.known.known_pasted.Goals as goal

pub returns-in-Some : goal.returns-in-Some
returns-in-Some c =
    stays_pasted c.args.workspace.now c.place-place.result c.in-Some.span c.args.known.now c.pasted.result c.last-last.ensures.history (sym c.in-Some.ensures.value) c.in-Some.ensures.inside c.place-place.ensures.value c.place-place.ensures.inside c.pasted.ensures.lines

pub returns-in-None : goal.returns-in-None
returns-in-None c = stays_none_cut c.args.workspace.now c.args.known.now c.last-last.ensures.history (none_is c.args.workspace.now.cuts (sym c.in-None.ensures.value))
