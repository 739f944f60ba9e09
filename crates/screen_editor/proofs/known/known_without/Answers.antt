use Rattle.screen_editor.proofs.KnownKeys.{told_in_current}
use Rattle.screen_editor.proofs.known.known_without.Goals as goal

pub returns-then-are_told_by_others-clause-told : goal.returns-then-are_told_by_others-clause-told
returns-then-are_told_by_others-clause-told c some =
    told_in_current c.args.workspace.now c.session.result.now c.space-space.result.now c.root.result c.args.place c.args.count c.session.ensures.value c.space-space.ensures.store c.root.ensures.value (c.are_told_by_others.ensures c.if-are_told_by_others.true)
