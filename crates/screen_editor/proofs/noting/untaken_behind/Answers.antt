use Rattle.std.proofs.Common.{◌≡◌, take, sym, ap, ◌∙◌, get_or}
use Rattle.std.proofs.lemmas.List.{take_all, take_more}
use Rattle.screen_editor.specs.declared.key.Key.{Key}
use Rattle.screen_editor.specs.Keys.{key_of}
use Rattle.screen_editor.specs.Watched.{untaken_behind, untaken_by}
use Rattle.screen_editor.proofs.TypedTurns.{counts_more}
use Rattle.screen_editor.proofs.noting.untaken_behind.Goals as goal

pub loop-key-preserved : goal.loop-key-preserved
loop-key-preserved c =
    let keys = c.args.keys.now in
    let i = c.loop-key.key-index in
    c.untaken_by-untaken.ensures
    ∙ ap (λ (k : Key). untaken_by k c.loop-key.untaken) c.of.ensures
    ∙ ap (untaken_by (key_of (get_or keys i 0))) c.loop-key.invariant
    ∙ sym (counts_more 0 (take i keys) (get_or keys i 0))
    ∙ ap (untaken_behind 0) (sym (take_more keys i 0 c.loop-key-test.true))

pub returns : goal.returns
returns c = c.loop-key.invariant ∙ ap (untaken_behind 0) (take_all c.loop-key.key-index c.args.keys.now c.loop-key-test.false)
