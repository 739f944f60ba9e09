use Rattle.std.proofs.Common.{refl, sym, ◌∙◌}
use Rattle.std.proofs.lemmas.Bool.{ltb-false}
use Rattle.edit_commands.proofs.HandedChanges.{apart_on, apart_end}
use Rattle.edit_commands.proofs.refusing.are_apart.Goals as goal

pub loop-j-preserved : goal.loop-j-preserved
loop-j-preserved c =
    let behind = ltb-false _ _ (sym c.is_past.ensures ∙ c.if-is_past.false) in
    c.loop-j.invariant ∙ apart_on c.args.changes.now c.loop-j.j c.loop-j.auto.j c.loop-j-test.true _ _ refl refl c.if-before-here.false behind

pub returns : goal.returns
returns c = sym (c.loop-j.invariant ∙ apart_end c.args.changes.now c.loop-j.j c.loop-j.auto.j c.loop-j-test.false)
