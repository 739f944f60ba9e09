use Rattle.std.proofs.Common.{◌-◌, ◌<◌, length, refl, arith}
use Rattle.std.proofs.lemmas.Result.{err_from_is_err_and}
use Rattle.edit_commands.specs.declared.command.Command.TheVariants as Command
use Rattle.commit_tools.proofs.CommittedTexts.{back_fails}
use Rattle.commit_tools.proofs.texts.go_back.Goals as goal

pub returns-in_err-make-clause-text : goal.returns-in_err-make-clause-text
returns-in_err-make-clause-text c =
    let p = err_from_is_err_and c.from_residual.result c.from_residual.ensures.1 in
    rw (p.1, p.2) (back_fails c.args.session.now c.make.new.session c.args.r (Command.Back c.args.r) c.in_err-make.field-0.0
    (omega (arith, c.requires, c.count.ensures.value, c.if-r-count.false)) refl c.in_err-make.ensures)

pub returns-clause-text : goal.returns-clause-text
returns-clause-text c =
    let earlier : c.args.r < length c.args.session.now.revisions - 1 = omega (arith, c.requires, c.count.ensures.value, c.if-r-count.false) in
    (earlier, (Command.Back c.args.r, refl, c.in_ok-make.ensures))
