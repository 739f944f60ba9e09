use Rattle.std.proofs.Common.{subst, arith}
use Rattle.screen_editor.specs.declared.key.Key.TheVariants as Keys
use Rattle.screen_editor.specs.KnownTexts.{IsMaker}
use Rattle.screen_editor.proofs.KnownKeys.{by_lines, stays_put_back, stays_put_plain, stays_taken_out, stays_undone}
use Rattle.screen_editor.proofs.UndoneTexts.{balance_undone, delete_undone, put_in_undone}
use Rattle.screen_editor.proofs.known.known_undone.Goals as goal

pub known_without-requires : goal.known_without-requires
known_without-requires c =
    let made = c.in-Some.made in
    let out = put_in_undone c.args.workspace.now made.revision made.edit c.in-Insert.p c.in-Insert.n c.last-last.ensures.kept c.last-last.ensures.history c.in-Some.ensures c.in-Insert.is in
    record { inside = out.inside }

pub returns-in-Insert : goal.returns-in-Insert
returns-in-Insert c =
    let w = c.args.workspace.now in
    let known = c.args.known.now in
    let last = c.last-last.ensures in
    let put = c.in-Insert in
    by_lines Keys.Undo w known c.known_without.result
    (stays_taken_out w put.p put.n known.lines c.known_without.result last.history (put_in_undone w c.in-Some.made.revision c.in-Some.made.edit put.p put.n last.kept last.history c.in-Some.ensures put.is) c.known_without.ensures.told c.known_without.ensures.lines)

pub returns-then-made-known : goal.returns-then-made-known
returns-then-made-known c =
    let w = c.args.workspace.now in
    let known = c.args.known.now in
    let last = c.last-last.ensures in
    let out = c.in-Delete in
    let k = c.in-Some.made.revision in
    by_lines Keys.Undo w known c.pasted.result
    (stays_put_back w out.r out.p out.n known.lines c.pasted.result last.history (delete_undone w k out.r out.p out.n last.kept last.history (subst (IsMaker w k) out.is c.in-Some.ensures)) c.pasted.ensures.lines)

pub returns-else-made-known : goal.returns-else-made-known
returns-else-made-known c =
    let w = c.args.workspace.now in
    let last = c.last-last.ensures in
    let out = c.in-Delete in
    let k = c.in-Some.made.revision in
    let made = subst (IsMaker w k) out.is c.in-Some.ensures in
    stays_put_plain w k out.r out.p out.n c.args.known.now c.widened.result last.history (delete_undone w k out.r out.p out.n last.kept last.history made) made.is (omega (arith, c.if-made-known.false)) c.widened.ensures.lines

pub returns-in-Balance : goal.returns-in-Balance
returns-in-Balance c =
    let w = c.args.workspace.now in
    let known = c.args.known.now in
    let last = c.last-last.ensures in
    let k = c.in-Some.made.revision in
    by_lines Keys.Undo w known known.lines (stays_undone w known.lines last.history (balance_undone w k c.in-Balance.r last.kept last.history (subst (IsMaker w k) c.in-Balance.is c.in-Some.ensures)))
