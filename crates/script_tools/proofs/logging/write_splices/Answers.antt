use Rattle.std.proofs.Common.{◌≤◌, arith, drop, length, subst, take}
use Rattle.std.proofs.lemmas.List.{length-take}
use Rattle.std.specs.Io.KnownBytes.{Appends}
use Rattle.byte_output.specs.Prefix.{AppendsPrefix}
use Rattle.edit_script.specs.Commands.{splice_words}
use Rattle.session_image.proofs.Sections.{wrote_all, wrote_more, wrote_part}
use Rattle.script_tools.specs.Logged.{shown_on}
use Rattle.script_tools.proofs.Pieces.{stopped}
use Rattle.script_tools.proofs.ShownTexts.{got_among, splice_shown, splices_shown}
use Rattle.script_tools.proofs.logging.write_splices.Goals as goal

pub returns-in_err-write_splice : goal.returns-in_err-write_splice
returns-in_err-write_splice g c =
    let v = c.args.image.now in
    let texts = c.args.texts in
    let some = take c.args.count (drop c.args.first v.splices) in
    let a = g.W.Write.contents c.args.writer.now in
    let b = g.W.Write.contents c.loop-i.writer in
    let d = g.W.Write.contents c.write_splice.new.writer in
    let at = got_among v.splices c.args.first c.args.count c.loop-i.i c.splice.result c.loop-i-test.true c.splice.ensures in
    stopped a d (shown_on texts (splice_words v.pool some)) c.from_residual.result c.from_residual.ensures.0
    (subst (AppendsPrefix a d) (splices_shown texts v.pool some) (wrote_part (splice_shown texts v.pool) some c.loop-i.i c.splice.result a b d at c.loop-i.invariant c.in_err-write_splice.ensures))

pub loop-i-preserved : goal.loop-i-preserved
loop-i-preserved g c =
    let v = c.args.image.now in
    let texts = c.args.texts in
    let some = take c.args.count (drop c.args.first v.splices) in
    let a = g.W.Write.contents c.args.writer.now in
    let b = g.W.Write.contents c.loop-i.writer in
    let d = g.W.Write.contents c.write_splice.new.writer in
    let at = got_among v.splices c.args.first c.args.count c.loop-i.i c.splice.result c.loop-i-test.true c.splice.ensures in
    wrote_more (splice_shown texts v.pool) some c.loop-i.i c.splice.result a b d at c.loop-i.invariant c.in_ok-write_splice.ensures

pub returns : goal.returns
returns g c =
    let v = c.args.image.now in
    let texts = c.args.texts in
    let some = take c.args.count (drop c.args.first v.splices) in
    let a = g.W.Write.contents c.args.writer.now in
    let b = g.W.Write.contents c.loop-i.writer in
    let few : length some ≤ c.loop-i.i = omega (arith, c.loop-i-test.false, length-take c.args.count (drop c.args.first v.splices)) in
    subst (Appends a b) (splices_shown texts v.pool some) (wrote_all (splice_shown texts v.pool) some c.loop-i.i a b few c.loop-i.invariant)
