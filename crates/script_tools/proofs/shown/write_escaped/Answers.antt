use Rattle.std.proofs.Common.{◌≡◌, ℕ, ◌+◌, ◌-◌, ◌∙◌, ap, arith, drop, subst, take}
use Rattle.std.specs.List.{flat_map}
use Rattle.std.specs.Io.KnownBytes.{Appends}
use Rattle.byte_output.specs.Prefix.{AppendsPrefix}
use Rattle.edit_script.specs.Words.{escaped}
use Rattle.session_image.proofs.Sections.{appends_then}
use Rattle.script_tools.proofs.Pieces.{front_alone, front_and_part, parts_and_rest, parts_to_next, parts_whole, stopped}
use Rattle.script_tools.proofs.shown.write_escaped.Goals as goal

pub returns-in_err-put_escaped : goal.returns-in_err-put_escaped
returns-in_err-put_escaped g c =
    let bytes = c.args.bytes.now in
    let done = c.loop-done.done in
    let a = g.W.Write.contents c.args.writer.now in
    let b = g.W.Write.contents c.loop-done.writer in
    let text = flat_map escaped bytes in
    stopped a b text c.from_residual.result c.from_residual.ensures.0
    (front_alone a b (flat_map escaped (take done bytes)) (flat_map escaped (drop done bytes)) text (parts_whole escaped bytes done) c.loop-done.invariant.1)

pub returns-in_err-write_piece : goal.returns-in_err-write_piece
returns-in_err-write_piece g c =
    let bytes = c.args.bytes.now in
    let done = c.loop-done.done in
    let more = c.min-more.result in
    let a = g.W.Write.contents c.args.writer.now in
    let b = g.W.Write.contents c.loop-done.writer in
    let d = g.W.Write.contents c.write_piece.new.writer in
    let text = flat_map escaped bytes in
    let many : (done + more) - done ≡ more = omega arith in
    let piece = flat_map escaped (take more (drop done bytes)) in
    let is : c.deref.result.now ≡ piece = c.deref.ensures.value ∙ c.in_ok-put_escaped.ensures ∙ ap (λ (n : ℕ). flat_map escaped (take n (drop done bytes))) many in
    stopped a d text c.from_residual-in_err-write_piece.result c.from_residual-in_err-write_piece.ensures.0
    (front_and_part a b d (flat_map escaped (take done bytes)) piece (flat_map escaped (drop more (drop done bytes))) text (parts_and_rest escaped bytes done more) c.loop-done.invariant.1 (subst (AppendsPrefix b d) is c.in_err-write_piece.ensures))

pub loop-done-preserved : goal.loop-done-preserved
loop-done-preserved g c =
    let bytes = c.args.bytes.now in
    let done = c.loop-done.done in
    let more = c.min-more.result in
    let a = g.W.Write.contents c.args.writer.now in
    let b = g.W.Write.contents c.loop-done.writer in
    let d = g.W.Write.contents c.write_piece.new.writer in
    let many : (done + more) - done ≡ more = omega arith in
    let piece = flat_map escaped (take more (drop done bytes)) in
    let is : c.deref.result.now ≡ piece = c.deref.ensures.value ∙ c.in_ok-put_escaped.ensures ∙ ap (λ (n : ℕ). flat_map escaped (take n (drop done bytes))) many in (
      omega (arith, c.min-more.ensures, c.loop-done.invariant.0),
      subst (Appends a d) (parts_to_next escaped bytes done more)
          (appends_then a b d (flat_map escaped (take done bytes)) piece c.loop-done.invariant.1 (subst (Appends b d) is c.in_ok-write_piece.ensures)),
    )
