use Rattle.std.proofs.Common.{◌≡◌, ◌+◌, length, take, drop, ap, ◌∙◌, arith}
use Rattle.std.proofs.lemmas.List.{length-take, take-take}
use Rattle.span_certificate.proofs.RunLaws.{filled_more}
use Rattle.span_certificate.proofs.bytes.fill_pool.Goals as goal

pub loop-done-preserved : goal.loop-done-preserved
loop-done-preserved g c =
    let pool = (g.S.CountedSpace.table c.args.space.now).pool in
    let piece = c.pool_from-piece.result.now in
    let n = c.min-n.result in
    let whole : length c.copy_from_slice.new.self ≡ n = ap length c.copy_from_slice.ensures.after ∙ omega (arith, length-take n piece, c.min-n.ensures) in
    record {
      inside = omega (arith, c.min-n.ensures, c.loop-done.auto.buffer);
      filled = filled_more pool c.loop-done.buffer c.copy_from_slice.new.self c.args.a c.loop-done.done n _ (omega (arith, c.min-n.ensures, c.loop-done-test.true)) whole
          (c.copy_from_slice.ensures.after ∙ ap (take n) c.pool_from-piece.ensures.bytes ∙ take-take n (length piece) (drop (c.args.a + c.loop-done.done) pool) (omega (arith, c.min-n.ensures)))
          c.loop-done.invariant.filled;
    }
