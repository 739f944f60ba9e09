use Rattle.std.proofs.Common.{◌+◌, ◌<◌, length, refl, sym, ◌∙◌, arith}
use Rattle.std.proofs.lemmas.List.{ext_get_or}
use Rattle.std.proofs.lemmas.List.FromFn.{length-map-range_with_len, get_or-map-range_with_len}
use Rattle.cord_position.proofs.fill.fill_answers.Goals as goal

pub returns : goal.returns
returns g c =
    let answer = (g.S.NodeSpace.table c.args.space.now).answer c.args.leaf.0 in
    let n = length c.args.buffer.now in
    ext_get_or 0 c.loop-k.buffer _ (c.loop-k.auto.buffer ∙ sym (length-map-range_with_len answer c.args.start n))
    (λ k lt.
    let inside : k < n = omega (arith, lt, c.loop-k.auto.buffer) in
    c.loop-k.invariant k (omega (arith, inside, c.loop-k-test.false)) ∙ sym (get_or-map-range_with_len answer c.args.start n k (c.args.start + k) 0 inside refl))
