use Rattle.std.proofs.Common.{◌≡◌, ◌≤◌, length, ap, ◌∙◌, arith}
use Rattle.image_reader.specs.Value.{ImageValue, IsImage}
use Rattle.saved_session.proofs.TakenRevisions.{takes_all}
use Rattle.saved_session.proofs.taking.take_up.Goals as goal

pub returns-clause-taken : goal.returns-clause-taken
returns-clause-taken c =
    let v = c.args.checked.now in
    let count : c.count-count.result ≡ length v.revisions = c.count-count.ensures.count ∙ ap (λ (x : ImageValue). length x.revisions) (c.over-revisions.ensures ∙ c.image-2.ensures) in
    let past : length v.revisions ≤ c.loop-k.k = omega (arith, count, c.loop-k-test.false) in
    let is : IsImage v = rw c.image.ensures at c.node_count-nodes.ensures.image in
    takes_all v is c.loop-k.k past c.loop-k.session c.loop-k.invariant.takes

pub returns-clause-no_source : goal.returns-clause-no_source
returns-clause-no_source c =
    let v = c.args.checked.now in
    let count : c.count-count.result ≡ length v.revisions = c.count-count.ensures.count ∙ ap (λ (x : ImageValue). length x.revisions) (c.over-revisions.ensures ∙ c.image-2.ensures) in
    let past : length v.revisions ≤ c.loop-k.k = omega (arith, count, c.loop-k-test.false) in
    λ j lt. c.loop-k.invariant.takes.no_source j (omega (arith, lt, past))
