use Rattle.std.proofs.Common.{◌≡◌, length, refl, sym, ◌∙◌, arith}
use Rattle.byte_origins.specs.Origins.{origins_at}
use Rattle.byte_origins.proofs.Lengths.{as_long}
use Rattle.byte_origins.proofs.StepsTaken.{none_past}
use Rattle.byte_origins.proofs.stretch.Stretch.rest_of.Goals as goal

pub returns-then-k-revision_count-clause-there : goal.returns-then-k-revision_count-clause-there
returns-then-k-revision_count-clause-there g c =
    let none = none_past (g.H.History.image c.args.history) c.args.k (omega (arith, c.if-k-revision_count.true, c.revision_count.ensures.count)) in
    (λ f. absurd cc, λ lt. absurd (omega (arith, lt, none)))

pub returns-then-place-all-clause-there : goal.returns-then-place-all-clause-there
returns-then-place-all-clause-there g c =
    let v = g.H.History.image c.args.history in
    let t = c.revision_count.ensures.true_records in
    let len : c.len_of_text-all.result ≡ length (origins_at v c.args.k) = c.len_of_text-all.ensures.value ∙ sym (as_long v t t.rules c.args.k (omega (arith, c.if-k-revision_count.false, c.revision_count.ensures.count))) in
    (λ f. absurd cc, λ lt. absurd (omega (arith, lt, len, c.if-place-all.true)))

pub returns-clause-there : goal.returns-clause-there
returns-clause-there g c =
    let v = g.H.History.image c.args.history in
    let t = c.revision_count.ensures.true_records in
    let len : c.len_of_text-all.result ≡ length (origins_at v c.args.k) = c.len_of_text-all.ensures.value ∙ sym (as_long v t t.rules c.args.k (omega (arith, c.if-k-revision_count.false, c.revision_count.ensures.count))) in
    (λ w. omega (arith, len, c.if-place-all.false), λ lt. refl)
