use Rattle.std.proofs.Common.{◌≡◌, ℕ, suc, ◌-◌, ◌<◌, ◌≤◌, List, ◌∷◌, length, take, drop, get_or, ap, arith, subst, ◌∙◌}
use Rattle.std.specs.Prelude.{slice_range}
use Rattle.std.proofs.Math.Seq.{drop-cons}
use Rattle.line_changes.specs.declared.change.Change.{Change}
use Rattle.commit_tools.specs.Stops.{EndApart}
use Rattle.commit_tools.proofs.PutBatches.{apart_more, apart_one}
use Rattle.commit_tools.proofs.batches.batch_start.Goals as goal

-- of a longer batch that ends apart, the first change ends before the second begins
apart_first : (xs : List Change) (first left : ℕ) (d : Change) → 1 ≤ first → first < left → left ≤ length xs → EndApart (slice_range xs (first - 1) left)
    → (get_or xs (first - 1) d).to < (get_or xs first d).from
apart_first xs first left d some order inside apart =
    let more : left - (first - 1) ≡ suc (suc (left - suc first)) = omega (arith, some, order) in
    let at : suc (first - 1) ≡ first = omega (arith, some) in
    let two : drop (first - 1) xs ≡ get_or xs (first - 1) d ∷ get_or xs first d ∷ drop (suc first) xs =
    drop-cons xs (first - 1) d (omega (arith, order, inside)) ∙ ap (λ (n : ℕ). get_or xs (first - 1) d ∷ drop n xs) at
    ∙ ap (λ (r : List Change). get_or xs (first - 1) d ∷ r) (drop-cons xs first d (omega (arith, order, inside))) in
    let whole : slice_range xs (first - 1) left ≡ get_or xs (first - 1) d ∷ get_or xs first d ∷ take (left - suc first) (drop (suc first) xs) =
    ap (λ (n : ℕ). take n (drop (first - 1) xs)) more ∙ ap (take (suc (suc (left - suc first)))) two in
    (subst EndApart whole apart).0

pub loop-first-init : goal.loop-first-init
loop-first-init c =
    let zero : Change = record { from = 0; to = 0; put_from = 0; put_to = 0 } in
    record {
      some = omega (arith, c.requires.some);
      few = omega (arith, c.requires.some);
      apart = apart_one c.args.found.now.changes.items c.args.left zero c.requires.some c.requires.inside;
    }

pub loop-first-preserved : goal.loop-first-preserved
loop-first-preserved c =
    let zero : Change = record { from = 0; to = 0; put_from = 0; put_to = 0 } in
    let first : ℕ = c.loop-first.first in
    record {
      some = omega (arith, c.loop-first.invariant.some);
      few = omega (arith, c.if-left-first.true, c.loop-first-test.true);
      apart = apart_more c.args.found.now.changes.items first c.args.left zero (omega (arith, c.loop-first-test.true)) c.loop-first.invariant.some c.requires.inside
          (subst (λ (xs : List Change). (get_or xs (first - 1) zero).to < (get_or xs first zero).from) c.deref-changes.ensures.value c.if-changes-first.false) c.loop-first.invariant.apart;
    }

pub returns-then-changes-first-clause-longest : goal.returns-then-changes-first-clause-longest
returns-then-changes-first-clause-longest c some few apart =
    let zero : Change = record { from = 0; to = 0; put_from = 0; put_to = 0 } in
    let xs = c.args.found.now.changes.items in
    let first : ℕ = c.loop-first.first in
    let touch : (get_or xs first zero).from ≤ (get_or xs (first - 1) zero).to =
    subst (λ (ys : List Change). (get_or ys first zero).from ≤ (get_or ys (first - 1) zero).to) c.deref-changes.ensures.value c.if-changes-first.true in
    let before = apart_first xs first c.args.left zero some c.loop-first.invariant.some c.requires.inside apart in
    omega (arith, touch, before)
