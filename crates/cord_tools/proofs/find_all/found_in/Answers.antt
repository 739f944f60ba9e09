use Rattle.std.proofs.Common.{◌≡◌, ◌+◌, ℕ, Option, length, ap, subst, arith}
use Rattle.memchr.specs.Find.{FindsNeedle}
use Rattle.cord_tools.specs.AllPlaces.{behind}
use Rattle.cord_tools.proofs.FoundPlaces.{in_more, in_past}
use Rattle.cord_tools.proofs.find_all.found_in.Goals as goal

pub places-preserved : goal.places-preserved
places-preserved c =
    let need = ap length c.needle-need.ensures in
    let step : c.args.first + (c.in-Some.k + c.max.result) ≡ behind c.args.finder.now (c.args.first + c.in-Some.k) = omega (arith, need, c.max.ensures) in
    record {
      inside = omega (arith, need, c.max.ensures, c.in-Some.ensures.1.fits);
      found = in_more c.args.finder.now c.args.bytes.now c.args.first c.places.at c.in-Some.k (c.args.first + (c.in-Some.k + c.max.result)) c.places.lines.items c.push_line.new.lines.items
          c.places.invariant.found c.in-Some.ensures c.in_ok-push_line.ensures step;
    }

pub returns-clause-found : goal.returns-clause-found
returns-clause-found c =
    let need = ap length c.needle-need.ensures in
    let none = subst (λ (r : Option ℕ). FindsNeedle c.args.bytes.now c.args.finder.now c.places.at r) c.in_default.is c.next_in.ensures in
    in_past c.args.finder.now c.args.bytes.now c.args.first c.places.at (c.args.first + c.max-2.result) c.places.lines.items c.places.invariant.found none
    (omega (arith, c.max-2.ensures)) (λ j above below. omega (arith, above, below, need, c.max-2.ensures))
