use Rattle.std.proofs.Common.{◌≡◌, ◌+◌, ◌∷◌, [], length, sym, subst, ◌∙◌, arith}
use Rattle.cord_tools.specs.AllPlaces.{FindsIn, behind}
use Rattle.cord_tools.proofs.BytePlaces.{next_byte, no_byte}
use Rattle.cord_tools.proofs.FoundPlaces.{in_more, in_none, in_past}
use Rattle.cord_tools.proofs.find_all.found_byte.Goals as goal

pub places-init : goal.places-init
places-init c = record {
  at = 0;
  inside = omega arith;
  left = c.memchr_iter-places.ensures.value;
  found =
      subst (FindsIn (c.args.byte ∷ []) c.args.bytes.now c.args.first (c.args.first + 0)) (sym c.requires.empty) (in_none (c.args.byte ∷ []) c.args.bytes.now c.args.first (c.args.first + 0) (omega arith));
}

pub overflow_add-first : goal.overflow_add-first
overflow_add-first c =
    let h = c.places.invariant in
    let next = next_byte c.args.bytes.now c.args.byte h.at c.in-Some.place c.next.new.self h.inside (sym h.left ∙ c.in-Some.ensures.steps) in
    omega (arith, c.requires.limit, next.0.1.fits)

pub places-preserved : goal.places-preserved
places-preserved c =
    let h = c.places.invariant in
    let place = c.in-Some.place in
    let next = next_byte c.args.bytes.now c.args.byte h.at place c.next.new.self h.inside (sym h.left ∙ c.in-Some.ensures.steps) in
    let step : c.args.first + (place + 1) ≡ behind (c.args.byte ∷ []) (c.args.first + place) = omega arith in
    record {
      at = place + 1;
      inside = omega (arith, next.0.1.fits);
      left = next.1;
      found = in_more (c.args.byte ∷ []) c.args.bytes.now c.args.first h.at place (c.args.first + (place + 1)) c.places.lines.items c.push_line.new.lines.items h.found next.0 c.in_ok-push_line.ensures step;
    }

pub returns-clause-found : goal.returns-clause-found
returns-clause-found c =
    let h = c.places.invariant in
    let bytes = c.args.bytes.now in
    let none = no_byte bytes c.args.byte h.at h.inside (sym h.left ∙ c.in_default.ensures.steps.0) in
    in_past (c.args.byte ∷ []) bytes c.args.first h.at (c.args.first + length bytes) c.places.lines.items h.found none (omega (arith, h.inside)) (λ j above below. omega (arith, below))
