use Rattle.std.proofs.Common.{◌≡◌, ℕ, ◌<◌, length, Option, Some, refl, subst, ap, ◌∙◌, arith, rules}
use Rattle.command_parts.specs.declared.part.Part.{Part}
use Rattle.span_certificate.specs.Covers.{place_of, row_at}
use Rattle.command_parts.specs.Parts.{part_at}
use Rattle.command_parts.specs.Places.{held, IsAt}
use Rattle.span_certificate.proofs.LongestRows.{each_next, row_inside, row_stands, stands_next}
use Rattle.command_parts.proofs.PartPlaces.{at_part}
use Rattle.span_certificate.proofs.each_row.each_holds.Goals as goal

pub loop-j-init : goal.loop-j-init
loop-j-init g c = record {
  stands = refl;
  each = λ i lt. absurd (omega arith);
  at = c.start-at.ensures;
  ways = c.forget.ensures (g.S.NodeSpace.table c.args.space.now) c.count-nodes.ensures.sound c.count-nodes.ensures.true_records;
}

pub ask-requires-clause-stands : goal.ask-requires-clause-stands
ask-requires-clause-stands g c =
    let lt : c.loop-j.j < length c.args.rows.now = omega (arith, c.loop-j-test.true) in
    let at : IsAt c.args.parts c.loop-j.place (Some c.part_there-part.result) c.loop-j.at.off c.loop-j.at.rest =
    subst (λ (p : Option Part). IsAt c.args.parts c.loop-j.place p c.loop-j.at.off c.loop-j.at.rest) c.part_there-part.ensures c.loop-j.invariant.at in
    rw c.nth-row.ensures (row_stands (g.S.NodeSpace.table c.args.space.now) (g.S.CodedSpace.coded c.args.space.now) c.args.parts c.args.root c.args.rows.now c.requires.covers
    c.requires.parts c.requires.root c.loop-j.j c.loop-j.place c.loop-j.at.off c.part_there-part.result c.loop-j.at.rest lt c.loop-j.invariant.stands at)

pub returns-then-not-ask : goal.returns-then-not-ask
returns-then-not-ask g c =
    let t = g.S.NodeSpace.table c.args.space.now in
    let lt : c.loop-j.j < length c.args.rows.now = omega (arith, c.loop-j-test.true) in
    let held_here : part_at c.args.parts c.loop-j.place ≡ Some (c.part_there-part.result, c.loop-j.at.off) =
    at_part c.args.parts c.loop-j.place c.loop-j.at.part c.loop-j.at.off c.loop-j.at.rest c.loop-j.invariant.at ∙ ap (λ (p : Option Part). held p c.loop-j.at.off) c.part_there-part.ensures in (
      λ never. absurd cc,
      λ all.
          let here : g.Q.Question.holds t c.args.parts c.args.root c.loop-j.place c.nth-row.result = rw (c.loop-j.invariant.stands, c.nth-row.ensures) (all c.loop-j.j lt) in
          let yes = (c.ask.ensures.holds c.args.parts c.requires.parts held_here).1 here in
          let no = c.if-not-ask.true in absurd cc,
    )

pub skip-requires : goal.skip-requires
skip-requires g c =
    let t = g.S.NodeSpace.table c.args.space.now in
    let lt : c.loop-j.j < length c.args.rows.now = omega (arith, c.loop-j-test.true) in
    rw c.nth-row.ensures (row_inside t (g.S.CodedSpace.coded c.args.space.now) c.args.parts c.args.root c.args.rows.now c.requires.covers c.loop-j.j c.loop-j.place c.loop-j.at.off c.loop-j.at.part c.loop-j.at.rest lt c.loop-j.invariant.stands c.loop-j.invariant.at).0

pub loop-j-preserved : goal.loop-j-preserved
loop-j-preserved g c =
    let t = g.S.NodeSpace.table c.args.space.now in
    let rows = c.args.rows.now in
    let lt : c.loop-j.j < length rows = omega (arith, c.loop-j-test.true) in
    let held_here : part_at c.args.parts c.loop-j.place ≡ Some (c.part_there-part.result, c.loop-j.at.off) =
    at_part c.args.parts c.loop-j.place c.loop-j.at.part c.loop-j.at.off c.loop-j.at.rest c.loop-j.invariant.at ∙ ap (λ (p : Option Part). held p c.loop-j.at.off) c.part_there-part.ensures in
    let here = (c.ask.ensures.holds c.args.parts c.requires.parts held_here).0 (search rules) in
    record {
      stands = stands_next t (g.S.CodedSpace.coded c.args.space.now) c.args.parts c.args.root rows c.requires.covers c.loop-j.j c.loop-j.place c.nth-row.result c.loop-j.invariant.stands c.nth-row.ensures lt;
      each = each_next (λ (i : ℕ). g.Q.Question.holds t c.args.parts c.args.root (place_of rows i) (row_at rows i)) c.loop-j.j c.loop-j.invariant.each (rw (← c.loop-j.invariant.stands, ← c.nth-row.ensures) here);
      at = c.skip.ensures c.args.parts c.loop-j.place c.loop-j.invariant.at;
      ways = c.ask.ensures.ways;
    }

pub returns : goal.returns
returns g c = (λ yes j lt. c.loop-j.invariant.each j (omega (arith, c.loop-j-test.false)), λ all. refl)
