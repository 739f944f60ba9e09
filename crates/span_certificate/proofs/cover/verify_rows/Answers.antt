use Rattle.std.proofs.Common.{◌≡◌, ◌+◌, ◌<◌, length, Option, Some, refl, sym, subst, ◌∙◌, arith}
use Rattle.command_parts.specs.declared.part.Part.{Part}
use Rattle.command_parts.specs.Places.{IsAt}
use Rattle.span_certificate.proofs.RowLooks.{looks_more, looks_within}
use Rattle.command_parts.proofs.PartPlaces.{at_part, at_is_part, at_inside_parts, at_whole}
use Rattle.span_certificate.proofs.Verdicts.{verifying_more, verifying_none, answers_unfit, answers_whole, answers_left, row_asks}
use Rattle.span_certificate.proofs.MadeRows.{shows_same}
use Rattle.span_certificate.proofs.cover.verify_rows.Goals as goal

pub row_fits-requires-clause-part : goal.row_fits-requires-clause-part
row_fits-requires-clause-part g c = λ part is.
    let at : IsAt c.args.parts c.loop-j.place (Some part) c.loop-j.at.off c.loop-j.at.rest =
    subst (λ (p : Option Part). IsAt c.args.parts c.loop-j.place p c.loop-j.at.off c.loop-j.at.rest) is c.loop-j.invariant.at in
    at_is_part (g.S.CountedSpace.table c.args.space.now) c.args.parts c.loop-j.place part c.loop-j.at.off c.loop-j.at.rest c.requires.parts at

pub returns-in-Err-clause-reads : goal.returns-in-Err-clause-reads
returns-in-Err-clause-reads g c =
    let lt : c.loop-j.j < length (g.R.Rows.listed c.args.rows.now) = omega (arith, c.count-j-end.ensures) in
    let held = at_part c.args.parts c.loop-j.place c.loop-j.at.part c.loop-j.at.off c.loop-j.at.rest c.loop-j.invariant.at in
    row_asks (g.T.Sources.reading c.args.sources.now) (g.T.Sources.reading c.loop-j.sources) (g.T.Sources.reading c.row_fits.new.sources) (g.S.CountedSpace.table c.args.space.now) (g.S.CountedSpace.coded c.args.space.now)
    c.args.parts c.args.root (g.R.Rows.listed c.args.rows.now) c.loop-j.j c.loop-j.place c.row-row.result c.in-Err.fault
    lt c.row-row.ensures c.loop-j.invariant.verifying c.loop-j.invariant.reads (c.in-Err.ensures.reads c.args.parts c.requires.parts held) (c.in-Err.ensures.may_be_read c.args.parts held)

pub returns-in-Ok-false-clause-exact : goal.returns-in-Ok-false-clause-exact
returns-in-Ok-false-clause-exact g c =
    let lt : c.loop-j.j < length (g.R.Rows.listed c.args.rows.now) = omega (arith, c.count-j-end.ensures) in
    let held = at_part c.args.parts c.loop-j.place c.loop-j.at.part c.loop-j.at.off c.loop-j.at.rest c.loop-j.invariant.at in
    answers_unfit (g.S.CountedSpace.table c.args.space.now) (g.S.CountedSpace.coded c.args.space.now) (g.T.Sources.reading c.args.sources.now).stated c.args.parts c.args.root (g.R.Rows.listed c.args.rows.now) c.loop-j.j c.loop-j.place c.row-row.result
    lt c.row-row.ensures c.loop-j.invariant.verifying (rw (c.loop-j.invariant.reads, c.in-Ok-false.field-0-test) at (c.in-Ok-false.ensures.fits c.args.parts c.requires.parts held))

pub returns-in-Ok-false-clause-reads : goal.returns-in-Ok-false-clause-reads
returns-in-Ok-false-clause-reads g c =
    let held = at_part c.args.parts c.loop-j.place c.loop-j.at.part c.loop-j.at.off c.loop-j.at.rest c.loop-j.invariant.at in
    c.in-Ok-false.ensures.reads c.args.parts c.requires.parts held ∙ c.loop-j.invariant.reads

pub loop-j-preserved : goal.loop-j-preserved
loop-j-preserved g c =
    let lt : c.loop-j.j < length (g.R.Rows.listed c.args.rows.now) = omega (arith, c.count-j-end.ensures) in
    let held = at_part c.args.parts c.loop-j.place c.loop-j.at.part c.loop-j.at.off c.loop-j.at.rest c.loop-j.invariant.at in
    let inside = c.in-Ok-true.ensures.inside c.in-Ok-true.field-0-test in
    record {
      verifying = verifying_more (g.S.CountedSpace.table c.args.space.now) (g.S.CountedSpace.coded c.args.space.now) (g.T.Sources.reading c.args.sources.now).stated c.args.parts c.args.root (g.R.Rows.listed c.args.rows.now) c.loop-j.j c.loop-j.place c.row-row.result
          lt c.row-row.ensures c.loop-j.invariant.verifying (rw (c.loop-j.invariant.reads, c.in-Ok-true.field-0-test) at (c.in-Ok-true.ensures.fits c.args.parts c.requires.parts held))
          (inside.0, at_inside_parts c.args.parts c.loop-j.place c.loop-j.at.part c.loop-j.at.off c.row-row.result.len c.loop-j.at.rest inside.1 c.loop-j.invariant.at);
      at = c.skip.ensures c.args.parts c.loop-j.place c.loop-j.invariant.at;
      looks = omega (arith, c.loop-j.invariant.looks, c.row_fits.ensures.looks, looks_more (g.R.Rows.listed c.args.rows.now) c.loop-j.j c.row-row.result lt c.row-row.ensures);
      ways = c.row_fits.ensures.ways;
      reads = c.in-Ok-true.ensures.reads c.args.parts c.requires.parts held ∙ c.loop-j.invariant.reads;
    }

pub returns-then-is_whole-clause-shows : goal.returns-then-is_whole-clause-shows
returns-then-is_whole-clause-shows g c = λ _.
    let t = g.S.CountedSpace.table c.args.space.now in
    let coded = g.S.CountedSpace.coded c.args.space.now in
    let rows = g.R.Rows.listed c.args.rows.now in
    let end : c.loop-j.j ≡ length rows = omega (arith, c.count-j-end.ensures, c.loop-j-test.false, c.loop-j.auto.j-end) in
    let ends = c.is_whole.ensures.0 c.if-is_whole.true in
    let whole = at_whole c.args.parts c.loop-j.place c.loop-j.at.part c.loop-j.at.off c.loop-j.at.rest c.loop-j.invariant.at in
    shows_same t c.node_count-nodes.ensures.sound c.node_count-nodes.ensures.true_records coded (g.met.S.CountedSpace.answered c.args.space.now) (g.T.Sources.reading c.args.sources.now).stated c.args.parts c.args.root rows
    c.requires.parts c.requires.root
    (answers_whole t coded (g.T.Sources.reading c.args.sources.now).stated c.args.parts c.args.root rows c.loop-j.j c.loop-j.place end c.loop-j.invariant.verifying (ends.0, whole.0 ends.1))

pub returns-then-is_whole-clause-exact : goal.returns-then-is_whole-clause-exact
returns-then-is_whole-clause-exact g c =
    let rows = g.R.Rows.listed c.args.rows.now in
    let end : c.loop-j.j ≡ length rows = omega (arith, c.count-j-end.ensures, c.loop-j-test.false, c.loop-j.auto.j-end) in
    let ends = c.is_whole.ensures.0 c.if-is_whole.true in
    let whole = at_whole c.args.parts c.loop-j.place c.loop-j.at.part c.loop-j.at.off c.loop-j.at.rest c.loop-j.invariant.at in
    answers_whole (g.S.CountedSpace.table c.args.space.now) (g.S.CountedSpace.coded c.args.space.now) (g.T.Sources.reading c.args.sources.now).stated c.args.parts c.args.root rows c.loop-j.j c.loop-j.place
    end c.loop-j.invariant.verifying (ends.0, whole.0 ends.1)

pub returns-else-is_whole-clause-exact : goal.returns-else-is_whole-clause-exact
returns-else-is_whole-clause-exact g c =
    let t = g.S.CountedSpace.table c.args.space.now in
    let rows = g.R.Rows.listed c.args.rows.now in
    let end : c.loop-j.j ≡ length rows = omega (arith, c.count-j-end.ensures, c.loop-j-test.false, c.loop-j.auto.j-end) in
    let whole = at_whole c.args.parts c.loop-j.place c.loop-j.at.part c.loop-j.at.off c.loop-j.at.rest c.loop-j.invariant.at in
    let last : c.count.result ≡ c.loop-j.j = c.count.ensures ∙ sym end in
    rw last
    (answers_left t (g.S.CountedSpace.coded c.args.space.now) (g.T.Sources.reading c.args.sources.now).stated c.args.parts c.args.root rows c.loop-j.j c.loop-j.place
    end c.loop-j.invariant.verifying (λ both. let never = c.is_whole.ensures.1 (both.0, whole.1 both.1) in let is = c.if-is_whole.false in absurd cc))

pub returns-in-Err-clause-looks : goal.returns-in-Err-clause-looks
returns-in-Err-clause-looks g c =
    let rows = g.R.Rows.listed c.args.rows.now in
    let lt : c.loop-j.j < length rows = omega (arith, c.count-j-end.ensures) in
    omega (arith, c.loop-j.invariant.looks, c.row_fits.ensures.looks, looks_more rows c.loop-j.j c.row-row.result lt c.row-row.ensures, looks_within rows (c.loop-j.j + 1) (omega (arith, lt)))

pub returns-in-Ok-false-clause-looks : goal.returns-in-Ok-false-clause-looks
returns-in-Ok-false-clause-looks g c =
    let rows = g.R.Rows.listed c.args.rows.now in
    let lt : c.loop-j.j < length rows = omega (arith, c.count-j-end.ensures) in
    omega (arith, c.loop-j.invariant.looks, c.row_fits.ensures.looks, looks_more rows c.loop-j.j c.row-row.result lt c.row-row.ensures, looks_within rows (c.loop-j.j + 1) (omega (arith, lt)))

pub returns-then-is_whole-clause-looks : goal.returns-then-is_whole-clause-looks
returns-then-is_whole-clause-looks g c =
    let rows = g.R.Rows.listed c.args.rows.now in
    let end : c.loop-j.j ≡ length rows = omega (arith, c.count-j-end.ensures, c.loop-j-test.false, c.loop-j.auto.j-end) in
    omega (arith, c.loop-j.invariant.looks, looks_within rows c.loop-j.j (omega (arith, end)))

pub returns-else-is_whole-clause-looks : goal.returns-else-is_whole-clause-looks
returns-else-is_whole-clause-looks g c =
    let rows = g.R.Rows.listed c.args.rows.now in
    let end : c.loop-j.j ≡ length rows = omega (arith, c.count-j-end.ensures, c.loop-j-test.false, c.loop-j.auto.j-end) in
    omega (arith, c.loop-j.invariant.looks, looks_within rows c.loop-j.j (omega (arith, end)))

pub loop-j-init : goal.loop-j-init
loop-j-init g c = record {
  verifying = verifying_none (g.S.CountedSpace.table c.args.space.now) (g.S.CountedSpace.coded c.args.space.now) (g.T.Sources.reading c.args.sources.now).stated c.args.parts c.args.root (g.R.Rows.listed c.args.rows.now);
  at = c.start-at.ensures;
  looks = omega arith;
  ways = c.forget.ensures (g.S.CountedSpace.table c.args.space.now) c.node_count-nodes.ensures.sound c.node_count-nodes.ensures.true_records;
  reads = refl;
}
