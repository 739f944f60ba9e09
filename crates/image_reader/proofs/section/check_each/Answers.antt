use Rattle.std.proofs.Common.{◌≡◌, take, Some, None, sym, ◌∙◌, ap}
use Rattle.std.proofs.lemmas.Result.{err_from_is_err_and}
use Rattle.image_reader.proofs.Sections.{read_to_more, read_to_fault, read_to_end}
use Rattle.image_reader.proofs.section.check_each.Goals as goal

pub returns-in_err-check : goal.returns-in_err-check
returns-in_err-check g c =
    let p = err_from_is_err_and c.from_residual.result c.from_residual.ensures.1 in
    let front : g.R.RecordKind.fault (take g.R.RecordKind.SIZE c.loop.rest.now) ≡ Some c.in_err-check.field-0.0 = ap (λ n. g.R.RecordKind.fault (take n c.loop.rest.now)) (sym c.SIZE.ensures) ∙ ap g.R.RecordKind.fault (sym c.split_at.ensures.front) ∙ sym c.in_err-check.ensures in
    rw (p.1, p.2) (read_to_fault g.R.RecordKind.SIZE g.R.RecordKind.fault c.args.count c.loop.counter c.loop.rest.now c.args.bytes.now c.in_err-check.field-0.0 c.loop-test.true front c.loop.invariant)

pub loop-preserved : goal.loop-preserved
loop-preserved g c =
    let front : g.R.RecordKind.fault (take g.R.RecordKind.SIZE c.loop.rest.now) ≡ None = ap (λ n. g.R.RecordKind.fault (take n c.loop.rest.now)) (sym c.SIZE.ensures) ∙ ap g.R.RecordKind.fault (sym c.split_at.ensures.front) ∙ sym c.in_ok-check.ensures in
    rw (c.split_at.ensures.back, c.SIZE.ensures) (read_to_more g.R.RecordKind.SIZE g.R.RecordKind.fault c.args.count c.loop.counter c.loop.rest.now c.args.bytes.now c.loop-test.true front c.loop.invariant)

pub returns : goal.returns
returns g c = read_to_end g.R.RecordKind.SIZE g.R.RecordKind.fault c.args.count c.loop.counter c.loop.rest.now c.args.bytes.now c.loop-test.false c.loop.invariant
