use Rattle.std.proofs.Common.{min, refl}
use Rattle.image_reader.specs.Accepted.{splices_before}
use Rattle.byte_origins.specs.declared.stretch.Stretch.{Stretch}
use Rattle.byte_origins.proofs.Standing.{stands_begins, stands_more, stands_ends}
use Rattle.byte_origins.proofs.tracing.walked.Goals as goal

pub back-init : goal.back-init
back-init g c =
    let is = c.revision_count-count.ensures.true_records in
    stands_begins (g.H.History.image c.args.history) is is.rules c.args.rest c.requires.stretch c.requires.whole

pub returns-in-Run : goal.returns-in-Run
returns-in-Run g c = stands_ends (g.H.History.image c.args.history) c.args.rest.revision c.args.rest.place c.back.top c.in-Run.run' c.min.result c.back.invariant c.in-Run.ensures.step c.in-Run.ensures.exact c.min.ensures

pub back-preserved : goal.back-preserved
back-preserved g c =
    let v = g.H.History.image c.args.history in
    let next : Stretch = record { revision = c.in-FromText.j; place = c.in-FromText.place; len = min c.back.top.len c.in-FromText.n; first = splices_before v c.in-FromText.j } in
    rw (c.earlier-top.ensures) (stands_more v c.args.rest.revision c.args.rest.place c.back.top next c.in-FromText.n c.back.invariant c.in-FromText.ensures.step c.in-FromText.ensures.exact refl refl)
