use Rattle.std.proofs.Common.{◌≡◌, ◌∙◌, Err, length, take, arith, rules}
use Rattle.span_certificate.proofs.RunLaws.{turn_of, comparing_more, comparing_differs, turn_read}
use Rattle.span_certificate.proofs.bytes.same_bytes.Goals as goal

pub same_described-requires-clause-other_room : goal.same_described-requires-clause-other_room
same_described-requires-clause-other_room g c =
    let e : length (take c.min-n.result c.loop-done.bytes) ≡ c.min-n.result = search rules in
    rw e (c.run_of-b.ensures.run.room c.min-n.result (omega (arith, c.min-n.ensures, c.min.ensures)))

pub returns-in-Err-clause-reads : goal.returns-in-Err-clause-reads
returns-in-Err-clause-reads g c =
    let e : length (take c.min-n.result c.loop-done.bytes) ≡ c.min-n.result = search rules in
    let turn = turn_of (g.S.CountedSpace.table c.args.space.now) c.args.part c.args.off c.args.other c.args.place c.args.len c.loop-done.done c.run_of-a.result c.run_of-b.result c.min-n.result
    c.loop-done-test.true c.run_of-a.ensures.run c.run_of-b.ensures.run (rw c.min.ensures at c.min-n.ensures) in
    turn_read {X = Unit {0}} (g.T.Sources.reading c.args.sources.now) (g.T.Sources.reading c.loop-done.sources) (g.T.Sources.reading c.same_described.new.sources) (g.S.CountedSpace.table c.args.space.now)
    c.args.part c.args.off c.args.other c.args.place c.args.len c.loop-done.done c.run_of-a.result c.run_of-b.result c.min-n.result (Err c.in-Err.fault) turn c.loop-done.invariant.reads
    (rw e at c.in-Err.ensures.reads)

pub loop-done-preserved : goal.loop-done-preserved
loop-done-preserved g c =
    let e : length (take c.min-n.result c.loop-done.bytes) ≡ c.min-n.result = search rules in
    let turn = turn_of (g.S.CountedSpace.table c.args.space.now) c.args.part c.args.off c.args.other c.args.place c.args.len c.loop-done.done c.run_of-a.result c.run_of-b.result c.min-n.result
    c.loop-done-test.true c.run_of-a.ensures.run c.run_of-b.ensures.run (rw c.min.ensures at c.min-n.ensures) in
    record {
      comparing = comparing_more (g.S.CountedSpace.table c.args.space.now) (g.T.Sources.reading c.args.sources.now).stated c.args.part c.args.off c.args.other c.args.place c.args.len c.loop-done.done c.run_of-a.result c.run_of-b.result c.min-n.result
          turn c.loop-done.invariant.comparing (rw (e, c.loop-done.invariant.reads, c.in-Ok-true.field-0-test) at c.in-Ok-true.ensures.same);
      looks = omega (arith, c.run_of-a.ensures.few, c.run_of-b.ensures.few, c.loop-done.invariant.looks, c.run_of-a.ensures.run.some, c.run_of-b.ensures.run.some, c.min-n.ensures, c.min.ensures);
      ways = record { part = c.run_of-a.ensures.way; root = c.run_of-b.ensures.way };
      reads = c.in-Ok-true.ensures.reads ∙ c.loop-done.invariant.reads;
    }

pub returns-in-Ok-false-clause-same : goal.returns-in-Ok-false-clause-same
returns-in-Ok-false-clause-same g c =
    let e : length (take c.min-n.result c.loop-done.bytes) ≡ c.min-n.result = search rules in
    let turn = turn_of (g.S.CountedSpace.table c.args.space.now) c.args.part c.args.off c.args.other c.args.place c.args.len c.loop-done.done c.run_of-a.result c.run_of-b.result c.min-n.result
    c.loop-done-test.true c.run_of-a.ensures.run c.run_of-b.ensures.run (rw c.min.ensures at c.min-n.ensures) in
    comparing_differs (g.S.CountedSpace.table c.args.space.now) (g.T.Sources.reading c.args.sources.now).stated c.args.part c.args.off c.args.other c.args.place c.args.len c.loop-done.done c.run_of-a.result c.run_of-b.result c.min-n.result
    turn (rw (e, c.loop-done.invariant.reads, c.in-Ok-false.field-0-test) at c.in-Ok-false.ensures.same)

pub returns-in-Err-clause-few : goal.returns-in-Err-clause-few
returns-in-Err-clause-few g c = omega (arith, c.run_of-a.ensures.few, c.run_of-b.ensures.few, c.loop-done.invariant.looks, c.loop-done-test.true)

pub returns-in-Ok-false-clause-few : goal.returns-in-Ok-false-clause-few
returns-in-Ok-false-clause-few g c = omega (arith, c.run_of-a.ensures.few, c.run_of-b.ensures.few, c.loop-done.invariant.looks, c.loop-done-test.true)
