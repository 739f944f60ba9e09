use Rattle.std.proofs.Common.{◌<◌, ◌∙◌, arith, length, refl, subst, sym}
use Rattle.image_reader.specs.Value.{ImageValue}
use Rattle.script_tools.proofs.BlamedLines.{blaming_begins, blaming_ends, blaming_fails, blaming_more, blaming_part, next_placed, none_told, place_fits, run_earlier, run_told, wanted_origins}
use Rattle.script_tools.proofs.blaming.write_runs.Goals as goal

pub returns-in_err-origins : goal.returns-in_err-origins
returns-in_err-origins g c =
    let v = c.args.image.now in
    let a = g.W.Write.contents c.args.writer.now in
    blaming_fails v c.args.k c.args.start c.args.count c.args.start (wanted_origins v c.args.k c.args.start c.args.count) a a c.from_residual.result c.from_residual.ensures.0
    (blaming_begins v c.args.k c.args.start c.args.count (wanted_origins v c.args.k c.args.start c.args.count) a c.requires refl)

pub loop-origins-init : goal.loop-origins-init
loop-origins-init g c =
    let v = c.args.image.now in
    let a = g.W.Write.contents c.args.writer.now in
    (c.in_ok-origins.ensures.0, blaming_begins v c.args.k c.args.start c.args.count c.in_ok-origins.origins.left a c.requires c.in_ok-origins.ensures.1)

pub returns-in_err-run : goal.returns-in_err-run
returns-in_err-run g c =
    let v = c.args.image.now in
    let a = g.W.Write.contents c.args.writer.now in
    let b = g.W.Write.contents c.loop-origins.writer in
    blaming_fails v c.args.k c.args.start c.args.count c.loop-origins.place c.loop-origins.origins.left a b c.from_residual-in_err-run.result c.from_residual-in_err-run.ensures.0 c.loop-origins.invariant.1

pub splices_before-first-requires : goal.splices_before-first-requires
splices_before-first-requires g c =
    let v = c.args.image.now in
    let a = g.W.Write.contents c.args.writer.now in
    let b = g.W.Write.contents c.loop-origins.writer in
    let next = run_told c.loop-origins.origins.left c.next.new.self.left c.in_ok-run.field-0 c.in-Some.run' c.in-Some.is c.in_ok-run.ensures.next in
    subst (λ (w : ImageValue). c.in-Some.run'.first.revision < length w.revisions) (sym (c.next.ensures.image ∙ c.loop-origins.invariant.0))
    (run_earlier v c.args.k c.args.start c.args.count c.loop-origins.place c.loop-origins.origins.left c.next.new.self.left c.in-Some.run' a b c.requires next c.loop-origins.invariant.1)

pub write_run-requires-clause-there : goal.write_run-requires-clause-there
write_run-requires-clause-there g c =
    let v = c.args.image.now in
    let a = g.W.Write.contents c.args.writer.now in
    let b = g.W.Write.contents c.loop-origins.writer in
    let next = run_told c.loop-origins.origins.left c.next.new.self.left c.in_ok-run.field-0 c.in-Some.run' c.in-Some.is c.in_ok-run.ensures.next in
    run_earlier v c.args.k c.args.start c.args.count c.loop-origins.place c.loop-origins.origins.left c.next.new.self.left c.in-Some.run' a b c.requires next c.loop-origins.invariant.1

pub returns-in_err-write_run : goal.returns-in_err-write_run
returns-in_err-write_run g c =
    let v = c.args.image.now in
    let a = g.W.Write.contents c.args.writer.now in
    let b = g.W.Write.contents c.loop-origins.writer in
    let d = g.W.Write.contents c.write_run.new.writer in
    let next = run_told c.loop-origins.origins.left c.next.new.self.left c.in_ok-run.field-0 c.in-Some.run' c.in-Some.is c.in_ok-run.ensures.next in
    blaming_part v c.args.k c.args.start c.args.count c.loop-origins.place c.loop-origins.origins.left c.next.new.self.left c.in-Some.run' a b d
    c.from_residual-in_err-write_run.result c.from_residual-in_err-write_run.ensures.0 next c.loop-origins.invariant.1 c.in_err-write_run.ensures

pub overflow_add-place : goal.overflow_add-place
overflow_add-place g c =
    let v = c.args.image.now in
    let a = g.W.Write.contents c.args.writer.now in
    let b = g.W.Write.contents c.loop-origins.writer in
    let next = run_told c.loop-origins.origins.left c.next.new.self.left c.in_ok-run.field-0 c.in-Some.run' c.in-Some.is c.in_ok-run.ensures.next in
    let fits = place_fits v c.args.k c.args.start c.args.count c.loop-origins.place c.loop-origins.origins.left c.next.new.self.left c.in-Some.run' a b c.revisions-count.ensures.true_records c.requires next c.loop-origins.invariant.1 in
    omega (arith, fits)

pub loop-origins-smaller : goal.loop-origins-smaller
loop-origins-smaller g c =
    let v = c.args.image.now in
    let next = run_told c.loop-origins.origins.left c.next.new.self.left c.in_ok-run.field-0 c.in-Some.run' c.in-Some.is c.in_ok-run.ensures.next in
    let placed = next_placed v c.args.k c.args.start c.args.count c.loop-origins.place c.loop-origins.origins.left c.next.new.self.left c.in-Some.run' next in
    let some = next.some in
    omega (arith, placed, some)

pub loop-origins-preserved : goal.loop-origins-preserved
loop-origins-preserved g c =
    let v = c.args.image.now in
    let a = g.W.Write.contents c.args.writer.now in
    let b = g.W.Write.contents c.loop-origins.writer in
    let d = g.W.Write.contents c.write_run.new.writer in
    let next = run_told c.loop-origins.origins.left c.next.new.self.left c.in_ok-run.field-0 c.in-Some.run' c.in-Some.is c.in_ok-run.ensures.next in (
      c.next.ensures.image ∙ c.loop-origins.invariant.0,
      blaming_more v c.args.k c.args.start c.args.count c.loop-origins.place c.loop-origins.origins.left c.next.new.self.left c.in-Some.run' a b d next c.loop-origins.invariant.1 c.in_ok-write_run.ensures,
    )

pub returns : goal.returns
returns g c =
    let v = c.args.image.now in
    let a = g.W.Write.contents c.args.writer.now in
    let b = g.W.Write.contents c.loop-origins.writer in
    let none = none_told c.loop-origins.origins.left c.next.new.self.left c.in_ok-run.field-0 c.in_default.not-Some c.in_ok-run.ensures.next in
    blaming_ends v c.args.k c.args.start c.args.count c.loop-origins.place c.loop-origins.origins.left a b none c.loop-origins.invariant.1
