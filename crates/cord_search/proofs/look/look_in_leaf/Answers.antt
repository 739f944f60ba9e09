use Rattle.std.proofs.Common.{◌+◌, ◌≤◌, ℕ, List, Some, length, take, sym, subst, ◌∙◌, arith}
use Rattle.std.specs.Prelude.{Err}
use Rattle.std.proofs.lemmas.List.{length-take}
use Rattle.std.proofs.lemmas.Result.{err_from_is_err_and}
use Rattle.lazy_file.proofs.LaterReads.{same_stated}
use Rattle.rope_node.specs.Denotes.{cell_at, cells}
use Rattle.cord_position.specs.Fetched.{leaf_part}
use Rattle.cord_position.specs.Runs.{AreBytesOf}
use Rattle.cord_position.proofs.Spans.{failed_in}
use Rattle.rope_node.specs.Steps.{SameCells}
use Rattle.cord_search.proofs.Looks.{period_there, piece_in_leaf}
use Rattle.cord_search.proofs.look.look_in_leaf.Goals as goal

pub returns-in_err-fill_part-clause-reads : goal.returns-in_err-fill_part-clause-reads
returns-in_err-fill_part-clause-reads g c =
    let p = err_from_is_err_and c.from_residual.result c.from_residual.ensures.1 in
    let t = g.S.NodeSpace.table c.args.space.now in
    let part = take c.min-n.result c.leaf.buffer in
    let from : ℕ = c.args.start + c.leaf.done in
    rw (p.1, p.2) (failed_in {X = Unit {0}} (g.T.Sources.reading c.args.sources.now) (g.T.Sources.reading c.leaf.sources) (g.T.Sources.reading c.fill_part.new.sources) (cell_at t c.args.leaf.0) c.args.start (c.args.start + c.args.len)
    from (from + length part) (Err c.in_err-fill_part.field-0.0) c.leaf.invariant.reads c.in_err-fill_part.ensures.reads (omega arith) (omega (arith, length-take c.min-n.result c.leaf.buffer, c.min-n.ensures, c.leaf-test.true)))

pub returns-in-Some-clause-sought : goal.returns-in-Some-clause-sought
returns-in-Some-clause-sought g c x begin whole seeking =
    let t = g.S.NodeSpace.table c.args.space.now in
    let st = (g.T.Sources.reading c.args.sources.now).stated in
    let part = take c.min-n.result c.leaf.buffer in
    let run : List ℕ = c.fill_part.new.buffer in
    let first : ℕ = c.place-first.result in
    let done : ℕ = c.leaf.done in
    let same = subst (λ (p : ℕ). SameCells t x c.args.leaf p c.args.start c.args.len) (sym c.leaf.invariant.begun) whole in
    let before = c.leaf.invariant.sought x begin same seeking in
    let some : 1 ≤ length part = omega (arith, length-take c.min-n.result c.leaf.buffer, c.min-n.ensures, c.leaf-test.true, c.leaf.auto.buffer, c.requires.room) in
    let few : done + length part ≤ c.args.len = omega (arith, length-take c.min-n.result c.leaf.buffer, c.min-n.ensures, c.leaf-test.true) in
    let are = subst (λ s. AreBytesOf s (leaf_part t c.args.leaf (c.args.start + done) (length part)) run) (same_stated c.leaf.invariant.reads) c.in_ok-fill_part.ensures.bytes in
    let piece = piece_in_leaf t st x c.args.leaf first c.args.start c.args.len done (length part) c.leaf.seeker.place run c.requires.there c.requires.leaf same c.requires.inside some few c.in_ok-fill_part.ensures.length c.leaf.invariant.place are in
    let fits : c.leaf.seeker.place + length run ≤ length (cells t x.0) = omega (arith, same.here, c.leaf.invariant.place, c.in_ok-fill_part.ensures.length, few) in
    c.in-Some.ensures.sought t st (Some x) begin before piece fits

pub leaf-preserved : goal.leaf-preserved
leaf-preserved g c =
    let t = g.S.NodeSpace.table c.args.space.now in
    let st = (g.T.Sources.reading c.args.sources.now).stated in
    let part = take c.min-n.result c.leaf.buffer in
    let run : List ℕ = c.fill_part.new.buffer in
    let first : ℕ = c.place-first.result in
    let done : ℕ = c.leaf.done in
    let skip = c.skip_repeats-done.ensures in
    record {
      reads = c.in_ok-fill_part.ensures.reads ∙ c.leaf.invariant.reads;
      kept = skip.kept;
      pattern = skip.pattern ∙ c.in_default.ensures.pattern ∙ c.leaf.invariant.pattern;
      inside = omega (arith, skip.done, skip.place);
      place = sym skip.done;
      begun = c.leaf.invariant.begun;
      sought = λ x begin same seeking.
          let before = c.leaf.invariant.sought x begin same seeking in
          let some : 1 ≤ length part = omega (arith, length-take c.min-n.result c.leaf.buffer, c.min-n.ensures, c.leaf-test.true, c.leaf.auto.buffer, c.requires.room) in
          let few : done + length part ≤ c.args.len = omega (arith, length-take c.min-n.result c.leaf.buffer, c.min-n.ensures, c.leaf-test.true) in
          let are = subst (λ s. AreBytesOf s (leaf_part t c.args.leaf (c.args.start + done) (length part)) run) (same_stated c.leaf.invariant.reads) c.in_ok-fill_part.ensures.bytes in
          let piece = piece_in_leaf t st x c.args.leaf first c.args.start c.args.len done (length part) c.leaf.seeker.place run c.requires.there c.requires.leaf same c.requires.inside some few c.in_ok-fill_part.ensures.length c.leaf.invariant.place are in
          let fits : c.leaf.seeker.place + length run ≤ length (cells t x.0) = omega (arith, same.here, c.leaf.invariant.place, c.in_ok-fill_part.ensures.length, few) in
          let taken = c.in_default.ensures.sought t st (Some x) begin before piece fits in
          skip.sought t st (Some x) begin (omega (arith, seeking.from, c.leaf.invariant.begun)) same.here (period_there t x c.args.leaf first c.args.start c.args.len same c.requires.inside c.args.period c.requires.repeats) taken;
    }
