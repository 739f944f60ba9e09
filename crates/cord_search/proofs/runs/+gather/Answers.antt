use Rattle.std.proofs.Common.{◌≡◌, ◌+◌, ◌-◌, ◌≤◌, ◌++◌, ℕ, length, take, drop, refl, sym, subst, arith}
use Rattle.std.specs.Prelude.{Err}
use Rattle.std.proofs.lemmas.List.{length-append, length-drop, length-take}
use Rattle.std.proofs.lemmas.Result.{err_from_is_err_and}
use Rattle.rope_node.specs.declared.node.Span.{Span}
use Rattle.rope_node.specs.Table.{view_at, IsLeaf}
use Rattle.rope_node.specs.Steps.{SameCells}
use Rattle.lazy_file.proofs.LaterReads.{same_stated}
use Rattle.cord_search.proofs.NodePieces.{answered_of_same, both_answered, leaf_answered, reads_in_span}
use Rattle.cord_search.proofs.runs.+gather.Goals as goal

pub returns-in-Below : goal.returns-in-Below
returns-in-Below g t c =
    let s = g.S.NodeSpace.table c.args.space.now in
    let n = length c.args.buffer.now in
    let span : Span = record { node = c.args.node; start = c.args.start; len = n } in
    let below = c.in-Below.below in
    let cells = c.in-Below.ensures.cells in
    let same = subst (λ k. SameCells s span.node below.node span.start below.start k) (omega (arith, cells.few, c.in-Below.ensures.many)) cells.same in
    record {
      length = c.gather.ensures.length;
      bytes = answered_of_same c.gather.result s (g.T.Sources.reading c.args.sources.now).stated span.node below.node span.start below.start n c.gather.new.buffer same c.gather.ensures.length c.gather.ensures.bytes;
      reads = reads_in_span (g.T.Sources.reading c.args.sources.now) (g.T.Sources.reading c.args.sources.now) (g.T.Sources.reading c.gather.new.sources) s span (record below { len = n }) span.start c.gather.result refl same (omega arith) (omega arith) c.gather.ensures.reads;
    }

pub returns-in_err-gather-in-Across-clause-reads : goal.returns-in_err-gather-in-Across-clause-reads
returns-in_err-gather-in-Across-clause-reads g t c =
    let p = err_from_is_err_and c.from_residual.result c.from_residual.ensures.1 in
    let span : Span = record { node = c.args.node; start = c.args.start; len = length c.args.buffer.now } in
    let first = c.in-Across.first in
    let cells = c.in-Across.ensures.cells in
    let long : length (take first.len c.args.buffer.now) ≡ first.len = omega (arith, length-take first.len c.args.buffer.now, cells.few) in
    let reads = rw long at c.in_err-gather-in-Across.ensures.reads in
    rw (p.1, p.2) (reads_in_span {X = Unit {0}} (g.T.Sources.reading c.args.sources.now) (g.T.Sources.reading c.args.sources.now) (g.T.Sources.reading c.gather-in-Across.new.sources) (g.S.NodeSpace.table c.args.space.now) span first span.start
    (Err c.in_err-gather-in-Across.field-0.0) refl cells.same (omega arith) (omega (arith, cells.few)) reads)

pub returns-in_ok-gather-in-Across : goal.returns-in_ok-gather-in-Across
returns-in_ok-gather-in-Across g t c =
    let s = g.S.NodeSpace.table c.args.space.now in
    let buffer = c.args.buffer.now in
    let span : Span = record { node = c.args.node; start = c.args.start; len = length buffer } in
    let first = c.in-Across.first in
    let others = c.in-Across.others in
    let across = c.in-Across.ensures in
    let cut : ℕ = first.len in
    let rest = drop cut buffer in
    let front = c.gather-in-Across.new.buffer in
    let whole = front ++ rest in
    let last = c.gather-in-Across-2 in
    let long : length front ≡ cut = omega (arith, c.in_ok-gather-in-Across.ensures.length, length-take cut buffer, across.cells.few) in
    let many : length (take (length whole - cut) (drop cut whole)) ≡ others.len = omega (arith, length-take (length whole - cut) (drop cut whole), length-drop cut whole, length-append front rest, long, length-drop cut buffer, across.all) in
    let right = subst (λ n. SameCells s span.node others.node (span.start + cut) others.start n) (omega (arith, length-drop cut buffer, across.all)) across.other_cells.same in
    record {
      length = omega (arith, last.ensures.length, many, across.all);
      bytes = both_answered last.result s (g.T.Sources.reading c.args.sources.now).stated (g.T.Sources.reading c.gather-in-Across.new.sources).stated c.args.node first.node others.node c.args.start first.start others.start cut front rest last.new.buffer
          (same_stated c.in_ok-gather-in-Across.ensures.reads) across.cells.same right long (omega (arith, last.ensures.length, many, length-drop cut buffer, across.all)) c.in_ok-gather-in-Across.ensures.bytes last.ensures.bytes;
      reads = reads_in_span (g.T.Sources.reading c.args.sources.now) (g.T.Sources.reading c.gather-in-Across.new.sources) (g.T.Sources.reading last.new.sources) s span others (span.start + cut) last.result
          c.in_ok-gather-in-Across.ensures.reads across.other_cells.same (omega arith) (omega (arith, across.all)) (rw many at last.ensures.reads);
    }

pub returns-in-Leaf-clause-bytes : goal.returns-in-Leaf-clause-bytes
returns-in-Leaf-clause-bytes g t c =
    let s = g.S.NodeSpace.table c.args.space.now in
    let leaf : IsLeaf (view_at s c.args.node.0) = rw (← c.node-view.ensures.view) c.in-Leaf.ensures in
    leaf_answered c.fill_part.result s (g.T.Sources.reading c.args.sources.now).stated c.args.node c.args.start (length c.args.buffer.now) c.fill_part.new.buffer c.requires.there leaf c.requires.some c.requires.inside
    c.fill_part.ensures.length c.fill_part.ensures.bytes
