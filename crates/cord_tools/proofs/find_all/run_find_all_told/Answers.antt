use Rattle.std.proofs.Common.{◌∙◌, ◌+◌, ◌-◌, ◌≤◌, ℕ, List, length, refl, ap, subst, arith}
use Rattle.std.specs.Prelude.{slice_index}
use Rattle.std.specs.Io.KnownBytes.{Appends}
use Rattle.std.proofs.lemmas.Result.{err_from_is_err_and}
use Rattle.byte_output.specs.Prefix.{AppendsPrefix}
use Rattle.cord_tools.proofs.FoundPlaces.{found_all, found_more, found_none, found_of, found_stopped, found_unwritten, not_too_long, reads_earlier}
use Rattle.cord_tools.proofs.UnreadCells.{not_read, same_after}
use Rattle.cord_tools.proofs.find_all.run_find_all_told.Goals as goal

pub loop-from-init : goal.loop-from-init
loop-from-init g c = record {
  reads = refl;
  on = omega arith;
  found = found_none (g.T.Sources.reading c.args.sources.now).stated c.args.pattern.now c.args.start (g.W.Write.contents c.args.writer.now);
}

pub returns-in_err-next : goal.returns-in_err-next
returns-in_err-next g c =
    let p = err_from_is_err_and c.from_residual.result c.from_residual.ensures.1 in
    let old = g.T.Sources.reading c.args.sources.now in
    let mid = g.T.Sources.reading c.loop-from.sources in
    let e = c.in_err-next.field-0.0 in
    let fault = c.in_err-next.ensures.fault in
    rw (p.1, p.2) (record {
      reads = reads_earlier old mid (g.T.Sources.reading c.found_told.new.sources) c.args.start c.loop-from.from e c.loop-from.invariant.reads c.loop-from.invariant.on c.in_err-next.ensures.reads;
      answer = found_stopped old.stated c.args.pattern.now c.args.start c.loop-from.from c.loop-from.status (g.W.Write.contents c.args.writer.now) (g.W.Write.contents c.loop-from.writer) e c.loop-from.invariant.found fault;
      too_long = (λ is. absurd (not_too_long e fault is), λ long. absurd (omega (arith, c.if-pattern-gt-PATTERN_LIMIT.false, long)));
    })

pub returns-in_err-write_bytes : goal.returns-in_err-write_bytes
returns-in_err-write_bytes g c =
    let p = err_from_is_err_and c.from_residual-in_err-write_bytes.result c.from_residual-in_err-write_bytes.ensures.1 in
    let old = g.T.Sources.reading c.args.sources.now in
    let mid = g.T.Sources.reading c.loop-from.sources in
    let new = g.T.Sources.reading c.found_told.new.sources in
    let lines = c.found_told.new.lines.items in
    let found = found_of mid old c.new-finder.result c.args.pattern.now c.loop-from.from c.in_ok-next.next lines c.loop-from.invariant.reads c.new-finder.ensures c.in_ok-next.ensures.found in
    let prefix = subst (λ (xs : List ℕ). AppendsPrefix (g.W.Write.contents c.loop-from.writer) (g.W.Write.contents c.write_bytes.new.writer) xs) c.deref.ensures.value c.in_err-write_bytes.ensures.err in
    rw (p.1, p.2) (record {
      reads = not_read old new _ _ (same_after mid new _ _ c.in_ok-next.ensures.reads.at ∙ c.loop-from.invariant.reads) (λ is. absurd cc);
      answer = found_unwritten old.stated c.args.pattern.now c.args.start c.loop-from.from c.in_ok-next.next c.loop-from.status lines (g.W.Write.contents c.args.writer.now) (g.W.Write.contents c.loop-from.writer) (g.W.Write.contents c.write_bytes.new.writer)
          c.loop-from.invariant.found found prefix;
      too_long = (λ is. absurd cc, λ long. absurd (omega (arith, c.if-pattern-gt-PATTERN_LIMIT.false, long)));
    })

pub loop-from-preserved : goal.loop-from-preserved
loop-from-preserved g c =
    let old = g.T.Sources.reading c.args.sources.now in
    let mid = g.T.Sources.reading c.loop-from.sources in
    let new = g.T.Sources.reading c.found_told.new.sources in
    let lines = c.found_told.new.lines.items in
    let found = found_of mid old c.new-finder.result c.args.pattern.now c.loop-from.from c.in_ok-next.next lines c.loop-from.invariant.reads c.new-finder.ensures c.in_ok-next.ensures.found in
    let appended = subst (λ (xs : List ℕ). Appends (g.W.Write.contents c.loop-from.writer) (g.W.Write.contents c.write_bytes.new.writer) xs) c.deref.ensures.value c.in_ok-write_bytes.ensures.ok in
    let same = c.deref-in-loop-from.ensures.value in
    record {
      reads = same_after mid new _ _ c.in_ok-next.ensures.reads.at ∙ c.loop-from.invariant.reads;
      on = omega (arith, c.loop-from.invariant.on, c.in_ok-next.ensures.next);
      found = found_more old.stated c.args.pattern.now c.args.start c.loop-from.from c.in_ok-next.next c.loop-from.status c.status_with-status.result lines (g.W.Write.contents c.args.writer.now) (g.W.Write.contents c.loop-from.writer)
          (g.W.Write.contents c.write_bytes.new.writer) c.loop-from.invariant.found found (λ none. c.status_with-status.ensures.none (same ∙ none)) (λ some. c.status_with-status.ensures.some (omega (arith, ap length same, some))) appended;
    }

pub returns : goal.returns
returns g c =
    let old = g.T.Sources.reading c.args.sources.now in
    let ended : (slice_index old.stated.sizes 0 + 1) - length c.args.pattern.now ≤ c.loop-from.from = omega (arith, c.loop-from-test.false, c.saturating_sub-end.ensures, c.len-size.ensures.value) in
    record {
      reads = not_read old (g.T.Sources.reading c.loop-from.sources) _ _ c.loop-from.invariant.reads (λ is. absurd cc);
      answer = found_all old.stated c.args.pattern.now c.args.start c.loop-from.from c.loop-from.status (g.W.Write.contents c.args.writer.now) (g.W.Write.contents c.loop-from.writer) c.loop-from.invariant.found ended;
      too_long = (λ is. absurd cc, λ long. absurd (omega (arith, c.if-pattern-gt-PATTERN_LIMIT.false, long)));
    }
