use Rattle.std.proofs.Common.{length, sym, ◌∙◌}
use Rattle.std.proofs.lemmas.Result.{err_from_is_err_and}
use Rattle.edit_script.specs.Commands.{splice_words, splice_kinds}
use Rattle.edit_script.specs.Handed.{placed_splices}
use Rattle.edit_script.specs.Reading.{groups_at}
use Rattle.edit_script.proofs.ChangeWords.{change_shrinks, ends_at, fails_at, next_words, sum_more}
use Rattle.edit_script.proofs.changes.changes.Goals as goal

pub returns-in_err-change-clause-read : goal.returns-in_err-change-clause-read
returns-in_err-change-clause-read c =
    let p = err_from_is_err_and c.from_residual.result c.from_residual.ensures.1 in
    rw (p.1, p.2) (fails_at c.in_err-change.field-0.0 (splice_words c.loop-rest.room.bytes.items (placed_splices c.loop-rest.room.changes.items)) c.loop-rest.rest.now (groups_at (length c.args.line.now) splice_kinds c.args.line.now) (sym c.is_end.ensures ∙ c.loop-rest-test.true) c.in_err-change.ensures.read c.loop-rest.invariant.words)

pub loop-rest-smaller : goal.loop-rest-smaller
loop-rest-smaller c = change_shrinks c.loop-rest.rest.now _ c.change.new.line.now c.in_ok-change.ensures.read

pub loop-rest-preserved : goal.loop-rest-preserved
loop-rest-preserved c = record {
  takes = sum_more c.loop-rest.room.changes.items c.in_ok-change.change c.push.new.self.items c.loop-rest.room.bytes.items c.change.new.bytes.items c.in_ok-push.ensures.items c.in_ok-change.ensures.len c.loop-rest.invariant.takes;
  words = next_words c.loop-rest.room.bytes.items c.change.new.bytes.items c.loop-rest.room.changes.items c.push.new.self.items c.in_ok-change.change c.loop-rest.rest.now c.change.new.line.now (groups_at (length c.args.line.now) splice_kinds c.args.line.now)
      (sym c.is_end.ensures ∙ c.loop-rest-test.true) c.in_ok-push.ensures.items c.in_ok-change.ensures.len c.in_ok-change.ensures.kept c.loop-rest.invariant.takes c.in_ok-change.ensures.read c.loop-rest.invariant.words;
}

pub returns-clause-read : goal.returns-clause-read
returns-clause-read c =
    ends_at (splice_words c.loop-rest.room.bytes.items (placed_splices c.loop-rest.room.changes.items)) c.loop-rest.rest.now (groups_at (length c.args.line.now) splice_kinds c.args.line.now) (sym c.is_end.ensures ∙ c.loop-rest-test.false) c.loop-rest.invariant.words
