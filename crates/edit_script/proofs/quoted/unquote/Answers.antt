use Rattle.std.proofs.Common.{◌≤◌, ◌∷◌, [], drop, length, ◌∙◌, arith}
use Rattle.std.proofs.lemmas.Result.{err_from_is_err_and}
use Rattle.std.proofs.lemmas.List.{take-append-le, drop-append-le, length_push}
use Rattle.edit_script.specs.Reading.{unquoted}
use Rattle.edit_script.proofs.Bytes.{ends_at, fails_at, goes_at, none_at}
use Rattle.edit_script.proofs.quoted.unquote.Goals as goal

pub returns-then-c-eq34-clause-bytes : goal.returns-then-c-eq34-clause-bytes
returns-then-c-eq34-clause-bytes c =
    ends_at _ c.loop-rest.rest.now (unquoted (length c.args.text.now) c.args.text.now) c.in-len1-up.len_at_least c.if-c-eq34.true c.loop-rest.invariant.bytes

pub returns-in_err-b-clause-bytes : goal.returns-in_err-b-clause-bytes
returns-in_err-b-clause-bytes c =
    let p = err_from_is_err_and c.from_residual.result c.from_residual.ensures.1 in
    rw (p.1, p.2) (fails_at c.in_err-b.field-0.0 (drop (length c.args.room.now.items) c.loop-rest.room.items) c.loop-rest.rest.now (unquoted (length c.args.text.now) c.args.text.now) c.in-len1-up.len_at_least c.if-c-eq34.false c.in_err-b.ensures c.loop-rest.invariant.bytes)

pub loop-rest-preserved : goal.loop-rest-preserved
loop-rest-preserved c =
    let old = c.args.room.now.items in
    let now = c.loop-rest.room.items in
    let grown : length old ≤ length now = c.loop-rest.invariant.grown in
    let pushed = c.in_ok-push.ensures.items in
    record {
      kept = rw pushed (take-append-le (length old) now _ grown ∙ c.loop-rest.invariant.kept);
      grown = rw pushed (omega (arith, length_push now c.in_ok-b.b));
      bytes = rw (pushed, drop-append-le (length old) now (c.in_ok-b.b ∷ []) grown)
          (goes_at (drop (length old) now) c.loop-rest.rest.now c.in_ok-b.b c.in_ok-b.after.now (unquoted (length c.args.text.now) c.args.text.now) c.in-len1-up.len_at_least c.if-c-eq34.false c.in_ok-b.ensures c.loop-rest.invariant.bytes);
    }

pub returns-clause-bytes : goal.returns-clause-bytes
returns-clause-bytes c = none_at _ c.loop-rest.rest.now _ c.in_default.len_below c.loop-rest.invariant.bytes
