use Rattle.std.proofs.Common.{List, ℕ, ◌++◌, ◌∙◌, ap, subst}
use Rattle.std.specs.Prelude.{Option}
use Rattle.std.proofs.lemmas.Result.{err_from_is_err_and}
use Rattle.std.specs.Io.KnownBytes.{Appends}
use Rattle.byte_output.specs.Prefix.{AppendsPrefix}
use Rattle.cord_search.specs.Places.{IsFirst}
use Rattle.cord_tools.specs.Files.{OfFile, place_line}
use Rattle.cord_tools.specs.declared.fault.ToolFault.TheVariants.{PatternTooLong}
use Rattle.cord_tools.proofs.ToolFaults.{find_stopped}
use Rattle.cord_tools.proofs.UnreadCells.{not_read, other_cells, same_after, same_error}
use Rattle.cord_tools.proofs.find.run_find.Goals as goal

pub returns-in_err-write_bytes-in-Some : goal.returns-in_err-write_bytes-in-Some
returns-in_err-write_bytes-in-Some g c =
    let p = err_from_is_err_and c.from_residual-in_err-write_bytes-in-Some.result c.from_residual-in_err-write_bytes-in-Some.ensures.1 in
    let st = (g.T.Sources.reading c.args.sources.now).stated in
    let line = c.deref.ensures.value ∙ c.in_ok-push_line-in-Some.ensures ∙ ap (λ (xs : List ℕ). xs ++ place_line c.in-Some.place) c.new-line.ensures.items in
    rw (p.1, p.2) (record {
      reads = not_read (g.T.Sources.reading c.args.sources.now) (g.T.Sources.reading c.first_place.new.sources) _ _ (same_after (g.T.Sources.reading c.args.sources.now) (g.T.Sources.reading c.first_place.new.sources) _ _ c.in_ok-place.ensures.reads.at) (λ is. absurd cc);
      answer = (
        c.in-Some.place,
        subst (λ (found : Option ℕ). OfFile st 0 (λ t. IsFirst c.args.pattern.now t c.args.start found)) c.in-Some.is c.in_ok-place.ensures.found,
        subst (λ (xs : List ℕ). AppendsPrefix (g.W.Write.contents c.args.writer.now) (g.W.Write.contents c.write_bytes.new.writer) xs) line c.in_err-write_bytes-in-Some.ensures.err,
      );
      too_long = (λ is. absurd cc, λ long. let is = c.in_ok-place.ensures.too_long.1 long in absurd cc);
    })

pub returns-in_err-place : goal.returns-in_err-place
returns-in_err-place g c =
    let p = err_from_is_err_and c.from_residual.result c.from_residual.ensures.1 in
    let e = c.in_err-place.field-0.0 in
    rw (p.1, p.2) (record {
      reads = other_cells (g.T.Sources.reading c.args.sources.now) (g.T.Sources.reading c.first_place.new.sources) _ e c.in_err-place.ensures.reads;
      answer = find_stopped (g.T.Sources.reading c.args.sources.now).stated c.args.start c.args.pattern.now _ e c.in_err-place.ensures.fault;
      too_long = (λ is. c.in_err-place.ensures.too_long.0 (same_error e PatternTooLong is), λ long. same_error e PatternTooLong (c.in_err-place.ensures.too_long.1 long));
    })

pub returns-in_ok-write_bytes-in-Some : goal.returns-in_ok-write_bytes-in-Some
returns-in_ok-write_bytes-in-Some g c =
    let st = (g.T.Sources.reading c.args.sources.now).stated in
    let line = c.deref.ensures.value ∙ c.in_ok-push_line-in-Some.ensures ∙ ap (λ (xs : List ℕ). xs ++ place_line c.in-Some.place) c.new-line.ensures.items in
    record {
      reads = not_read (g.T.Sources.reading c.args.sources.now) (g.T.Sources.reading c.first_place.new.sources) _ _ (same_after (g.T.Sources.reading c.args.sources.now) (g.T.Sources.reading c.first_place.new.sources) _ _ c.in_ok-place.ensures.reads.at) (λ is. absurd cc);
      answer = (
        c.in-Some.place,
        subst (λ (found : Option ℕ). OfFile st 0 (λ t. IsFirst c.args.pattern.now t c.args.start found)) c.in-Some.is c.in_ok-place.ensures.found,
        subst (λ (xs : List ℕ). Appends (g.W.Write.contents c.args.writer.now) (g.W.Write.contents c.write_bytes.new.writer) xs) line c.in_ok-write_bytes-in-Some.ensures.ok,
      );
      too_long = (λ is. absurd cc, λ long. let is = c.in_ok-place.ensures.too_long.1 long in absurd cc);
    }
