use Rattle.std.proofs.Common.{◌≡◌, ℕ, List, ◌∙◌, ap, drop, arith}
use Rattle.std.proofs.lemmas.Result.{err_from_is_err_and}
use Rattle.function_leaf.specs.Coded.{coded_byte}
use Rattle.function_leaf.specs.declared.coded.Coded.{Coded}
use Rattle.node_table.specs.Held.{Held, table_of}
use Rattle.cord_search.specs.Places.{IsFirst}
use Rattle.cord_tools.proofs.Spans.{of_part, of_whole, whole_cells}
use Rattle.cord_tools.proofs.UnreadCells.{find_read}
use Rattle.cord_tools.proofs.find.first_place.Goals as goal

pub returns-clause-found : goal.returns-clause-found
returns-clause-found g c =
    let st = (g.T.Sources.reading c.args.sources.now).stated in
    let t = table_of coded_byte c.part.new.store in
    let own : t.sources ≡ st.sizes = c.in_ok-file.ensures.sources ∙ ap (λ (h : Held Coded). h.sources) c.in_ok-store.ensures.ok in
    let P : List ℕ → Type 0 = λ u. IsFirst c.args.pattern.now u c.args.start c.in_ok-find.field-0 in
    of_whole st 0 18446744073709551615 P c.in_ok-store.ensures.limits (omega (arith, c.requires)) (omega arith)
    (of_part t st 0 0 18446744073709551615 c.in_ok-file.file c.args.start _ P own c.in_ok-file.ensures.ok c.in_ok-find.ensures.found)

pub returns-in_err-find-clause-reads : goal.returns-in_err-find-clause-reads
returns-in_err-find-clause-reads g c =
    let p = err_from_is_err_and c.from_residual-in_err-find.result c.from_residual-in_err-find.ensures.1 in
    let st = (g.T.Sources.reading c.args.sources.now).stated in
    let t = table_of coded_byte c.part.new.store in
    let own : t.sources ≡ st.sizes = c.in_ok-file.ensures.sources ∙ ap (λ (h : Held Coded). h.sources) c.in_ok-store.ensures.ok in
    let cells = ap (drop c.args.start) (whole_cells t st.sizes 0 18446744073709551615 c.in_ok-file.file own c.in_ok-store.ensures.limits (omega (arith, c.requires)) (omega arith) c.in_ok-file.ensures.ok) in
    rw (p.1, p.2) (find_read (g.T.Sources.reading c.args.sources.now) (g.T.Sources.reading c.find.new.sources) t c.in_ok-file.file c.args.start _ c.in_err-find.field-0.0 _ cells c.in_err-find.ensures.reads)
