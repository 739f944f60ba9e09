use Rattle.std.proofs.Common.{◌≡◌, ◌∙◌, ap, arith}
use Rattle.std.proofs.lemmas.Result.{err_from_is_err_and}
use Rattle.function_leaf.specs.Coded.{coded_byte}
use Rattle.function_leaf.specs.declared.coded.Coded.{Coded}
use Rattle.node_table.specs.Held.{Held, table_of}
use Rattle.cord_search.specs.Order.{order}
use Rattle.cord_tools.proofs.Spans.{of_files, part_kept, whole_cells}
use Rattle.cord_tools.proofs.UnreadCells.{two_read}
use Rattle.cord_tools.proofs.cmp.order_of.Goals as goal

pub returns-clause-order : goal.returns-clause-order
returns-clause-order g c =
    let st = (g.T.Sources.reading c.args.sources.now).stated in
    let t = table_of coded_byte c.part-2.new.store in
    let own : t.sources ≡ st.sizes = c.in_ok-second.ensures.sources ∙ c.in_ok-first.ensures.sources ∙ ap (λ (h : Held Coded). h.sources) c.in_ok-store.ensures.ok in
    let first = part_kept (table_of coded_byte c.part.new.store) t 0 0 18446744073709551615 c.in_ok-first.first c.in_ok-second.ensures.kept c.in_ok-second.ensures.sources c.in_ok-first.ensures.ok in
    of_files t st 0 1 18446744073709551615 c.in_ok-first.first c.in_ok-second.second (λ u v. c.in_ok-cmp.field-0 ≡ order u v) c.in_ok-store.ensures.limits
    (omega (arith, c.requires)) (omega (arith, c.requires)) (omega arith) own first c.in_ok-second.ensures.ok c.in_ok-cmp.ensures.order

pub returns-in_err-cmp-clause-reads : goal.returns-in_err-cmp-clause-reads
returns-in_err-cmp-clause-reads g c =
    let p = err_from_is_err_and c.from_residual-in_err-cmp.result c.from_residual-in_err-cmp.ensures.1 in
    let st = (g.T.Sources.reading c.args.sources.now).stated in
    let t = table_of coded_byte c.part-2.new.store in
    let own : t.sources ≡ st.sizes = c.in_ok-second.ensures.sources ∙ c.in_ok-first.ensures.sources ∙ ap (λ (h : Held Coded). h.sources) c.in_ok-store.ensures.ok in
    let first = part_kept (table_of coded_byte c.part.new.store) t 0 0 18446744073709551615 c.in_ok-first.first c.in_ok-second.ensures.kept c.in_ok-second.ensures.sources c.in_ok-first.ensures.ok in
    let limits = c.in_ok-store.ensures.limits in
    rw (p.1, p.2) (two_read (g.T.Sources.reading c.args.sources.now) (g.T.Sources.reading c.cmp.new.sources) t c.in_ok-first.first c.in_ok-second.second _ c.in_err-cmp.field-0.0 _ _
    (whole_cells t st.sizes 0 18446744073709551615 c.in_ok-first.first own limits (omega (arith, c.requires)) (omega arith) first)
    (whole_cells t st.sizes 1 18446744073709551615 c.in_ok-second.second own limits (omega (arith, c.requires)) (omega arith) c.in_ok-second.ensures.ok)
    c.in_err-cmp.ensures.reads)
