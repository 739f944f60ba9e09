use Rattle.std.proofs.Common.{◌≡◌, ℕ, ◌<◌, [], ◌∷◌, ◌++◌, ◌∙◌, length, take, sym, ap, arith}
use Rattle.std.proofs.lemmas.List.{length-take-le, take_all, take_more}
use Rattle.function_leaf.specs.declared.coded.Coded.{Coded}
use Rattle.node_table.specs.Held.{Held}
use Rattle.edit_commands.specs.Session.{store_with}
use Rattle.cord_tools.proofs.Spans.{add_only_memory}
use Rattle.cord_tools.proofs.files.store_of.Goals as goal

pub only_memory-requires : goal.only_memory-requires
only_memory-requires g c =
    let sizes = (g.T.Sources.reading c.args.sources.now).stated.sizes in
    let before : length c.loop-s.store.sources ≡ c.loop-s.s = ap (λ (h : Held Coded). length h.sources) c.loop-s.invariant ∙ length-take-le c.loop-s.s sizes (omega (arith, c.loop-s-test.true, c.count-s-end.ensures.value)) in
    add_only_memory c.in-Err.fault (length c.loop-s.store.sources) c.len.result
    (omega (arith, before, c.loop-s-test.true, c.count-s-end.ensures.value, c.count-s-end.ensures.sizes.count)) c.len.ensures.limit
    c.in-Err.ensures.faults c.in-Err.ensures.too_many.0 c.in-Err.ensures.too_long.0

pub loop-s-preserved : goal.loop-s-preserved
loop-s-preserved g c =
    let sizes = (g.T.Sources.reading c.args.sources.now).stated.sizes in
    let there : c.loop-s.s < length sizes = omega (arith, c.loop-s-test.true, c.count-s-end.ensures.value) in
    c.in-Ok.ensures.ok
    ∙ ap (λ (h : Held Coded). record h { sources = h.sources ++ c.len.result ∷ [] }) c.loop-s.invariant
    ∙ ap store_with (ap (λ (n : ℕ). take c.loop-s.s sizes ++ n ∷ []) c.len.ensures.value ∙ sym (take_more sizes c.loop-s.s 0 there))

pub returns-clause-ok : goal.returns-clause-ok
returns-clause-ok g c =
    let sizes = (g.T.Sources.reading c.args.sources.now).stated.sizes in
    c.loop-s.invariant ∙ ap store_with (take_all c.loop-s.s sizes (omega (arith, c.loop-s-test.false, c.loop-s.auto.s-end, c.count-s-end.ensures.value)))
