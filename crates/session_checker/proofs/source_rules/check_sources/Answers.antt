use Rattle.std.proofs.Common.{◌≡◌, ◌<◌, length, get_or, inl, inr, refl, sym, ◌∙◌, arith}
use Rattle.std.proofs.lemmas.Bool.{cases_lt}
use Rattle.std.proofs.lemmas.Option.{get_or_from_slice_get}
use Rattle.session_checker.specs.SourceRules.{count, other_length}
use Rattle.session_checker.proofs.SameSources.{same_lists}
use Rattle.session_checker.proofs.source_rules.check_sources.Goals as goal

pub returns-then-count-from-clause-err : goal.returns-then-count-from-clause-err
returns-then-count-from-clause-err g c = count (λ e. c.if-count-from.true (c.source_count-count.ensures ∙ e ∙ sym c.count.ensures.value ∙ sym c.from.ensures)) refl

pub returns-then-source_len-len-clause-err : goal.returns-then-source_len-len-clause-err
returns-then-source_len-len-clause-err g c =
    let here : get_or c.args.records.now.image.now.sources c.loop-s.s 0 ≡ c.source_len.result = get_or_from_slice_get c.args.records.now.image.now.sources c.loop-s.s c.source_len.result 0 c.source_len.ensures.value in
    let same : length c.args.records.now.image.now.sources ≡ length (g.S.Sources.reading c.args.sources.now).stated.sizes = sym c.source_count-count.ensures ∙ c.if-count-from.false ∙ c.from.ensures ∙ c.count.ensures.value in
    let there : c.loop-s.s < length c.args.records.now.image.now.sources = omega (arith, c.loop-s-test.true, c.source_count-count.ensures) in
    other_length c.loop-s.s same (record { there = there; earlier = c.loop-s.invariant; other = λ e. c.if-source_len-len.true (sym here ∙ e ∙ sym c.len.ensures.value) }) refl

pub loop-s-preserved : goal.loop-s-preserved
loop-s-preserved g c r lt =
    elim (cases_lt r c.loop-s.s) [
      | inl earlier ↦ c.loop-s.invariant r earlier
      | inr new ↦
          let here : get_or c.args.records.now.image.now.sources c.loop-s.s 0 ≡ c.source_len.result = get_or_from_slice_get c.args.records.now.image.now.sources c.loop-s.s c.source_len.result 0 c.source_len.ensures.value in
          let e : r ≡ c.loop-s.s = omega arith in
          rw e (here ∙ c.if-source_len-len.false ∙ c.len.ensures.value)
    ]

pub returns-clause-ok : goal.returns-clause-ok
returns-clause-ok g c =
    let same : length c.args.records.now.image.now.sources ≡ length (g.S.Sources.reading c.args.sources.now).stated.sizes = sym c.source_count-count.ensures ∙ c.if-count-from.false ∙ c.from.ensures ∙ c.count.ensures.value in
    (λ ok. same_lists c.args.records.now.image.now.sources (g.S.Sources.reading c.args.sources.now).stated.sizes same (λ r lt. c.loop-s.invariant r (omega (arith, c.source_count-count.ensures, c.loop-s-test.false))), λ has. refl)
