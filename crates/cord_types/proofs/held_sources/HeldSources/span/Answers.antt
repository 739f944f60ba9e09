use Rattle.std.proofs.Common.{◌≡◌, ◌≤◌, ◌<◌, ◌+◌, true, length, subst, sym}
use Rattle.std.specs.List.{slice_index}
use Rattle.lazy_file.specs.SourceTexts.{Stated}
use Rattle.cord_types.specs.HeldTexts.{held_bytes}
use Rattle.cord_types.proofs.HeldLemmas.{all_held}
use Rattle.cord_types.proofs.held_sources.HeldSources.span.Goals as goal

pub returns-clause-always : goal.returns-clause-always
returns-clause-always c =
    let end = c.args.off + c.args.n in
    let there = subst (λ (y : Stated). c.args.s < length y.sizes) (sym c.self.view_is) c.requires.there in
    let short = subst (λ (y : Stated). end ≤ slice_index y.sizes c.args.s) (sym c.self.view_is) c.requires.inside in
    subst (λ (y : Stated). y.never_fails ≡ true → end ≤ length (held_bytes y c.args.s)) c.self.view_is
    (λ never. all_held c.self.inside.sources.now c.args.s end never there short)
