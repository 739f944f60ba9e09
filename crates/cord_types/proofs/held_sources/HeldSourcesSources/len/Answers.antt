use Rattle.std.proofs.Common.{◌<◌, length, subst, sym}
use Rattle.std.proofs.lemmas.List.{length-map}
use Rattle.lazy_file.specs.SourceTexts.{Stated}
use Rattle.cord_types.proofs.HeldLemmas.{size_limit}
use Rattle.cord_types.proofs.held_sources.HeldSourcesSources.len.Goals as goal

pub returns-clause-limit : goal.returns-clause-limit
returns-clause-limit c =
    let there = subst (λ (y : Stated). c.args.s < length y.sizes) (sym c.self.view_is) c.requires in
    size_limit c.self.inside.sources.now c.args.s c.self.invariant (rw length-map at there)
