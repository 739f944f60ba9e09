use Rattle.std.proofs.Common.{◌≡◌, ℕ, ◌<◌, ◌^◌, ◌∙◌, length, ap, subst, arith}
use Rattle.std.specs.Prelude.{OnOk}
use Rattle.std.specs.List.{sum}
use Rattle.cord_tools.specs.Files.{cells_of_sources}
use Rattle.cord_tools.proofs.Joined.{length_of_all}
use Rattle.cord_tools.proofs.join.join_sources.Goals as goal

all_cells : (c : goal.After-join_range) → length (cells_of_sources c.args.store.now.sources 0 c.source_count-count.result) ≡ sum c.args.store.now.sources
all_cells c = ap (λ (k : ℕ). length (cells_of_sources c.args.store.now.sources 0 k)) c.source_count-count.ensures ∙ length_of_all c.args.store.now.sources

pub returns-clause-too_long : goal.returns-clause-too_long
returns-clause-too_long c is = omega (arith, c.join_range.ensures.too_long is, all_cells c)

pub returns-clause-short : goal.returns-clause-short
returns-clause-short c = subst (λ (k : ℕ). OnOk c.join_range.result (k < 2 ^ 40)) (all_cells c) c.join_range.ensures.short
