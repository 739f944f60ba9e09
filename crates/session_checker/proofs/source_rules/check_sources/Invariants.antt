use Rattle.std.proofs.Common.{◌≡◌, ℕ, ◌<◌, get_or}
use Rattle.session_checker.proofs.source_rules.check_sources.Given as goal

abbrev pub invariant-loop-s : goal.invariant-loop-s
invariant-loop-s g l = (r : ℕ) → r < l.s → get_or l.records.image.now.sources r 0 ≡ get_or (g.S.Sources.reading l.sources).stated.sizes r 0
