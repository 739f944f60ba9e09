use Rattle.std.proofs.Common.{take}
use Rattle.screen_editor.specs.Opening.{HoldsOnly}
use Rattle.screen_editor.proofs.opening.add_sources.Given as goal

abbrev pub invariant-loop-s : goal.invariant-loop-s
invariant-loop-s g l = record {
  added : HoldsOnly (take l.s (g.R.Sources.reading l.sources).stated.sizes) l.session;
}
