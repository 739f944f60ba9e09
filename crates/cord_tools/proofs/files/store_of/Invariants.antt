use Rattle.std.proofs.Common.{◌≡◌, take}
use Rattle.edit_commands.specs.Session.{store_with}
use Rattle.cord_tools.proofs.files.store_of.Given as goal

abbrev pub invariant-loop-s : goal.invariant-loop-s
invariant-loop-s g l = l.store ≡ store_with (take l.s (g.T.Sources.reading l.sources).stated.sizes)
