use Rattle.std.proofs.Common.{◌≡◌, take}
use Rattle.screen_editor.specs.Watched.{untaken_behind}
use Rattle.screen_editor.proofs.noting.untaken_behind.Given as goal

-- of the keys so far
abbrev pub invariant-loop-key : goal.invariant-loop-key
invariant-loop-key l = l.untaken ≡ untaken_behind 0 (take l.key-index l.keys)
