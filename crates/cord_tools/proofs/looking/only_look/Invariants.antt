use Rattle.std.proofs.Common.{◌≡◌, take, true}
use Rattle.std.specs.List.{list_all}
use Rattle.screen_editor.specs.Keys.{key_of}
use Rattle.cord_tools.specs.Looking.{only_looks}
use Rattle.cord_tools.proofs.looking.only_look.Given as goal

abbrev pub invariant-loop-key : goal.invariant-loop-key
invariant-loop-key l = list_all (λ b. only_looks (key_of b)) (take l.key-index l.keys) ≡ true
