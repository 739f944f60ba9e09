-- Which refusals of an accepted image's commands are left.
use Rattle.std.specs.Prelude.{◌≡◌, ℕ, ◌+◌, ◌<◌, Bool, false, IsTrue, nat_lt, length, map, take}
use Rattle.std.specs.List.{list_any}
use Rattle.leaf_buffer.specs.declared.block.TheConstants.{BLOCK_SIZE}
use Rattle.node_table.specs.declared.fault.NodeFault.TheVariants.{TableFull, PoolFull, TooLong}
use Rattle.command_parts.specs.declared.edit.Splice.{Splice}
use Rattle.command_parts.specs.Commands.{FullEdit, Insert, Replace, Many}
use Rattle.edit_commands.specs.declared.command.Command.{Command}
use Rattle.edit_commands.specs.declared.fault.EditFault.{EditFault}
use Rattle.edit_commands.specs.declared.fault.EditFault.TheVariants.{Node, TooManyPieces, TooManyRows, Memory}
use Rattle.edit_commands.specs.Refusals.{TakesAll}
use Rattle.edit_commands.specs.Session.{SessionValue, IsSession}
use Rattle.edit_script.specs.declared.fault.Stop.{Stop}
use Rattle.edit_script.specs.Commands.{words_of}
use Rattle.edit_script.specs.Handed.{words_handed}
use Rattle.edit_script.specs.Scripts.{AreInside, words_held}
use Rattle.image_reader.specs.Value.{ImageValue}
use Rattle.image_reader.specs.Accepted.{command_at}
use Rattle.session_checker.specs.Faithful.{commands}
use Rattle.script_tools.specs.declared.fault.ApplyFault.{ApplyFault}

-- it hands in more bytes at once than a literal holds
abbrev pub hands_in_long : FullEdit → Bool
hands_in_long (Insert r p a n) = nat_lt BLOCK_SIZE n
hands_in_long (Replace r p m a n) = nat_lt BLOCK_SIZE n
hands_in_long (Many r splices) = list_any (λ (s : Splice). nat_lt BLOCK_SIZE s.n) splices
hands_in_long command = false

-- a limit that a command in range may meet: the table or the pool is full, the pieces or the rows are too many, memory
-- is refused, or it hands in too many bytes at once
abbrev pub MeetsLimit : FullEdit → EditFault → Type 0
MeetsLimit command (Node TableFull) = Unit {0}
MeetsLimit command (Node PoolFull) = Unit {0}
MeetsLimit command TooManyPieces = Unit {0}
MeetsLimit command TooManyRows = Unit {0}
MeetsLimit command Memory = Unit {0}
MeetsLimit command (Node TooLong) = IsTrue (hands_in_long command)
MeetsLimit command _ = ⊥

-- The session says what the image's first commands say, over sources of the same lengths, and this command what the
-- next one says.
pub record IsNextOf (w : ImageValue) (v : SessionValue) (command : Command) : Type 0 where
  pub session : IsSession v
  pub sources : v.held.sources ≡ w.sources
  pub inside : AreInside v
  pub earlier : words_held v ≡ take (length v.revisions) (map (words_of w.pool) (commands w))
  pub there : length v.revisions < length w.revisions
  pub takes : TakesAll command
  pub words : words_handed command ≡ words_of w.pool (command_at w (length v.revisions))

-- why the image's log is stopped at this line: the command that it says meets a limit, or memory is refused
abbrev pub StopsAtLimit : ImageValue → ℕ → Stop → Type 0
StopsAtLimit w line (Stop.Refused fault) =
    (k : ℕ) × (line ≡ k + 1) × (k < length w.revisions) × MeetsLimit (command_at w k) fault
StopsAtLimit w line Stop.Memory = Unit {0}
StopsAtLimit w line Stop.NoCommand = ⊥

-- why the image's log gives no image, over sources of the same lengths
abbrev pub IsLimit : ImageValue → ApplyFault → Type 0
IsLimit w (ApplyFault.Stop at) = StopsAtLimit w at.line at.why
IsLimit w (ApplyFault.Source fault) = fault ≡ Memory
IsLimit w ApplyFault.Write = Unit {0}
