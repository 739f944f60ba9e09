-- The commands of an editor's session as they are recorded.
use Rattle.std.specs.Prelude.{ℕ, [], ◌∷◌}
use Rattle.command_parts.specs.declared.edit.Edit.{Edit}
use Rattle.edit_commands.specs.declared.command.Command.{Command}
use Rattle.edit_commands.specs.declared.command.Command.TheVariants.{Many}
use Rattle.edit_commands.specs.Building.{edit_with}

-- a command that hands in no changes
abbrev pub HandsNoChanges : Command → Type 0
HandsNoChanges (Many r changes bytes) = ⊥
HandsNoChanges _ = Unit {0}

-- such a command as it is recorded, its bytes standing in the pool from this place on
abbrev pub edit_at : ℕ → Command → Edit
edit_at place command = edit_with (place ∷ []) 0 command
