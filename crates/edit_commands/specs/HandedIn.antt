-- What a command hands in, asked once.
use Rattle.std.specs.Prelude.{◌≡◌, ℕ, Bool, false, ◌||◌, ◌==◌, nat_lt, List, [], length, Option, Some, None}
use Rattle.command_parts.specs.declared.edit.TheConstants.{MOST_SPLICES}
use Rattle.edit_commands.specs.declared.command.Change.{Change}
use Rattle.edit_commands.specs.declared.command.Command.{Command}
use Rattle.edit_commands.specs.declared.command.Hands.{Hands}
use Rattle.edit_commands.specs.declared.command.Hands.TheVariants.{Nothing, Text, Changes}
use Rattle.edit_commands.specs.Building.{placed_changes, splices_with}
use Rattle.edit_commands.specs.Refusals.{bytes_of, changes_of, is_wrong_count}
use Rattle.edit_commands.specs.Terms.{times_handed}

-- the bytes for one place and the changes that a command hands in, and what follows of them: whether their number is
-- wrong, how often bytes are put in, and which splices are recorded
pub record IsAnswered (command : Command) (text : Option (List ℕ)) (changes : List Change) (wrong : Bool)
    (times : ℕ) : Type 0 where
  pub of_bytes : bytes_of command ≡ text
  pub of_changes : changes_of command ≡ changes
  pub of_count : is_wrong_count command ≡ wrong
  pub of_times : times_handed command ≡ times
  pub of_splices : (places : List ℕ) → splices_with places command ≡ placed_changes changes places

-- nothing, bytes for one place, or changes
abbrev pub HandsIn : Command → Hands → Type 0
HandsIn command Nothing = IsAnswered command None [] false 0
HandsIn command (Text bytes) = IsAnswered command (Some bytes.now) [] false 1
HandsIn command (Changes changes) = IsAnswered command None changes.now
    (length changes.now == 0 || nat_lt MOST_SPLICES (length changes.now)) (length changes.now)
