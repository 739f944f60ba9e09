-- What a script does to a session, line by line.
use Rattle.std.specs.Prelude.{◌≡◌, ◌≢◌, ◌⊎◌, ◌==◌, ℕ, ◌+◌, List, [], ◌∷◌, Option, Some, None, Result, Ok, Err}
use Rattle.std.specs.List.{slice_split}
use Rattle.edit_commands.specs.declared.command.Command.{Command}
use Rattle.edit_commands.specs.declared.fault.EditFault.{EditFault}
use Rattle.edit_commands.specs.Session.{SessionValue}
use Rattle.edit_commands.specs.Refusals.{TakesAll}
use Rattle.edit_commands.specs.Applying.{Applies, AppliesOrNot, Keeps}
use Rattle.edit_script.specs.declared.fault.Stop.{Stop}
use Rattle.edit_script.specs.declared.fault.Stop.TheVariants.{NoCommand, Refused, Memory}
use Rattle.edit_script.specs.declared.fault.Stopped.{Stopped}
use Rattle.edit_script.specs.Words.{Word, HasWords}
use Rattle.edit_script.specs.Commands.{IsLine}
use Rattle.edit_script.specs.Handed.{words_handed}

-- the parts between line ends: a script that ends with one has an empty line behind it, which says nothing
abbrev pub lines_of : List ℕ → List (List ℕ)
lines_of script = slice_split (λ b. b == 10) script

-- a command of these words makes the next revision
pub record TakesWords (old : SessionValue) (ws : List Word) (new : SessionValue) : Type 0 where
  pub command : Command
  pub takes : TakesAll command
  pub words : words_handed command ≡ ws
  pub number : ℕ
  pub applies : Applies old command number new

-- a command of these words is refused
pub record RefusesWords (old : SessionValue) (ws : List Word) (fault : EditFault) (new : SessionValue) : Type 0 where
  pub command : Command
  pub takes : TakesAll command
  pub words : words_handed command ≡ ws
  pub refused : AppliesOrNot old command (Err fault) new

-- a line without words changes nothing, one with a command makes a revision
abbrev pub TakesLine : SessionValue → List ℕ → SessionValue → Type 0
TakesLine old line new =
    (HasWords line [] × (new ≡ old)) ⊎ ((ws : List Word) × IsLine ws × HasWords line ws × TakesWords old ws new)

-- Why a line is not taken: it has words and they are no command, or its command is refused. Where memory is, to its words
-- or to its command, there is no further revision, and the earlier ones are kept.
abbrev pub StopsLine : SessionValue → List ℕ → Stop → SessionValue → Type 0
StopsLine old line NoCommand new = (new ≡ old) × ((ws : List Word) → IsLine ws → HasWords line ws → ⊥)
StopsLine old line (Refused fault) new =
    (fault ≢ EditFault.Memory) × ((ws : List Word) × IsLine ws × HasWords line ws × RefusesWords old ws fault new)
StopsLine old line Memory new = Keeps old new × (new.revisions ≡ old.revisions)

-- the lines behind the first k are taken one after the other, or the first that is not stops them
abbrev pub TakesLines : SessionValue → ℕ → List (List ℕ) → Result (Unit {0}) Stopped → SessionValue → Type 0
TakesLines old k [] result new = (result ≡ Ok tt) × (new ≡ old)
TakesLines old k (line ∷ lines) result new =
    ((mid : SessionValue) × TakesLine old line mid × TakesLines mid (k + 1) lines result new)
    ⊎ ((why : Stop) × StopsLine old line why new × (result ≡ Err (record { line = k + 1; why = why })))

-- the lines of what is left of a script
abbrev pub lines_left : Option (List ℕ) → List (List ℕ)
lines_left None = []
lines_left (Some script) = lines_of script
