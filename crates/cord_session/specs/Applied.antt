-- What the calls answer, of a session.
use Rattle.std.specs.Prelude.{◌≡◌, ℕ, Option, Some, None, Result, Ok, Err}
use Rattle.edit_commands.specs.declared.command.Command.{Command}
use Rattle.edit_commands.specs.declared.fault.EditFault.{EditFault}
use Rattle.edit_commands.specs.Applying.{AddsSourceOrNot, AppliesOrNot}
use Rattle.edit_commands.specs.Session.{SessionValue}
use Rattle.cord_session.specs.declared.commands.CordCommand.{CordCommand}
use Rattle.cord_store.specs.declared.codes.TheConstants.{CLOSED, DONE, NO_COMMAND}
use Rattle.cord_session.specs.Commands.{edit_number, told_command}

-- the number of an answer, and what stands then where the new number is written
abbrev pub outcome_of : Result ℕ EditFault → ℕ
outcome_of (Ok k) = DONE
outcome_of (Err fault) = edit_number fault

abbrev pub number_after : Result ℕ EditFault → ℕ → ℕ
number_after (Ok k) old = k
number_after (Err fault) old = old

-- a command on a session that is open does what `Session::apply` says
pub record AppliesTold (old new : SessionValue) (command : Command) (outcome before after : ℕ) : Type 0 where
  pub result : Result ℕ EditFault
  pub applies : AppliesOrNot old command result new
  pub outcome_is : outcome ≡ outcome_of result
  pub number : after ≡ number_after result before

-- what a call that hands in a command answers
pub record AppliesNamed (old new : Option SessionValue) (command : CordCommand) (outcome before after : ℕ)
    : Type 0 where
  pub closed : old ≡ None → (outcome ≡ CLOSED) × (new ≡ None) × (after ≡ before)
  pub no_command : told_command command ≡ None → (v : SessionValue) → old ≡ Some v
      → (outcome ≡ NO_COMMAND) × (new ≡ old) × (after ≡ before)
  pub applied : (c : Command) → told_command command ≡ Some c → (v : SessionValue) → old ≡ Some v
      → (w : SessionValue) × (new ≡ Some w) × AppliesTold v w c outcome before after

-- a source more, or not, as `Session::add_source` says
pub record AddsTold (old new : SessionValue) (len outcome before after : ℕ) : Type 0 where
  pub result : Result ℕ EditFault
  pub adds : AddsSourceOrNot old len result new
  pub outcome_is : outcome ≡ outcome_of result
  pub number : after ≡ number_after result before

pub record TakesSource (old new : Option SessionValue) (len outcome before after : ℕ) : Type 0 where
  pub closed : old ≡ None → (outcome ≡ CLOSED) × (new ≡ None) × (after ≡ before)
  pub adds : (v : SessionValue) → old ≡ Some v
      → (w : SessionValue) × (new ≡ Some w) × AddsTold v w len outcome before after
