-- How a run of the program ends.
use Rattle.std.specs.Prelude.{ℕ}
use Rattle.cord_tools.specs.declared.fault.ToolFault.{ToolFault}
use Rattle.cord_tools.specs.declared.fault.ToolFault.TheVariants.{Memory, Read, Write, Refused, Source, NoRevision, PatternTooLong, Rope, TakeUp, Edit, TextTooLong, TooManyKeys, OtherKeys, KeysInUse, ImageThere, OtherImage, KeysGone, OwnFile}
use Rattle.cord_tools.specs.declared.outcome.Outcome.{Outcome}
use Rattle.cord_tools.specs.declared.outcome.Outcome.TheVariants.{Answered, Ended, Misused}
use Rattle.cord_tools.specs.declared.status.Status.TheVariants.{Success, Failure}

-- 1 after a refusal, and 3 where the tool was stopped
abbrev pub fault_status : ToolFault → ℕ
fault_status (Refused fault) = 1
fault_status (Source fault) = 1
fault_status NoRevision = 1
fault_status PatternTooLong = 1
fault_status (Rope fault) = 1
fault_status (TakeUp fault) = 1
fault_status (Edit fault) = 1
fault_status TextTooLong = 1
fault_status TooManyKeys = 1
fault_status OtherKeys = 1
fault_status KeysInUse = 1
fault_status ImageThere = 1
fault_status OtherImage = 1
fault_status KeysGone = 1
fault_status OwnFile = 1
fault_status Memory = 3
fault_status Read = 3
fault_status Write = 3

-- 0 and 1 tell the answer, and 2 that the words ask for nothing that the program does
abbrev pub exit_status : Outcome → ℕ
exit_status (Answered Success) = 0
exit_status (Answered Failure) = 1
exit_status (Ended fault) = fault_status fault
exit_status Misused = 2
