-- What a tool does to the sources that it reads, and what it tells of a read that failed.
use Rattle.std.specs.Prelude.{◌≡◌, ◌⊎◌, ℕ, List, Option, Some, Result, Err, Any, IsErrOf, IsSome}
use Rattle.rope_node.specs.Denotes.{Cell, Place}
use Rattle.lazy_file.specs.Readings.{IsFaultAmong, Reading, Reads}
use Rattle.lazy_file.specs.declared.faults.SourceFault.{SourceFault}
use Rattle.cord_tools.specs.Faults.{read_fault}
use Rattle.cord_tools.specs.declared.fault.ToolFault.{ToolFault}
use Rattle.cord_tools.specs.declared.fault.ToolFault.TheVariants.{Memory, Read}

-- the places of sources among these cells
abbrev pub IsPlaceAmong : List Cell → ℕ → ℕ → Type 0
IsPlaceAmong cells s p = Any (λ (cell : Cell). cell ≡ Place s p) cells

-- a read that asked for one of these places failed, and it is told so
pub record StopsAt (before after : Reading) (Asked : ℕ → ℕ → Type 0) (told : ToolFault) : Type 0 where
  pub fault : SourceFault
  pub read : IsFaultAmong before after Asked fault
  pub told_as : told ≡ read_fault fault

-- What a tool does that asks the sources for no other places: all is as before, or one read failed, and that is told.
pub record ToolReads {X : Type 0} (before after : Reading) (Asked : ℕ → ℕ → Type 0) (outcome : Result X ToolFault)
    : Type 0 where
  pub fault : Option SourceFault
  pub reads : Reads before after Asked fault
  pub told : (f : SourceFault) → fault ≡ Some f → outcome ≡ Err (read_fault f)

-- the same of a tool that may read these cells, and nothing else
pub record ToolReadsCells {X : Type 0} (before after : Reading) (cells : List Cell) (outcome : Result X ToolFault)
    : Type 0 where
  pub at : ToolReads before after (IsPlaceAmong cells) outcome
  pub unread : IsErrOf outcome Read → IsSome at.fault

-- what a tool is told that could not read
abbrev pub IsUnread : ToolFault → Type 0
IsUnread fault = (fault ≡ Read) ⊎ (fault ≡ Memory)
