-- What handing changes in makes of a session.
use Rattle.std.specs.Prelude.{◌≡◌, ◌≢◌, ℕ, ◌-◌, ◌<◌, ◌≤◌, Bool, true, false, List, length, None, Result, Ok, Err}
use Rattle.lazy_file.specs.SourceTexts.{Stated}
use Rattle.edit_commands.specs.Session.{SessionValue}
use Rattle.edit_commands.specs.Applying.{Applies, AppliesOrNot}
use Rattle.edit_commands.specs.declared.command.Command.{Command}
use Rattle.edit_commands.specs.declared.fault.EditFault.{EditFault}
use Rattle.saved_session.specs.GoneFurther.{GoesFurther}
use Rattle.commit_tools.specs.Texts.{OverLast, OverRevision, last_root, last_text}
use Rattle.commit_tools.specs.Found.{text_from}
use Rattle.commit_tools.specs.Stops.{BeginsWithNew, HandsBatch, IsBackTo, LeadsTo, StopsAtBatch, StopsAtNew, StopsBehind, TakesBehind}
use Rattle.commit_tools.specs.declared.fault.CommitFault.{CommitFault}
use Rattle.commit_tools.specs.declared.fault.CommitFault.TheVariants.{Edit, Memory, Read}
use Rattle.commit_tools.specs.declared.found.Found.{Found}

-- a command makes its revision, or the session does not take it, or memory is refused
abbrev pub TakesCommand : SessionValue → Command → Result (Unit {0}) CommitFault → SessionValue → Type 0
TakesCommand old command (Ok u) new = (k : ℕ) × Applies old command k new
TakesCommand old command (Err (Edit fault)) new =
    (fault ≢ EditFault.Memory) × AppliesOrNot old command (Err fault) new
TakesCommand old command (Err Memory) new = Unit {0}
TakesCommand old command (Err other) new = ⊥

-- a session goes on from the text with the changes from number `left` on made to that with those from `first` on made
pub record GoesOnTo (found : Found) (file : List ℕ) (first left : ℕ) (old new : SessionValue) : Type 0 where
  pub further : GoesFurther old new
  pub some : 1 ≤ length new.revisions
  pub text : (source : ℕ → ℕ → ℕ) → last_text source old ≡ text_from found file left
      → last_text source new ≡ text_from found file first

-- a session takes a batch, which makes the changes from number `first` up to `left`
pub record TakesBatch (found : Found) (file : List ℕ) (first left : ℕ) (old new : SessionValue) : Type 0 where
  pub command : Command
  pub hands : HandsBatch found file first left old command
  pub k : ℕ
  pub applies : Applies old command k new
  pub goes : GoesOnTo found file first left old new

-- a session does not take it
pub record RefusesBatch (found : Found) (file : List ℕ) (first left : ℕ) (old : SessionValue) (fault : EditFault)
    (new : SessionValue) : Type 0 where
  pub command : Command
  pub hands : HandsBatch found file first left old command
  pub no_memory : fault ≢ EditFault.Memory
  pub stops : AppliesOrNot old command (Err fault) new

-- a batch is taken or not, or memory is refused
abbrev pub PutsBatch : Found → List ℕ → ℕ → ℕ → SessionValue → Result (Unit {0}) CommitFault → SessionValue → Type 0
PutsBatch found file first left old (Ok u) new = TakesBatch found file first left old new
PutsBatch found file first left old (Err (Edit fault)) new = RefusesBatch found file first left old fault new
PutsBatch found file first left old (Err Memory) new = Unit {0}
PutsBatch found file first left old (Err other) new = ⊥

-- all changes are made, or the session stops at a batch, or memory is refused
abbrev pub PutsAll : Found → List ℕ → SessionValue → Result (Unit {0}) CommitFault → SessionValue → Type 0
PutsAll found file old (Ok u) new =
    GoesOnTo found file 0 (length found.changes.items) old new × ((ends : List ℕ) × LeadsTo found file old ends 0 new)
PutsAll found file old (Err (Edit fault)) new = StopsAtBatch found file old fault
PutsAll found file old (Err Memory) new = Unit {0}
PutsAll found file old (Err other) new = ⊥

-- a session without revisions has an empty text then, which is no rope; or it stops, or memory is refused
abbrev pub BeginsEmpty : SessionValue → Result (Unit {0}) CommitFault → SessionValue → Type 0
BeginsEmpty old (Ok u) new =
    BeginsWithNew old new × GoesFurther old new × (length new.revisions ≡ 1) × (last_root new ≡ None)
BeginsEmpty old (Err (Edit fault)) new = StopsAtNew old fault
BeginsEmpty old (Err Memory) new = Unit {0}
BeginsEmpty old (Err other) new = ⊥

-- a session takes the text of revision r, where that is not the last one
abbrev pub GoesBack : SessionValue → ℕ → Result Bool CommitFault → SessionValue → Type 0
GoesBack old r (Ok true) new =
    (r < length old.revisions - 1) × ((command : Command) × IsBackTo r command × ((k : ℕ) × Applies old command k new))
GoesBack old r (Ok false) new = (r ≡ length old.revisions - 1) × (new ≡ old)
GoesBack old r (Err (Edit fault)) new =
    (r < length old.revisions - 1) × ((command : Command) × IsBackTo r command × (fault ≢ EditFault.Memory)
    × AppliesOrNot old command (Err fault) new)
GoesBack old r (Err Memory) new = Unit {0}
GoesBack old r (Err other) new = ⊥

-- A session goes on to a file's text, where its last text is another, and from which revision's text; and stays as it
-- is, where it is that.
pub record GoesFrom (st : Stated) (old : SessionValue) (file : List ℕ) (from : ℕ) (new : SessionValue) : Type 0 where
  pub further : GoesFurther old new
  pub some : 1 ≤ length new.revisions
  pub text : OverRevision st old from (λ source. last_text source new ≡ file)
  pub takes : TakesBehind st old file from new

abbrev pub GoesOnToText : Stated → SessionValue → List ℕ → Result Bool CommitFault → SessionValue → Type 0
GoesOnToText st old file (Ok true) new =
    ((from : ℕ) × GoesFrom st old file from new) × OverLast st old (λ source. last_text source old ≢ file)
GoesOnToText st old file (Ok false) new =
    (new ≡ old) × OverLast st old (λ source. last_text source old ≡ file)
GoesOnToText st old file (Err (Edit fault)) new = StopsBehind st old file fault
GoesOnToText st old file (Err (Read fault)) new = Unit {0}
GoesOnToText st old file (Err Memory) new = Unit {0}
GoesOnToText st old file (Err other) new = ⊥
