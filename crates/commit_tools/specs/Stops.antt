-- The way of a session to a file's text, and where it stops.
use Rattle.std.specs.Prelude.{◌≡◌, ◌≢◌, ℕ, ◌+◌, ◌-◌, ◌<◌, ◌≤◌, List, [], ◌∷◌, length, map, slice_range, Err}
use Rattle.lazy_file.specs.SourceTexts.{Stated}
use Rattle.rope_node.specs.Denotes.{rope_len}
use Rattle.command_parts.specs.declared.edit.TheConstants.{MOST_SPLICES}
use Rattle.edit_commands.specs.Session.{SessionValue, session_table}
use Rattle.edit_commands.specs.Applying.{Applies, AppliesOrNot}
use Rattle.edit_commands.specs.declared.command.Change as Session
use Rattle.edit_commands.specs.declared.command.Command.{Command}
use Rattle.edit_commands.specs.declared.command.Command.TheVariants.{New, Back, Many}
use Rattle.edit_commands.specs.declared.fault.EditFault.{EditFault}
use Rattle.line_changes.specs.declared.change.Change.{Change}
use Rattle.commit_tools.specs.Texts.{OverLast, last_root, last_text}
use Rattle.commit_tools.specs.Earlier.{FindsNone, IsLatest}
use Rattle.commit_tools.specs.Found.{FrontsEndBefore, IsBeside, file_middle, text_before}
use Rattle.commit_tools.specs.Handed.{bytes_put, shifted}
use Rattle.commit_tools.specs.declared.found.Found.{Found}

-- ---- a commit's commands

-- it is the empty text
abbrev pub IsNew : Command → Type 0
IsNew New = Unit {0}
IsNew other = ⊥

-- it is the text of revision r, with its rope
abbrev pub IsBackTo : ℕ → Command → Type 0
IsBackTo r (Back q) = q ≡ r
IsBackTo r other = ⊥

-- it is these changes of revision r, with these bytes
abbrev pub IsManyAt : ℕ → List Session.Change → List ℕ → Command → Type 0
IsManyAt r cs bs (Many q changes bytes) = (q ≡ r) × (changes.now ≡ cs) × (bytes.now ≡ bs)
IsManyAt r cs bs other = ⊥

-- a change ends before the next one begins
abbrev pub EndsBefore : Change → List Change → Type 0
EndsBefore c [] = Unit {0}
EndsBefore c (d ∷ changes) = c.to < d.from

-- and so does each
abbrev pub EndApart : List Change → Type 0
EndApart [] = Unit {0}
EndApart (c ∷ changes) = EndsBefore c changes × EndApart changes

-- the changes from number `first` up to `left` are as many as there may be: none stands before them, a command takes no
-- more, or the one before touches them
abbrev pub IsLongestBatch : List Change → ℕ → ℕ → Type 0
IsLongestBatch changes first left =
    1 ≤ first → left < first + MOST_SPLICES → ¬ EndApart (slice_range changes (first - 1) left)

-- a command makes a batch of what was found, of the last text: the changes from number `first` up to `left`, at least
-- one and not too many, none of which touches the next, and as many as there may be
pub record HandsBatch (found : Found) (file : List ℕ) (first left : ℕ) (last : SessionValue) (command : Command)
    : Type 0 where
  pub some : first < left
  pub few : left ≤ first + MOST_SPLICES
  pub apart : EndApart (slice_range found.changes.items first left)
  pub longest : IsLongestBatch found.changes.items first left
  pub is : IsManyAt (length last.revisions - 1)
      (map (shifted found.front) (slice_range found.changes.items first left))
      (bytes_put (file_middle found file) (slice_range found.changes.items first left)) command

-- Batches were taken one by one, the last changes first, and lead from `begun` to `last`: the changes before number
-- `first` are left. The list has the number at which each batch ends, that of the last one taken first.
abbrev pub LeadsTo : Found → List ℕ → SessionValue → List ℕ → ℕ → SessionValue → Type 0
LeadsTo found file begun [] first last = (first ≡ length found.changes.items) × (last ≡ begun)
LeadsTo found file begun (left ∷ ends) first last =
    (before : SessionValue) × (command : Command) × (k : ℕ) × LeadsTo found file begun ends left before
    × HandsBatch found file first left before command × Applies before command k last

-- what turns a session's last text into the file's; what both have in common at the front ends before the back that was
-- found
pub record FindsChanges (st : Stated) (begun : SessionValue) (file : List ℕ) (found : Found) : Type 0 where
  pub beside : IsBeside found file
  pub len : rope_len (session_table begun) (last_root begun) ≡ length (text_before found file)
  pub text : OverLast st begun (λ source. last_text source begun ≡ text_before found file)
  pub apart : OverLast st begun (λ source. FrontsEndBefore (rope_len (session_table begun) (last_root begun))
      (last_text source begun) file (length file - found.end))

-- a session with a last text takes the batches of all changes that turn it into the file's, and nothing else
pub record TakesBatches (st : Stated) (begun : SessionValue) (file : List ℕ) (made : SessionValue) : Type 0 where
  pub found : Found
  pub finds : FindsChanges st begun file found
  pub ends : List ℕ
  pub leads : LeadsTo found file begun ends 0 made

-- a session goes back to revision r, which is not the last one and the latest with the file's text, and takes nothing else
pub record TakesBack (st : Stated) (begun : SessionValue) (file : List ℕ) (r : ℕ) (made : SessionValue) : Type 0 where
  pub latest : IsLatest st begun file r
  pub earlier : r < length begun.revisions - 1
  pub command : Command
  pub is : IsBackTo r command
  pub k : ℕ
  pub applies : Applies begun command k made

-- What a session with a last text takes: nothing, where that is the file's; the text of the latest revision that has it;
-- or, where no text that was compared is the file's, batches. The number is that of the revision that is gone on from.
pub data TakesBehind (st : Stated) (begun : SessionValue) (file : List ℕ) (from : ℕ) (made : SessionValue) : Type 0 where
  takes_nothing : from ≡ length begun.revisions - 1 → OverLast st begun (λ source. last_text source begun ≡ file)
      → made ≡ begun → TakesBehind st begun file from made
  takes_back : TakesBack st begun file from made → TakesBehind st begun file from made
  takes_batches : from ≡ length begun.revisions - 1 → FindsNone st begun file → TakesBatches st begun file made
      → TakesBehind st begun file from made

-- a session without revisions begins with an empty text
pub record BeginsWithNew (begun new : SessionValue) : Type 0 where
  pub none : begun.revisions ≡ []
  pub command : Command
  pub is : IsNew command
  pub k : ℕ
  pub applies : Applies begun command k new

-- a session takes the commands of a commit: behind its last text, or behind the empty text with which it begins
pub data TakesCommit (st : Stated) (begun : SessionValue) (file : List ℕ) (from : ℕ) (made : SessionValue) : Type 0 where
  takes_behind_new : (empty : SessionValue) → BeginsWithNew begun empty → TakesBehind st empty file from made
      → TakesCommit st begun file from made
  takes_behind : 1 ≤ length begun.revisions → TakesBehind st begun file from made → TakesCommit st begun file from made

-- ---- where it stops

-- a batch is not taken, behind those before it
pub record StopsAtBatch (found : Found) (file : List ℕ) (begun : SessionValue) (fault : EditFault) : Type 0 where
  pub ends : List ℕ
  pub left : ℕ
  pub last : SessionValue
  pub leads : LeadsTo found file begun ends left last
  pub first : ℕ
  pub command : Command
  pub hands : HandsBatch found file first left last command
  pub no_memory : fault ≢ EditFault.Memory
  pub after : SessionValue
  pub stops : AppliesOrNot last command (Err fault) after

-- a session does not take the text of the latest revision that has the file's
pub record StopsAtBack (st : Stated) (begun : SessionValue) (file : List ℕ) (fault : EditFault) : Type 0 where
  pub r : ℕ
  pub latest : IsLatest st begun file r
  pub earlier : r < length begun.revisions - 1
  pub command : Command
  pub is : IsBackTo r command
  pub no_memory : fault ≢ EditFault.Memory
  pub after : SessionValue
  pub stops : AppliesOrNot begun command (Err fault) after

-- where no text that was compared is the file's, a session does not take a batch of the changes that turn its last text
-- into the file's
pub record StopsAtChanges (st : Stated) (begun : SessionValue) (file : List ℕ) (fault : EditFault) : Type 0 where
  pub none : FindsNone st begun file
  pub found : Found
  pub finds : FindsChanges st begun file found
  pub stops : StopsAtBatch found file begun fault

-- a session with a last text does not take what it is to take
pub data StopsBehind (st : Stated) (begun : SessionValue) (file : List ℕ) (fault : EditFault) : Type 0 where
  stops_at_back : StopsAtBack st begun file fault → StopsBehind st begun file fault
  stops_at_changes : StopsAtChanges st begun file fault → StopsBehind st begun file fault

-- a session without revisions does not take the empty text with which it begins
pub record StopsAtNew (begun : SessionValue) (fault : EditFault) : Type 0 where
  pub command : Command
  pub is : IsNew command
  pub no_memory : fault ≢ EditFault.Memory
  pub after : SessionValue
  pub stops : AppliesOrNot begun command (Err fault) after

-- a session does not take a command of a commit: the first one of all; or one behind that, or behind a last text
pub data StopsCommit (st : Stated) (begun : SessionValue) (file : List ℕ) (fault : EditFault) : Type 0 where
  at_new : begun.revisions ≡ [] → StopsAtNew begun fault → StopsCommit st begun file fault
  behind_new : (empty : SessionValue) → BeginsWithNew begun empty → StopsBehind st empty file fault
      → StopsCommit st begun file fault
  behind : 1 ≤ length begun.revisions → StopsBehind st begun file fault → StopsCommit st begun file fault
