-- What a commit makes of a session and of an image.
use Rattle.std.specs.Prelude.{◌≡◌, ◌≢◌, ℕ, ◌+◌, ◌≤◌, List, [], length, take, Option, Result, Ok, Err}
use Rattle.std.specs.Io.KnownBytes.{Appends, Keeps}
use Rattle.byte_output.specs.Prefix.{AppendsPrefix}
use Rattle.lazy_file.specs.SourceTexts.{Stated, stated_in_memory}
use Rattle.lazy_file.specs.Readings.{Reading}
use Rattle.edit_commands.specs.Session.{SessionValue, HoldsHistory, new_session, texts_of}
use Rattle.edit_commands.specs.declared.fault.EditFault.{EditFault}
use Rattle.image_reader.specs.Spelling.{spelling}
use Rattle.image_reader.specs.Value.{ImageValue, IsImage}
use Rattle.session_image.specs.Written.{AreAsMade, IsTrusted, image_of}
use Rattle.session_checker.specs.declared.fault.CheckFault.{CheckFault}
use Rattle.session_checker.specs.Faithful.{texts}
use Rattle.session_checker.specs.Limits.{ChecksWithin}
use Rattle.saved_session.specs.TakeFaults.{IsTakeFault}
use Rattle.saved_session.specs.GoneFurther.{GoesFurther, IsTakenUp}
use Rattle.commit_tools.specs.Stops.{TakesCommit, StopsCommit}
use Rattle.commit_tools.specs.Texts.{OverLast, OverRevision, ReadsTexts, last_text}
use Rattle.commit_tools.specs.declared.answer.Commit.{Commit}
use Rattle.commit_tools.specs.declared.answer.Commit.TheVariants.{Same, Added}
use Rattle.commit_tools.specs.declared.fault.CommitFault.{CommitFault}
use Rattle.commit_tools.specs.declared.fault.CommitFault.TheVariants.{Check, TakeUp, Read, Edit, Memory, Write}

-- ---- a session

-- a session goes further by the commands of a commit, from the text of revision `from`, up to a revision whose text is
-- the file's
pub record ReachesText (st : Stated) (begun : SessionValue) (file : List ℕ) (revision : ℕ) (made : SessionValue)
    : Type 0 where
  pub further : GoesFurther begun made
  pub last : length made.revisions ≡ revision + 1
  pub from : ℕ
  pub text : OverRevision st begun from (λ source. last_text source made ≡ file)
  pub by : TakesCommit st begun file from made

-- Where the last text is the file's already, nothing changes. Else the session reaches it, and had another before, or
-- none.
abbrev pub CommitsText : Stated → SessionValue → List ℕ → Result Commit CommitFault → SessionValue → Type 0
CommitsText st begun file (Ok (Same revision)) made = (made ≡ begun) × ReachesText st begun file revision begun
CommitsText st begun file (Ok (Added revision)) made =
    ReachesText st begun file revision made
    × (1 ≤ length begun.revisions → OverLast st begun (λ source. last_text source begun ≢ file))
CommitsText st begun file (Err (Edit fault)) made = StopsCommit st begun file fault
CommitsText st begun file (Err (Read fault)) made = Unit {0}
CommitsText st begun file (Err Memory) made = Unit {0}
CommitsText st begun file (Err other) made = ⊥

-- ---- behind an image

-- a session of an accepted image, or why there is none
abbrev pub BeginsCommit : Result ImageValue CheckFault → Result SessionValue CommitFault → Type 0
BeginsCommit (Ok v) (Ok begun) = IsTakenUp v begun
BeginsCommit (Ok v) (Err (TakeUp fault)) = IsTakeFault v fault
BeginsCommit (Ok v) _ = ⊥
BeginsCommit (Err fault) outcome = outcome ≡ Err (Check fault)

-- an image is checked, and taken up where it is accepted
pub record BeginsBehind (at_most : Option ℕ) (old new : Reading) (bytes : List ℕ)
    (outcome : Result SessionValue CommitFault) : Type 0 where
  pub checked : Result ImageValue CheckFault
  pub check : ChecksWithin at_most old new bytes checked
  pub begins : BeginsCommit checked outcome

-- a session whose last text is the file's, the texts before it as the image has them
pub record IsCommitted (st : Stated) (v : ImageValue) (file : List ℕ) (revision : ℕ) (made : SessionValue)
    : Type 0 where
  pub begun : SessionValue
  pub from_image : IsTakenUp v begun
  pub reaches : ReachesText st begun file revision made
  pub earlier : (source : ℕ → ℕ → ℕ) → take (length v.revisions) (texts_of source made) ≡ texts v source
  pub other : 1 ≤ length v.revisions → OverLast st begun (λ source. last_text source begun ≢ file)
  pub history : HoldsHistory made

-- the session of the image has the file's text already
pub record IsSameText (st : Stated) (v : ImageValue) (file : List ℕ) (revision : ℕ) : Type 0 where
  pub begun : SessionValue
  pub from_image : IsTakenUp v begun
  pub reaches : ReachesText st begun file revision begun

-- the session of the image does not take a command on the way
pub record IsStoppedCommit (st : Stated) (v : ImageValue) (file : List ℕ) (fault : EditFault) : Type 0 where
  pub begun : SessionValue
  pub from_image : IsTakenUp v begun
  pub stops : StopsCommit st begun file fault

-- Of an accepted image that is taken up, and whose last text is not the file's, the image of a session that goes on to
-- it was written, or a prefix of that; and else nothing.
abbrev pub WritesCommit : Stated → Result ImageValue CheckFault → List ℕ → Option (List ℕ) → Option (List ℕ)
    → Result Commit CommitFault → Type 0
WritesCommit st (Ok v) file before after (Ok (Same revision)) = Keeps before after × IsSameText st v file revision
WritesCommit st (Ok v) file before after (Ok (Added revision)) =
    (made : SessionValue) × IsCommitted st v file revision made × IsImage (image_of made) × IsTrusted made
    × AreAsMade (image_of made) × Appends before after (spelling (image_of made))
WritesCommit st (Ok v) file before after (Err Write) =
    (made : SessionValue) × (revision : ℕ) × IsCommitted st v file revision made
    × AppendsPrefix before after (spelling (image_of made))
WritesCommit st (Ok v) file before after (Err (Edit fault)) = Keeps before after × IsStoppedCommit st v file fault
WritesCommit st (Ok v) file before after (Err (TakeUp fault)) = Keeps before after × IsTakeFault v fault
WritesCommit st (Ok v) file before after (Err (Read fault)) = Keeps before after
WritesCommit st (Ok v) file before after (Err Memory) = Keeps before after
WritesCommit st (Ok v) file before after (Err (Check fault)) = ⊥
WritesCommit st (Err fault) file before after outcome = Keeps before after × (outcome ≡ Err (Check fault))

-- what is read of the sources behind the check: cells of the last text, and of texts as long as the file; and `Read` is
-- told of a read that failed
abbrev pub ReadsToCompare : Result ImageValue CheckFault → List ℕ → Reading → Reading → Result Commit CommitFault
    → Type 0
ReadsToCompare (Ok v) file between after (Err (TakeUp fault)) = after ≡ between
ReadsToCompare (Ok v) file between after outcome =
    (begun : SessionValue) × IsTakenUp v begun × ReadsTexts begun file between after outcome
ReadsToCompare (Err fault) file between after outcome = after ≡ between

-- what run_commit does: it checks the image, takes it up, goes on to the file's text, and writes
pub record CommitsOnto (at_most : Option ℕ) (old new : Reading) (bytes file : List ℕ) (before after : Option (List ℕ))
    (outcome : Result Commit CommitFault) : Type 0 where
  pub checked : Result ImageValue CheckFault
  pub between : Reading
  pub check : ChecksWithin at_most old between bytes checked
  pub reads : ReadsToCompare checked file between new outcome
  pub written : WritesCommit old.stated checked file before after outcome

-- ---- anew

-- a new session whose last text is the file's
pub record IsCommittedAnew (file : List ℕ) (revision : ℕ) (made : SessionValue) : Type 0 where
  pub reaches : ReachesText (stated_in_memory []) (new_session []) file revision made
  pub text : (source : ℕ → ℕ → ℕ) → last_text source made ≡ file
  pub history : HoldsHistory made

-- the image of a new session with the file's text was written, or a prefix of it; or nothing
abbrev pub CommitsAnew : List ℕ → Option (List ℕ) → Option (List ℕ) → Result Commit CommitFault → Type 0
CommitsAnew file before after (Ok (Added revision)) =
    (made : SessionValue) × IsCommittedAnew file revision made × IsImage (image_of made) × IsTrusted made
    × AreAsMade (image_of made) × Appends before after (spelling (image_of made))
CommitsAnew file before after (Err Write) =
    (made : SessionValue) × (revision : ℕ) × IsCommittedAnew file revision made
    × AppendsPrefix before after (spelling (image_of made))
CommitsAnew file before after (Err (Edit fault)) =
    Keeps before after × StopsCommit (stated_in_memory []) (new_session []) file fault
CommitsAnew file before after (Err Memory) = Keeps before after
CommitsAnew file before after other = ⊥
