-- What the tools answer.
use Rattle.std.specs.Prelude.{◌≡◌, ◌≢◌, ◌⊎◌, ℕ, List, [], ◌++◌, ◌<◌, ◌≤◌, length, take, Option, None, Result, Ok, Err, IfSome, codes}
use Rattle.std.specs.Fmt.{decimal}
use Rattle.std.specs.Io.KnownBytes.{Appends, Keeps}
use Rattle.byte_output.specs.Prefix.{AppendsPrefix}
use Rattle.lazy_file.specs.SourceTexts.{Agrees, Stated, stated_in_memory}
use Rattle.lazy_file.specs.Readings.{Reading}
use Rattle.lazy_file.specs.Faults.{add_fault_code}
use Rattle.lazy_file.specs.declared.faults.AddFault.{AddFault}
use Rattle.lazy_file.specs.declared.faults.AddFault.TheVariants as Add
use Rattle.rope_node.specs.Denotes.{Cell, rope_cells}
use Rattle.cord_position.specs.Fetched.{AreStated}
use Rattle.image_reader.specs.Accepted.{revision_at}
use Rattle.image_reader.specs.Reading.{judged_len}
use Rattle.image_reader.specs.Value.{ImageValue, image_table}
use Rattle.session_checker.specs.declared.fault.CheckFault.{CheckFault}
use Rattle.session_checker.specs.declared.wanted.WantedRevision.{WantedRevision}
use Rattle.session_checker.specs.Wanted.{wanted_number}
use Rattle.session_checker.specs.Accepted.{BytesAsk, SpellsFaithful}
use Rattle.session_checker.specs.Limits.{IsFirstFaultWithin, AreLooksWithin}
use Rattle.session_checker.specs.Faithful.{revision_text}
use Rattle.session_checker.specs.Codes.{check_fault_code}
use Rattle.cord_tools.specs.Faults.{check_fault}
use Rattle.cord_tools.specs.Unread.{IsPlaceAmong, StopsAt, ToolReads}
use Rattle.cord_tools.specs.declared.fault.ToolFault.{ToolFault}
use Rattle.cord_tools.specs.declared.fault.ToolFault.TheVariants.{Memory, Read, Write, Refused, NoRevision}
use Rattle.cord_tools.specs.declared.status.Status.{Status}
use Rattle.cord_tools.specs.declared.status.Status.TheVariants.{Success, Failure}

abbrev pub accepted_line : ImageValue → List ℕ
accepted_line v =
    codes "accepted " ++ (decimal (length v.revisions) ++ (codes " revisions "
    ++ (decimal (length (image_table v).nodes) ++ (codes " nodes " ++ (decimal (length v.rows) ++ codes " rows\n")))))

abbrev pub refused_line : CheckFault → List ℕ
refused_line fault = codes "refused " ++ check_fault_code fault ++ codes "\n"

-- the bytes are those that the reader had, up to the limit
abbrev pub AreReadUpTo : ℕ → Option (List ℕ) → List ℕ → Type 0
AreReadUpTo limit remaining bytes = IfSome remaining (λ xs. bytes ≡ take limit xs)

-- The bytes of an image are those that the reader had, up to one more than their header states; where the header has a
-- fault by itself, they are the header.
abbrev pub AreRead : Option (List ℕ) → List ℕ → Type 0
AreRead remaining bytes = IfSome remaining (λ xs. bytes ≡ take (judged_len xs) xs)

-- the line that names the refusal of a source
abbrev pub refused_source_line : AddFault → List ℕ
refused_source_line fault = codes "refused " ++ add_fault_code fault ++ codes "\n"

-- the first fault of the bytes under a limit of looks, which is no source's
pub record IsRefusal (at_most : Option ℕ) (st : Stated) (bytes : List ℕ) (fault : CheckFault) : Type 0 where
  pub first : IsFirstFaultWithin at_most st bytes fault
  pub told : check_fault fault ≡ Refused fault

-- the line and the status that answer for these bytes
abbrev pub AnswersWith : Option ℕ → Stated → List ℕ → List ℕ → Status → Type 0
AnswersWith at_most st bytes line Success =
    (v : ImageValue) × SpellsFaithful bytes st v × AreLooksWithin at_most v × (line ≡ accepted_line v)
AnswersWith at_most st bytes line Failure =
    (f : CheckFault) × IsRefusal at_most st bytes f × (line ≡ refused_line f)

-- a place that the image asks for that is read
abbrev pub CheckAsks : Option (List ℕ) → Stated → ℕ → ℕ → Type 0
CheckAsks remaining st s p = (bytes : List ℕ) × AreRead remaining bytes × BytesAsk st bytes s p

-- The line that answers for the bytes read was written; where the writer failed, a prefix of it; where the tool was
-- stopped before, nothing. It tells a failed read only where the reader failed and no source was read, or where a
-- source stopped the check.
abbrev pub AnswersCheck : {T : Type 0} → Option ℕ → (T → Reading) → T → T → Option (List ℕ) → Option (List ℕ)
    → Option (List ℕ) → Result Status ToolFault → Type 0
AnswersCheck at_most reading old new remaining before after (Ok status) =
    (bytes : List ℕ) × (line : List ℕ) × AreRead remaining bytes
    × AnswersWith at_most (reading old).stated bytes line status × Appends before after line
AnswersCheck at_most reading old new remaining before after (Err Write) =
    (bytes : List ℕ) × (line : List ℕ) × (status : Status) × AreRead remaining bytes
    × AnswersWith at_most (reading old).stated bytes line status × AppendsPrefix before after line
AnswersCheck at_most reading old new remaining before after (Err Read) =
    Keeps before after
    × ((new ≡ old) ⊎ StopsAt (reading old) (reading new) (CheckAsks remaining (reading old).stated) Read)
AnswersCheck at_most reading old new remaining before after (Err Memory) = Keeps before after
AnswersCheck at_most reading old new remaining before after (Err other) = ⊥

-- what run_check does: its line and its status, and what it reads of the sources
pub record ChecksImage {T : Type 0} (at_most : Option ℕ) (reading : T → Reading) (old new : T)
    (remaining before after : Option (List ℕ)) (outcome : Result Status ToolFault) : Type 0 where
  pub answer : AnswersCheck at_most reading old new remaining before after outcome
  pub reads : ToolReads (reading old) (reading new) (CheckAsks remaining (reading old).stated) outcome

-- what is known of texts in memory, of which no read fails
abbrev pub reading_in_memory : List (List ℕ) → Reading
reading_in_memory texts = record { stated = stated_in_memory texts; failures = λ s. 0 }

-- the same with no sources and no limit
abbrev pub ChecksInput : Option (List ℕ) → Option (List ℕ) → Option (List ℕ) → Result Status ToolFault → Type 0
ChecksInput remaining before after outcome =
    AnswersCheck None reading_in_memory [] [] remaining before after outcome

-- The line that refuses a source was written, and the status tells a refusal; where the writer failed, a prefix of that
-- line. Want of memory is no refusal, and then nothing was written.
abbrev pub RefusesCheck : AddFault → Option (List ℕ) → Option (List ℕ) → Result Status ToolFault → Type 0
RefusesCheck refusal before after (Ok status) =
    (status ≡ Failure) × (refusal ≢ Add.Memory) × Appends before after (refused_source_line refusal)
RefusesCheck refusal before after (Err Write) =
    (refusal ≢ Add.Memory) × AppendsPrefix before after (refused_source_line refusal)
RefusesCheck refusal before after (Err Memory) = Keeps before after
RefusesCheck refusal before after (Err other) = ⊥

-- A tool ended before it had an accepted image, and wrote nothing: the image is refused; or the reader failed, or
-- memory was wanted, and no source was read; or a source stopped the check.
abbrev pub EndsUnwritten : {T : Type 0} → Option ℕ → (T → Reading) → T → T → Option (List ℕ) → Option (List ℕ)
    → Option (List ℕ) → ToolFault → Type 0
EndsUnwritten at_most reading old new remaining before after (Refused f) =
    Keeps before after × ((bytes : List ℕ) × AreRead remaining bytes × IsRefusal at_most (reading old).stated bytes f)
EndsUnwritten at_most reading old new remaining before after Read =
    Keeps before after
    × ((new ≡ old) ⊎ StopsAt (reading old) (reading new) (CheckAsks remaining (reading old).stated) Read)
EndsUnwritten at_most reading old new remaining before after Memory =
    Keeps before after
    × ((new ≡ old) ⊎ StopsAt (reading old) (reading new) (CheckAsks remaining (reading old).stated) Memory)
EndsUnwritten at_most reading old new remaining before after other = ⊥

-- the cells of revision k
abbrev pub revision_cells : ImageValue → ℕ → List Cell
revision_cells v k = rope_cells (image_table v) (revision_at v k).root

-- the number of a wanted revision of an image
abbrev pub wanted_in : WantedRevision → ImageValue → ℕ
wanted_in wanted v = wanted_number wanted (length v.revisions)

-- and its cells
abbrev pub wanted_cells : WantedRevision → ImageValue → List Cell
wanted_cells wanted v = revision_cells v (wanted_in wanted v)

-- P holds of the text of revision k, whatever bytes the sources have that agree with what they state, where its cells
-- are stated
abbrev pub OfRevision : ImageValue → Stated → ℕ → (List ℕ → Type 0) → Type 0
OfRevision v st k P =
    (source : ℕ → ℕ → ℕ) → Agrees st source → AreStated st (revision_cells v k) → P (revision_text v source k)

-- the bytes read spell a faithful image with these sources, within the limit, and P holds of the text of its wanted
-- revision
pub record ReadsRevision (at_most : Option ℕ) (remaining : Option (List ℕ)) (st : Stated) (wanted : WantedRevision)
    (v : ImageValue) (P : List ℕ → Type 0) : Type 0 where
  pub bytes : List ℕ
  pub read : AreRead remaining bytes
  pub spelled : SpellsFaithful bytes st v
  pub within : AreLooksWithin at_most v
  pub there : wanted_in wanted v < length v.revisions
  pub text : OfRevision v st (wanted_in wanted v) P

-- The text of the revision was written; where it ended before, a prefix of it, or nothing. Nothing is written before
-- the image is accepted. From then on it can end for the writer, or where a read of one of its cells failed, and for
-- nothing else.
abbrev pub AnswersShow : {T : Type 0} → Option ℕ → (T → Reading) → T → T → Option (List ℕ) → WantedRevision
    → Option (List ℕ) → Option (List ℕ) → Result (Unit {0}) ToolFault → Type 0
AnswersShow at_most reading old new remaining wanted before after (Ok u) =
    (v : ImageValue) × ReadsRevision at_most remaining (reading old).stated wanted v (Appends before after)
AnswersShow at_most reading old new remaining wanted before after (Err Write) =
    (v : ImageValue) × ReadsRevision at_most remaining (reading old).stated wanted v (AppendsPrefix before after)
AnswersShow at_most reading old new remaining wanted before after (Err Read) =
    EndsUnwritten at_most reading old new remaining before after Read
    ⊎ ((v : ImageValue) × ReadsRevision at_most remaining (reading old).stated wanted v (AppendsPrefix before after)
    × StopsAt (reading old) (reading new) (IsPlaceAmong (wanted_cells wanted v)) Read)
AnswersShow at_most reading old new remaining wanted before after (Err Memory) =
    EndsUnwritten at_most reading old new remaining before after Memory
    ⊎ ((v : ImageValue) × ReadsRevision at_most remaining (reading old).stated wanted v (AppendsPrefix before after)
    × StopsAt (reading old) (reading new) (IsPlaceAmong (wanted_cells wanted v)) Memory)
AnswersShow at_most reading old new remaining wanted before after (Err NoRevision) =
    Keeps before after × ((v : ImageValue) × (bytes : List ℕ) × AreRead remaining bytes
    × SpellsFaithful bytes (reading old).stated v × AreLooksWithin at_most v
    × (length v.revisions ≤ wanted_in wanted v))
AnswersShow at_most reading old new remaining wanted before after (Err other) =
    EndsUnwritten at_most reading old new remaining before after other

-- a place that showing a revision asks for: the check of the image does, or a cell of the revision is that place
abbrev pub ShowAsks : Option (List ℕ) → Stated → WantedRevision → ℕ → ℕ → Type 0
ShowAsks remaining st wanted s p =
    CheckAsks remaining st s p
    ⊎ ((v : ImageValue) × (bytes : List ℕ) × AreRead remaining bytes × SpellsFaithful bytes st v
    × IsPlaceAmong (wanted_cells wanted v) s p)

-- what run_show_wanted does: the text that it writes, and what it reads of the sources
pub record ShowsRevision {T : Type 0} (at_most : Option ℕ) (reading : T → Reading) (old new : T)
    (remaining : Option (List ℕ)) (wanted : WantedRevision)
    (before after : Option (List ℕ)) (outcome : Result (Unit {0}) ToolFault) : Type 0 where
  pub reads : ToolReads (reading old) (reading new) (ShowAsks remaining (reading old).stated wanted) outcome
  pub answer : AnswersShow at_most reading old new remaining wanted before after outcome
