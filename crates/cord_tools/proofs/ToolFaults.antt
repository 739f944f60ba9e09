-- What the faults of calls come to.
use Rattle.std.proofs.Common.{◌≡◌, ◌⊎◌, ℕ, Option, Some, None, List, [], ◌∷◌, Result, Err, ap, inl, inr, refl}
use Rattle.std.specs.Prelude.{IsErrOf}
use Rattle.lazy_file.specs.SourceTexts.{Stated, stated_in_memory}
use Rattle.lazy_file.specs.Readings.{IsFaultAmong, Reading, Reads}
use Rattle.lazy_file.proofs.LaterReads.{reads_weaker}
use Rattle.lazy_file.specs.declared.faults.SourceFault.{SourceFault}
use Rattle.lazy_file.specs.declared.faults.SourceFault.TheVariants as Source
use Rattle.session_checker.specs.declared.fault.CheckFault.{CheckFault}
use Rattle.session_checker.specs.declared.fault.CheckFault.TheVariants as Check
use Rattle.session_checker.specs.declared.wanted.WantedRevision.{WantedRevision}
use Rattle.session_checker.specs.Accepted.{BytesAsk, SpellsFaithful}
use Rattle.session_checker.specs.Limits.{IsFirstFaultWithin}
use Rattle.session_checker.specs.RevisionRules.{source_fault}
use Rattle.node_table.specs.declared.fault.NodeFault.TheVariants as Node
use Rattle.rebalance.specs.declared.fault.BalanceFault.{BalanceFault}
use Rattle.rebalance.specs.declared.fault.BalanceFault.TheVariants as Balance
use Rattle.byte_output.specs.Prefix.{AppendsPrefix}
use Rattle.cord_search.specs.Faults.{put_source_fault}
use Rattle.cord_search.specs.declared.fault.PutFault.{PutFault}
use Rattle.cord_search.specs.declared.fault.PutFault.TheVariants as Put
use Rattle.image_reader.specs.Value.{ImageValue}
use Rattle.cord_tools.specs.Answers.{AnswersCheck, AnswersShow, AreRead, CheckAsks, EndsUnwritten, ReadsRevision, ShowAsks, wanted_cells}
use Rattle.cord_tools.specs.Faults.{IsJoinFault, IsStop, check_fault, put_fault, read_fault, tool_rope_fault}
use Rattle.cord_tools.specs.Files.{AnswersCompare, AnswersFind}
use Rattle.cord_tools.specs.Unread.{IsPlaceAmong, StopsAt, ToolReads, ToolReadsCells}
use Rattle.cord_tools.specs.declared.fault.ToolFault.{ToolFault}
use Rattle.cord_tools.specs.declared.fault.ToolFault.TheVariants as Tool
use Rattle.cord_tools.specs.declared.fault.ToolFault.TheVariants.{Memory, PatternTooLong, Read, Refused, Write, Rope}
use Rattle.cord_tools.proofs.Bytes.{Keeps-same}

pub put_stops : (e : PutFault) → IsStop (put_fault e)
put_stops Put.Write = inl refl
put_stops (Put.Source Source.Device) = inr (inl refl)
put_stops (Put.Source Source.Short) = inr (inl refl)
put_stops (Put.Source Source.BadSource) = inr (inl refl)
put_stops (Put.Source Source.Memory) = inr (inr refl)

pub put_joins : (e : PutFault) → IsJoinFault (put_fault e)
put_joins Put.Write = tt
put_joins (Put.Source Source.Device) = tt
put_joins (Put.Source Source.Short) = tt
put_joins (Put.Source Source.BadSource) = tt
put_joins (Put.Source Source.Memory) = tt

-- what stops the writing of a text is no refusal of a rope
pub put_refuses_none : (e : PutFault) (f : BalanceFault) → put_fault e ≡ Rope f → ⊥
put_refuses_none Put.Write f is = absurd cc
put_refuses_none (Put.Source Source.Device) f is = absurd cc
put_refuses_none (Put.Source Source.Short) f is = absurd cc
put_refuses_none (Put.Source Source.BadSource) f is = absurd cc
put_refuses_none (Put.Source Source.Memory) f is = absurd cc

-- a refusal of a rope is told as it is
pub refused_as : (e f : BalanceFault) → tool_rope_fault e ≡ Rope f → e ≡ f
refused_as Balance.TooManyPieces f is = cc
refused_as (Balance.Node Node.TooLong) f is = cc
refused_as (Balance.Node Node.TooDeep) f is = cc
refused_as (Balance.Node Node.TableFull) f is = cc
refused_as (Balance.Node Node.PoolFull) f is = cc
refused_as (Balance.Node Node.BadSpan) f is = cc
refused_as (Balance.Node Node.TooManySources) f is = cc
refused_as (Balance.Node Node.Memory) f is = absurd cc

-- and it is no failed read or write
pub rope_writes_none : (e : BalanceFault) → tool_rope_fault e ≡ Write → ⊥
rope_writes_none Balance.TooManyPieces is = absurd cc
rope_writes_none (Balance.Node Node.TooLong) is = absurd cc
rope_writes_none (Balance.Node Node.TooDeep) is = absurd cc
rope_writes_none (Balance.Node Node.TableFull) is = absurd cc
rope_writes_none (Balance.Node Node.PoolFull) is = absurd cc
rope_writes_none (Balance.Node Node.BadSpan) is = absurd cc
rope_writes_none (Balance.Node Node.TooManySources) is = absurd cc
rope_writes_none (Balance.Node Node.Memory) is = absurd cc

pub rope_reads_none : (e : BalanceFault) → tool_rope_fault e ≡ Read → ⊥
rope_reads_none Balance.TooManyPieces is = absurd cc
rope_reads_none (Balance.Node Node.TooLong) is = absurd cc
rope_reads_none (Balance.Node Node.TooDeep) is = absurd cc
rope_reads_none (Balance.Node Node.TableFull) is = absurd cc
rope_reads_none (Balance.Node Node.PoolFull) is = absurd cc
rope_reads_none (Balance.Node Node.BadSpan) is = absurd cc
rope_reads_none (Balance.Node Node.TooManySources) is = absurd cc
rope_reads_none (Balance.Node Node.Memory) is = absurd cc

-- what is told where a source's fault stops the check
source_stops : {T : Type 0} (at_most : Option ℕ) (reading : T → Reading) (old new : T) (remaining contents : Option (List ℕ)) (f : SourceFault)
    → IsFaultAmong (reading old) (reading new) (CheckAsks remaining (reading old).stated) f → AnswersCheck at_most reading old new remaining contents contents (Err (read_fault f))
source_stops at_most reading old new remaining contents Source.Device read = (Keeps-same contents, inr (record { fault = Source.Device; read = read; told_as = refl }))
source_stops at_most reading old new remaining contents Source.Short read = (Keeps-same contents, inr (record { fault = Source.Short; read = read; told_as = refl }))
source_stops at_most reading old new remaining contents Source.BadSource read = (Keeps-same contents, inr (record { fault = Source.BadSource; read = read; told_as = refl }))
source_stops at_most reading old new remaining contents Source.Memory read = Keeps-same contents

-- what the bytes ask for, of the image that is read
asks_of : (old new : Reading) (remaining : Option (List ℕ)) (bytes : List ℕ) (f : SourceFault) → AreRead remaining bytes → IsFaultAmong old new (BytesAsk old.stated bytes) f → IsFaultAmong old new (CheckAsks remaining old.stated) f
asks_of old new remaining bytes f read h = record { s = h.s; p = h.p; asked = (bytes, read, h.asked); at = h.at }

-- what is told where the check has no answer
pub check_stopped : {T : Type 0} (at_most : Option ℕ) (reading : T → Reading) (old new : T) (remaining contents : Option (List ℕ)) (bytes : List ℕ) (e : ToolFault)
    → AreRead remaining bytes → (e ≡ Memory) ⊎ StopsAt (reading old) (reading new) (BytesAsk (reading old).stated bytes) e → AnswersCheck at_most reading old new remaining contents contents (Err e)
check_stopped at_most reading old new remaining contents bytes e read (inl wanted) = rw wanted (Keeps-same contents)
check_stopped at_most reading old new remaining contents bytes e read (inr stop) = rw stop.told_as (source_stops at_most reading old new remaining contents stop.fault (asks_of (reading old) (reading new) remaining bytes stop.fault read stop.read))

source_ends : {T : Type 0} (at_most : Option ℕ) (reading : T → Reading) (old new : T) (remaining contents : Option (List ℕ)) (f : SourceFault)
    → IsFaultAmong (reading old) (reading new) (CheckAsks remaining (reading old).stated) f → EndsUnwritten at_most reading old new remaining contents contents (read_fault f)
source_ends at_most reading old new remaining contents Source.Device read = (Keeps-same contents, inr (record { fault = Source.Device; read = read; told_as = refl }))
source_ends at_most reading old new remaining contents Source.Short read = (Keeps-same contents, inr (record { fault = Source.Short; read = read; told_as = refl }))
source_ends at_most reading old new remaining contents Source.BadSource read = (Keeps-same contents, inr (record { fault = Source.BadSource; read = read; told_as = refl }))
source_ends at_most reading old new remaining contents Source.Memory read = (Keeps-same contents, inr (record { fault = Source.Memory; read = read; told_as = refl }))

-- what is told where the image is refused
pub check_refused : {T : Type 0} (at_most : Option ℕ) (reading : T → Reading) (old new : T) (remaining contents : Option (List ℕ)) (bytes : List ℕ) (f : CheckFault)
    → AreRead remaining bytes → (source_fault f ≡ None → IsFirstFaultWithin at_most (reading old).stated bytes f) → Reads (reading old) (reading new) (BytesAsk (reading old).stated bytes) (source_fault f)
    → EndsUnwritten at_most reading old new remaining contents contents (check_fault f)
check_refused at_most reading old new remaining contents bytes (Check.Source f) read first reads = source_ends at_most reading old new remaining contents f (asks_of (reading old) (reading new) remaining bytes f read reads)
check_refused at_most reading old new remaining contents bytes other read first reads = (Keeps-same contents, (bytes, read, record { first = first refl; told = refl }))

-- so it ends where a text is to be shown
pub shows_none : {T : Type 0} (at_most : Option ℕ) (reading : T → Reading) (old new : T) (remaining before after : Option (List ℕ)) (w : WantedRevision) (e : ToolFault)
    → EndsUnwritten at_most reading old new remaining before after e → AnswersShow at_most reading old new remaining w before after (Err e)
shows_none at_most reading old new remaining before after w Read ends = inl ends
shows_none at_most reading old new remaining before after w Memory ends = inl ends
shows_none at_most reading old new remaining before after w Tool.NoRevision ends = absurd ends
shows_none at_most reading old new remaining before after w Write ends = absurd ends
shows_none at_most reading old new remaining before after w other ends = ends

-- a fault that is told as a refusal is no source's
pub no_source : (f : CheckFault) → check_fault f ≡ Refused f → source_fault f ≡ None
no_source (Check.Source Source.Device) is = absurd cc
no_source (Check.Source Source.Short) is = absurd cc
no_source (Check.Source Source.BadSource) is = absurd cc
no_source (Check.Source Source.Memory) is = absurd cc
no_source (Check.Read f) is = refl
no_source Check.SourceCount is = refl
no_source (Check.SourceLength s) is = refl
no_source (Check.Reference id) is = refl
no_source (Check.Length id) is = refl
no_source (Check.Depth id) is = refl
no_source (Check.Span id) is = refl
no_source (Check.Command x) is = refl
no_source (Check.Root x) is = refl
no_source (Check.Mark x) is = refl
no_source (Check.Rows x j) is = refl
no_source (Check.Looks n) is = refl

check_told : {X : Type 0} (f : CheckFault) (g : SourceFault) → source_fault f ≡ Some g → IsErrOf {T = X} (Err (check_fault f)) (read_fault g)
check_told (Check.Source f) g is = let same : f ≡ g = cc in ap (λ (x : SourceFault). Err (read_fault x)) same
check_told (Check.Read f) g is = absurd cc
check_told Check.SourceCount g is = absurd cc
check_told (Check.SourceLength s) g is = absurd cc
check_told (Check.Reference id) g is = absurd cc
check_told (Check.Length id) g is = absurd cc
check_told (Check.Depth id) g is = absurd cc
check_told (Check.Span id) g is = absurd cc
check_told (Check.Command x) g is = absurd cc
check_told (Check.Root x) g is = absurd cc
check_told (Check.Mark x) g is = absurd cc
check_told (Check.Rows x j) g is = absurd cc
check_told (Check.Looks n) g is = absurd cc

-- what a check that fails reads of its image
pub image_reads : {X : Type 0} (old new : Reading) (remaining : Option (List ℕ)) (bytes : List ℕ) (f : CheckFault) → AreRead remaining bytes → Reads old new (BytesAsk old.stated bytes) (source_fault f) → ToolReads {X = X} old new (CheckAsks remaining old.stated) (Err (check_fault f))
image_reads old new remaining bytes f read h = record {
  fault = source_fault f;
  reads = reads_weaker old new (BytesAsk old.stated bytes) (CheckAsks remaining old.stated) (source_fault f) (λ s p asks. (bytes, read, asks)) h;
  told = check_told f;
}

-- and for a revision to be shown
pub check_reads : {X : Type 0} (old new : Reading) (remaining : Option (List ℕ)) (w : WantedRevision) (bytes : List ℕ) (f : CheckFault) → AreRead remaining bytes → Reads old new (BytesAsk old.stated bytes) (source_fault f) → ToolReads {X = X} old new (ShowAsks remaining old.stated w) (Err (check_fault f))
check_reads old new remaining w bytes f read h = record {
  fault = source_fault f;
  reads = reads_weaker old new (BytesAsk old.stated bytes) (ShowAsks remaining old.stated w) (source_fault f) (λ s p asks. inl (bytes, read, asks)) h;
  told = check_told f;
}

-- and what its text asks for
pub text_reads : {X : Type 0} (old new : Reading) (remaining : Option (List ℕ)) (w : WantedRevision) (bytes : List ℕ) (v : ImageValue) (outcome : Result X ToolFault) → AreRead remaining bytes → SpellsFaithful bytes old.stated v → ToolReadsCells old new (wanted_cells w v) outcome → ToolReads old new (ShowAsks remaining old.stated w) outcome
text_reads old new remaining w bytes v outcome read spelled h = record {
  fault = h.at.fault;
  reads = reads_weaker old new (IsPlaceAmong (wanted_cells w v)) (ShowAsks remaining old.stated w) h.at.fault (λ s p asked. inr (v, bytes, read, spelled, asked)) h.at.reads;
  told = h.at.told;
}

-- no texts are the only ones that state as much
pub no_texts : (texts : List (List ℕ)) → stated_in_memory texts ≡ stated_in_memory [] → texts ≡ []
no_texts [] is = refl
no_texts (text ∷ texts) is = let sizes = ap (λ (st : Stated). st.sizes) is in absurd cc

-- what is told where the text of a revision was not written to its end
pub show_stopped : {T : Type 0} (at_most : Option ℕ) (reading : T → Reading) (old new : T) (remaining : Option (List ℕ)) (w : WantedRevision) (before after : Option (List ℕ)) (v : ImageValue) (e : PutFault)
    → ReadsRevision at_most remaining (reading old).stated w v (AppendsPrefix before after) → Reads (reading old) (reading new) (IsPlaceAmong (wanted_cells w v)) (put_source_fault e)
    → AnswersShow at_most reading old new remaining w before after (Err (put_fault e))
show_stopped at_most reading old new remaining w before after v Put.Write h reads = (v, h)
show_stopped at_most reading old new remaining w before after v (Put.Source Source.Device) h reads = inr (v, h, record { fault = Source.Device; read = reads; told_as = refl })
show_stopped at_most reading old new remaining w before after v (Put.Source Source.Short) h reads = inr (v, h, record { fault = Source.Short; read = reads; told_as = refl })
show_stopped at_most reading old new remaining w before after v (Put.Source Source.BadSource) h reads = inr (v, h, record { fault = Source.BadSource; read = reads; told_as = refl })
show_stopped at_most reading old new remaining w before after v (Put.Source Source.Memory) h reads = inr (v, h, record { fault = Source.Memory; read = reads; told_as = refl })

-- what is told where files were not compared, or a pattern not sought to its end
pub compare_stopped : (st : Stated) (contents : Option (List ℕ)) (e : ToolFault) → (e ≡ Read) ⊎ (e ≡ Memory) → AnswersCompare st contents contents (Err e)
compare_stopped st contents e (inl is) = rw is (Keeps-same contents)
compare_stopped st contents e (inr is) = rw is (Keeps-same contents)

pub find_stopped : (st : Stated) (start : ℕ) (pattern : List ℕ) (contents : Option (List ℕ)) (e : ToolFault) → (e ≡ PatternTooLong) ⊎ ((e ≡ Read) ⊎ (e ≡ Memory)) → AnswersFind st start pattern contents contents (Err e)
find_stopped st start pattern contents e (inl is) = rw is (Keeps-same contents)
find_stopped st start pattern contents e (inr (inl is)) = rw is (Keeps-same contents)
find_stopped st start pattern contents e (inr (inr is)) = rw is (Keeps-same contents)
