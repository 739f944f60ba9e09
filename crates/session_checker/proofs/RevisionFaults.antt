-- What verifying tells of a revision, and which faults are those of sources.
use Rattle.std.proofs.Common.{◌≡◌, ℕ, ◌<◌, List, length, take, drop, refl, subst}
use Rattle.std.specs.Prelude.{Option, Some, None}
use Rattle.lazy_file.specs.SourceTexts.{Stated}
use Rattle.lazy_file.specs.Readings.{Reading, Reads}
use Rattle.lazy_file.proofs.LaterReads.{reads_weaker}
use Rattle.lazy_file.specs.declared.faults.SourceFault.{SourceFault}
use Rattle.command_parts.specs.declared.part.Part.{Part}
use Rattle.span_certificate.specs.declared.cover.Verdict.{Verdict}
use Rattle.span_certificate.specs.Verdicts.{IsAskedFor, TellsRows}
use Rattle.image_reader.specs.declared.revision.Revision.{Revision}
use Rattle.image_reader.specs.Value.{ImageValue, image_table, coded_at}
use Rattle.image_reader.specs.Accepted.{revision_at, parts_at, rows_before, rows_at}
use Rattle.session_checker.specs.declared.fault.CheckFault.{CheckFault}
use Rattle.session_checker.specs.declared.fault.CheckFault.TheVariants as faults
use Rattle.session_checker.specs.RevisionRules.{BreaksRule, ImageAsks, IsGoodOver, RevisionAsks, RowsAsk, source_fault}

-- a rule that is broken is no fault of a source
pub rule_fault : (v : ImageValue) (k : ℕ) (f : CheckFault) → BreaksRule v k f → source_fault f ≡ None
rule_fault v k (faults.Read e) h = refl
rule_fault v k faults.SourceCount h = refl
rule_fault v k (faults.SourceLength s) h = refl
rule_fault v k (faults.Reference id) h = refl
rule_fault v k (faults.Length id) h = refl
rule_fault v k (faults.Depth id) h = refl
rule_fault v k (faults.Span id) h = refl
rule_fault v k (faults.Command x) h = refl
rule_fault v k (faults.Root x) h = refl
rule_fault v k (faults.Mark x) h = refl
rule_fault v k (faults.Rows x j) h = refl
rule_fault v k (faults.Source e) h = absurd h
rule_fault v k (faults.Looks n) h = absurd h

-- what testing a revision does, told from before the revisions ahead of it on
pub revision_reads : (old mid new : Reading) (v : ImageValue) (k : ℕ) (fault : Option SourceFault) → k < length v.revisions → ((c : ℕ) → c < k → IsGoodOver v old.stated c) → mid ≡ old
    → Reads mid new (RevisionAsks mid.stated v k) fault → Reads old new (ImageAsks old.stated v) fault
revision_reads old mid new v k fault there earlier same h =
    let from_old : Reads old new (RevisionAsks old.stated v k) fault = subst (λ (r : Reading). Reads r new (RevisionAsks r.stated v k) fault) same h in
    reads_weaker old new (RevisionAsks old.stated v k) (ImageAsks old.stated v) fault (λ s p asks. record { k = k; there = there; earlier = earlier; asks = asks }) from_old

-- ---- what verifying tells of a revision, in terms of the image

-- what is handed to verifying for revision k, and what it is
pub record IsHanded (v : ImageValue) (k : ℕ) (parts : List Part) (r : Revision) (from : ℕ) (w : ImageValue) : Type 0 where
  pub parts_are : parts ≡ parts_at v k
  pub revision_is : r ≡ revision_at v k
  pub from_is : from ≡ rows_before v k
  pub image_is : w ≡ v

pub handed_tells : (v : ImageValue) (st : Stated) (k : ℕ) (parts : List Part) (r : Revision) (from : ℕ) (w : ImageValue) (verdict : Verdict) → IsHanded v k parts r from w → TellsRows (image_table v) (coded_at v) st parts r.root (take r.rows (drop from w.rows)) verdict
    → TellsRows (image_table v) (coded_at v) st (parts_at v k) (revision_at v k).root (rows_at v k) verdict
handed_tells v st k parts r from w verdict is h = rw (is.parts_are, is.revision_is, is.from_is, is.image_is) at h

pub handed_reads : (old new : Reading) (v : ImageValue) (k : ℕ) (parts : List Part) (r : Revision) (from : ℕ) (w : ImageValue) (e : SourceFault) → IsHanded v k parts r from w
    → Reads old new (IsAskedFor (image_table v) (coded_at v) old.stated parts r.root (take r.rows (drop from w.rows))) (Some e) → Reads old new (RowsAsk old.stated v k) (Some e)
handed_reads old new v k parts r from w e is h =
    rw (is.parts_are, is.revision_is, is.from_is, is.image_is) at h
