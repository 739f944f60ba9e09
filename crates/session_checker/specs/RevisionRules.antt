-- Which rule a revision breaks first, in the order of the rules, and when a source's fault keeps its rows from being
-- compared.
use Rattle.std.specs.Prelude.{◌≡◌, ◌⊎◌, ℕ, ◌<◌, List, length, Option, Some, None, Result}
use Rattle.rope_node.specs.Denotes.{Cell}
use Rattle.lazy_file.specs.SourceTexts.{Stated}
use Rattle.lazy_file.specs.Readings.{fault_by}
use Rattle.lazy_file.specs.declared.faults.SourceFault.{SourceFault}
use Rattle.command_parts.specs.Parts.{parts_len, IsInRange}
use Rattle.span_certificate.specs.Covers.{HaveSameBytes, IsFirstBadBy, MeetsNoSource}
use Rattle.span_certificate.specs.Verdicts.{CanBeSame, IsAskedFor, SameStated}
use Rattle.image_reader.specs.Value.{ImageValue, image_table, coded_at}
use Rattle.image_reader.specs.Accepted.{revision_at, command_at, roots_before, parts_at, rows_at, AreGoodRevisions, HasGoodRoot, HasGoodMark, IsGoodRevision, KeepsRules}
use Rattle.session_checker.specs.declared.fault.CheckFault.{CheckFault}
use Rattle.session_checker.specs.declared.fault.CheckFault.TheVariants.{Command, Root, Mark, Rows, Source}

-- ---- rows of bytes, and what sources state

-- each row of bytes of revision k is over bytes alone, and no source
abbrev pub HasRowsOverNoSource : ImageValue → ℕ → Type 0
HasRowsOverNoSource v k = MeetsNoSource (image_table v) (parts_at v k) (revision_at v k).root (rows_at v k)

-- the cells of each row of bytes in the command's parts and those in the root are the same as Same says
abbrev pub HasSameBytes : ImageValue → (List Cell → List Cell → Type 0) → ℕ → Type 0
HasSameBytes v Same k = HaveSameBytes Same (image_table v) (parts_at v k) (revision_at v k).root (rows_at v k)

-- a revision that breaks no rule, its rows of bytes as far as the sources state what they are over
abbrev pub IsGoodOver : ImageValue → Stated → ℕ → Type 0
IsGoodOver v st k = IsGoodRevision v (SameStated st) k

-- so of all revisions
abbrev pub AreGoodOver : ImageValue → Stated → Type 0
AreGoodOver v st = AreGoodRevisions v (SameStated st)

-- ---- faults

abbrev pub IsRevisionInRange : ImageValue → ℕ → Type 0
IsRevisionInRange v k = IsInRange (image_table v) (roots_before v k) (command_at v k)

abbrev pub HasRootOfParts : ImageValue → ℕ → Type 0
HasRootOfParts v k = HasGoodRoot (image_table v) (revision_at v k).root (parts_len (parts_at v k))

-- the first rule that revision k breaks, but for its rows
abbrev pub BreaksRule : ImageValue → ℕ → CheckFault → Type 0
BreaksRule v k (Command x) = (x ≡ k) × ¬ IsRevisionInRange v k
BreaksRule v k (Root x) = (x ≡ k) × IsRevisionInRange v k × ¬ HasRootOfParts v k
BreaksRule v k (Mark x) =
    (x ≡ k) × IsRevisionInRange v k × HasRootOfParts v k × ¬ HasGoodMark (image_table v) (revision_at v k)
BreaksRule v k other = ⊥

-- j is the first row of revision k that does not fit, as far as the sources state it; so far, the rows before it fit
abbrev pub IsFirstBadRow : ImageValue → Stated → ℕ → ℕ → Type 0
IsFirstBadRow v st k j =
    IsFirstBadBy (image_table v) (coded_at v) (SameStated st) (CanBeSame st) (parts_at v k) (revision_at v k).root
    (rows_at v k) j

-- what is wrong with the rows of revision k
abbrev pub BreaksRows : Stated → ImageValue → ℕ → CheckFault → Type 0
BreaksRows st v k (Rows x j) = (x ≡ k) × IsFirstBadRow v st k j
BreaksRows st v k other = ⊥

-- the first rule that revision k breaks
abbrev pub BreaksAt : Stated → ImageValue → ℕ → CheckFault → Type 0
BreaksAt st v k f = BreaksRule v k f ⊎ (KeepsRules v k × BreaksRows st v k f)

-- the first revision that breaks a rule, and the first rule that it breaks
pub record IsFirstRevisionFault (st : Stated) (v : ImageValue) (f : CheckFault) : Type 0 where
  pub k : ℕ
  pub there : k < length v.revisions
  pub earlier : (c : ℕ) → c < k → IsGoodOver v st c
  pub breaks : BreaksAt st v k f

-- ---- faults of sources

-- the source's fault that a fault is, if it is one
abbrev pub source_fault : CheckFault → Option SourceFault
source_fault (Source fault) = Some fault
source_fault other = None

-- the source's fault that an outcome is, if it is one
abbrev pub source_fault_in : {X : Type 0} → Result X CheckFault → Option SourceFault
source_fault_in outcome = fault_by source_fault outcome

-- a place that the rows of revision k ask for: some row of bytes compares it, and those before it fit
abbrev pub RowsAsk : Stated → ImageValue → ℕ → ℕ → ℕ → Type 0
RowsAsk st v k s p =
    IsAskedFor (image_table v) (coded_at v) st (parts_at v k) (revision_at v k).root (rows_at v k) s p

-- the same, and revision k keeps its other rules
abbrev pub RevisionAsks : Stated → ImageValue → ℕ → ℕ → ℕ → Type 0
RevisionAsks st v k s p = KeepsRules v k × RowsAsk st v k s p

-- the same of some revision, and all before it are good
pub record ImageAsks (st : Stated) (v : ImageValue) (s p : ℕ) : Type 0 where
  pub k : ℕ
  pub there : k < length v.revisions
  pub earlier : (c : ℕ) → c < k → IsGoodOver v st c
  pub asks : RevisionAsks st v k s p
