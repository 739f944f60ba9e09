-- What blaming an image writes.
use Rattle.std.specs.Prelude.{◌≡◌, ℕ, ◌+◌, ◌<◌, ◌≤◌, List, [], ◌∷◌, ◌++◌, length, take, drop, Option, Result, Ok, Err}
use Rattle.std.specs.Io.KnownBytes.{Keeps}
use Rattle.lazy_file.specs.Readings.{Reading}
use Rattle.image_reader.specs.Value.{ImageValue}
use Rattle.image_reader.specs.Accepted.{command_at}
use Rattle.session_checker.specs.declared.fault.CheckFault.{CheckFault}
use Rattle.session_checker.specs.Limits.{ChecksWithin}
use Rattle.session_checker.specs.Wanted.{wanted_number}
use Rattle.edit_script.specs.Words.{Word, Number, Quoted, line_of}
use Rattle.edit_script.specs.Commands.{front_of}
use Rattle.byte_origins.specs.declared.run.Brought.{Brought}
use Rattle.byte_origins.specs.declared.run.Brought.TheVariants.{Pool}
use Rattle.byte_origins.specs.declared.run.OriginRun.{OriginRun}
use Rattle.byte_origins.specs.Origins.{AreRuns, origins_at}
use Rattle.script_tools.specs.declared.shown.LogTexts.TheVariants.{Brief}
use Rattle.script_tools.specs.declared.fault.BlameFault.{BlameFault}
use Rattle.script_tools.specs.declared.fault.BlameFault.TheVariants.{Check, NoRevision}
use Rattle.script_tools.specs.declared.wanted.BytesOfText.{BytesOfText}
use Rattle.script_tools.specs.Logged.{WritesText, shown_on}

-- ---- lines

-- so many bytes that were handed in, in quotes; of a source and of a fill nothing is shown
abbrev pub brought_texts : List ℕ → ℕ → Brought → List Word
brought_texts pool n (Pool a) = Quoted (take n (drop a pool)) ∷ []
brought_texts pool n _ = []

-- what a run's bytes are shown as
abbrev pub run_texts : List ℕ → OriginRun → List Word
run_texts pool x = brought_texts pool x.len x.first.brought

-- a run's place, its length, where it came in, and the command that put it in there
abbrev pub run_words : ImageValue → ℕ → OriginRun → List Word
run_words v place x =
    Number place ∷ Number x.len ∷ Number x.first.revision ∷ Number x.first.place ∷ front_of (command_at v x.first.revision)

-- the line of a run that stands at this place of a text
abbrev pub run_line : ImageValue → ℕ → OriginRun → List ℕ
run_line v place x = line_of (run_words v place x) ++ (shown_on Brief (run_texts v.pool x) ++ 10 ∷ [])

-- the lines of runs, one behind the other
abbrev pub blame_lines : ImageValue → ℕ → List OriginRun → List ℕ
blame_lines v place [] = []
blame_lines v place (x ∷ xs) = run_line v place x ++ blame_lines v (place + x.len) xs

-- what runs from a place on have in quotes are the bytes of a text at each one's place
abbrev pub ShowBytes : List ℕ → List ℕ → ℕ → List OriginRun → Type 0
ShowBytes pool text place [] = Unit {0}
ShowBytes pool text place (x ∷ xs) =
    ((shown : List ℕ) → run_texts pool x ≡ Quoted shown ∷ [] → shown ≡ take x.len (drop place text))
    × ShowBytes pool text (place + x.len) xs

-- ---- what is written

-- the lines of the runs of some bytes of revision k's text, or a prefix of them where that failed
abbrev pub WritesRuns : {E : Type 0} → ImageValue → ℕ → ℕ → ℕ → Option (List ℕ) → Option (List ℕ) → Result (Unit {0}) E → Type 0
WritesRuns v k start count before after outcome =
    (runs : List OriginRun) × AreRuns (take count (drop start (origins_at v k))) runs
    × WritesText before after (blame_lines v start runs) outcome

-- the number of the revision of an image whose bytes are asked about
abbrev pub blamed_in : BytesOfText → ImageValue → ℕ
blamed_in wanted v = wanted_number wanted.revision (length v.revisions)

-- Of an accepted image that has the revision those lines were written; of one that has not, and of a refused one,
-- nothing, and that is told.
abbrev pub WritesBlame : BytesOfText → Option (List ℕ) → Option (List ℕ) → Result ImageValue CheckFault
    → Result (Unit {0}) BlameFault → Type 0
WritesBlame wanted before after (Ok v) (Err (Check fault)) = ⊥
WritesBlame wanted before after (Ok v) (Err NoRevision) =
    (length v.revisions ≤ blamed_in wanted v) × Keeps before after
WritesBlame wanted before after (Ok v) outcome =
    (blamed_in wanted v < length v.revisions)
    × WritesRuns v (blamed_in wanted v) wanted.start wanted.count before after outcome
WritesBlame wanted before after (Err fault) outcome = Keeps before after × (outcome ≡ Err (Check fault))

-- what run_blame does: it checks the image, as check_at_most does, and writes where the bytes come from
pub record BlamesImage (wanted : BytesOfText) (at_most : Option ℕ) (old new : Reading) (bytes : List ℕ)
    (before after : Option (List ℕ)) (outcome : Result (Unit {0}) BlameFault) : Type 0 where
  pub checked : Result ImageValue CheckFault
  pub check : ChecksWithin at_most old new bytes checked
  pub written : WritesBlame wanted before after checked outcome
