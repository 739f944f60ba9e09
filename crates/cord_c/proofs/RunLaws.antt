-- What calls answer that find and read the bytes of a text.
use Rattle.std.proofs.Common.{◌≡◌, ℕ, ◌+◌, ◌<◌, min, List, length, take, drop, inl, inr, refl, subst}
use Rattle.std.specs.Prelude.{Err, Option, Some}
use Rattle.lazy_file.specs.SourceTexts.{AreSizes, Stated}
use Rattle.lazy_file.specs.declared.faults.SourceFault.{SourceFault}
use Rattle.rope_node.specs.declared.node.NodeId.{NodeId}
use Rattle.cord_position.specs.Fetched.{EachCell, IsReadable, ReadsSpan, rope_cell, rope_part}
use Rattle.cord_position.specs.Runs.{AreBytesOf, run_left}
use Rattle.cord_position.proofs.Spans.{span_read}
use Rattle.image_reader.specs.Value.{ImageValue, coded_at, image_table}
use Rattle.image_reader.specs.Reading.{image_in}
use Rattle.session_checker.specs.Faithful.{IsFetchedOf, fetched_cell}
use Rattle.cord_types.specs.declared.run.CordRun.{CordRun}
use Rattle.cord_types.specs.declared.held_sources.CordSource.{CordSource}
use Rattle.cord_types.specs.ToldRuns.{IsToldRun}
use Rattle.cord_c.specs.declared.text.TheConstants.{NOT_HELD, READ}
use Rattle.cord_types.specs.HeldTexts.{reading_of, stated_as_held}
use Rattle.cord_c.specs.Opened.{WasAccepted}
use Rattle.cord_c.specs.Runs.{FetchesByte, IsLocated, ReadsRun, left_of, revision_len, text_part, text_root}
use Rattle.cord_c.proofs.ToldBytes.{fetched_held, read_held}

-- where a run stands that is told of the root of a text
pub located : (v w : ImageValue) (k place : ℕ) (root : Option NodeId) (run : CordRun) → w ≡ v → root ≡ text_root w k → IsToldRun (image_table w) (coded_at w) root place run → IsLocated v k place run
located v w k place root run of at told =
    let own : IsToldRun (image_table w) (coded_at w) (text_root w k) place run = subst (λ (r : Option NodeId). IsToldRun (image_table w) (coded_at w) r place run) at told in
    subst (λ (y : ImageValue). IsLocated y k place run) of (record {
      longest = own.longest;
      some = own.some;
      inside = own.inside;
      what = own.what;
      stands = own.stands;
      cells = own.cells;
      told = own.told;
    })

-- a byte that was fetched
pub byte_fetched : (bytes : List ℕ) (v : ImageValue) (xs : List CordSource) (st : Stated) (k place old found : ℕ) → WasAccepted bytes → v ≡ image_in bytes → st ≡ stated_as_held xs → AreSizes (stated_as_held xs).sizes
    → IsFetchedOf v st k place (Some found) → place < revision_len v k → FetchesByte (image_in bytes) (stated_as_held xs) k place old found READ
byte_fetched bytes v xs st k place old found was of is sizes fetched inside =
    let over : IsFetchedOf v (stated_as_held xs) k place (Some found) = subst (λ (y : Stated). IsFetchedOf v y k place (Some found)) is fetched in
    let own : IsFetchedOf (image_in bytes) (stated_as_held xs) k place (Some found) = subst (λ (y : ImageValue). IsFetchedOf y (stated_as_held xs) k place (Some found)) of over in
    record {
      found = λ _. own;
      held = λ _. fetched_held bytes xs k place found was own;
      inside = λ _. subst (λ (y : ImageValue). place < revision_len y k) of inside;
      past = λ e. absurd cc;
      kept = λ other. absurd (other refl);
      refused = λ none. absurd (none sizes);
      succeeds = λ _ readable e. absurd cc;
      told = inl refl;
    }

-- bytes that were read
pub bytes_read : (bytes : List ℕ) (v : ImageValue) (xs : List CordSource) (st : Stated) (k place n : ℕ) (root : Option NodeId) (old new : List ℕ) → WasAccepted bytes → v ≡ image_in bytes → root ≡ text_root v k → st ≡ stated_as_held xs → AreSizes (stated_as_held xs).sizes
    → n ≡ min (run_left (image_table v) root place) (length old) → drop n new ≡ drop n old → AreBytesOf st (rope_part (image_table v) root place n) (take n new) → ReadsRun (image_in bytes) (stated_as_held xs) k place old new n READ
bytes_read bytes v xs st k place n root old new was of at is sizes count rest part =
    let many : n ≡ min (left_of v k place) (length old) = subst (λ (r : Option NodeId). n ≡ min (run_left (image_table v) r place) (length old)) at count in
    let are : AreBytesOf st (text_part v k place n) (take n new) = subst (λ (r : Option NodeId). AreBytesOf st (rope_part (image_table v) r place n) (take n new)) at part in
    let over : AreBytesOf (stated_as_held xs) (text_part v k place n) (take n new) = subst (λ (y : Stated). AreBytesOf y (text_part v k place n) (take n new)) is are in
    let own : AreBytesOf (stated_as_held xs) (text_part (image_in bytes) k place n) (take n new) = subst (λ (y : ImageValue). AreBytesOf (stated_as_held xs) (text_part y k place n) (take n new)) of over in
    record {
      count_is = λ _. subst (λ (y : ImageValue). n ≡ min (left_of y k place) (length old)) of many;
      bytes = λ _. own;
      held = λ _. read_held bytes xs k place n (take n new) was own;
      rest = λ _. rest;
      none = λ other. absurd (other refl);
      refused = λ none. absurd (none sizes);
      succeeds = λ _ each. refl;
      told = inl refl;
    }

-- each cell of a text from one place to another can be read
abbrev EachReadable : ImageValue → Stated → ℕ → ℕ → ℕ → Type 0
EachReadable v st k i j = EachCell (fetched_cell v k) i j (IsReadable st)

-- what was read of a rope before a read failed
abbrev ReadsText : Stated → Stated → ImageValue → Option NodeId → ℕ → ℕ → SourceFault → Type 0
ReadsText held other w root place n fault = ReadsSpan {X = ℕ} (reading_of held) (reading_of other) (rope_cell (image_table w) root) place (place + min (run_left (image_table w) root place) n) (Err fault)

-- a read that failed
pub bytes_unheld : (v w : ImageValue) (held other st : Stated) (k place : ℕ) (root : Option NodeId) (old new : List ℕ) (fault : SourceFault) → w ≡ v → root ≡ text_root w k → held ≡ st
    → ReadsText held other w root place (length old) fault → ReadsRun v st k place old new 0 NOT_HELD
bytes_unheld v w held other st k place root old new fault of at is read =
    let until = place + min (left_of w k place) (length old) in
    let reads : ReadsText held other w (text_root w k) place (length old) fault = subst (λ (r : Option NodeId). ReadsText held other w r place (length old) fault) at read in
    let fails : EachReadable w held k place until → ⊥ = λ each. let ok = span_read {X = ℕ} (reading_of held) (reading_of other) (fetched_cell w k) place until (Err fault) reads each in absurd cc in
    subst (λ (y : ImageValue). ReadsRun y st k place old new 0 NOT_HELD) of (subst (λ (y : Stated). ReadsRun w y k place old new 0 NOT_HELD) is (record {
      count_is = λ e. absurd cc;
      bytes = λ e. absurd cc;
      rest = λ e. absurd cc;
      held = λ e. absurd cc;
      none = λ other. refl;
      refused = λ _. refl;
      succeeds = λ sizes each. absurd (fails each);
      told = inr refl;
    }))
