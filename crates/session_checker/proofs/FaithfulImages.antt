-- Rules on single records imply that the whole image is faithful.
use Rattle.std.proofs.Common.{◌≡◌, ℕ, ◌<◌, List, length, map, take, Some, sym, ap, ◌∙◌, arith}
use Rattle.std.specs.Prelude.{slice_get, slice_index}
use Rattle.std.specs.Option.{option_map}
use Rattle.std.specs.List.{range_with_len}
use Rattle.std.proofs.lemmas.List.{length-map, take-map, map-id}
use Rattle.std.proofs.lemmas.Simd.{map-map}
use Rattle.std.proofs.lemmas.Option.{slice_get_within, slice_get-map, slice_get-get_or, same_Some}
use Rattle.rope_node.specs.Coded.{answers_as_filled}
use Rattle.rope_node.specs.Table.{IsSound, HasTrueRecords}
use Rattle.rope_node.specs.Denotes.{Cell, Byte, Place, cell_byte, rope_cells, text}
use Rattle.rope_node.proofs.Cells.{cells_length}
use Rattle.lazy_file.specs.SourceTexts.{Agrees, Stated}
use Rattle.command_parts.specs.Commands.{FullEdit, full_edit, Givens, result_of, IsHistory}
use Rattle.command_parts.specs.Parts.{parts_cells, AreRopes, AreParts, givens_of}
use Rattle.span_descent.specs.Leads.{AreAnswered}
use Rattle.command_parts.proofs.Joined.{parts_joined}
use Rattle.command_parts.proofs.MappedResults.{mapped_givens, result_mapped}
use Rattle.span_certificate.proofs.Sameness.{covered_bytes, covered_text}
use Rattle.span_certificate.proofs.MadeRows.{none_over, shows_same}
use Rattle.span_certificate.proofs.Verdicts.{AreReadableRows, AreStatedRows}
use Rattle.span_certificate.specs.Covers.{SameOver}
use Rattle.span_certificate.specs.Verdicts.{SameStated}
use Rattle.image_reader.specs.declared.revision.Revision.{Revision}
use Rattle.image_reader.specs.Value.{ImageValue, IsImage, image_table, function_at, coded_at}
use Rattle.image_reader.specs.Accepted.{AreGoodNodes, no_revision, revision_at, command_at, roots_before, parts_at, rows_at, KeepsRules}
use Rattle.session_checker.specs.RevisionRules.{HasSameBytes, HasRowsOverNoSource, AreGoodOver}
use Rattle.session_checker.specs.Faithful.{source_text, givens, commands, texts_cells, texts, HasTrueRecordsOf, EachRevision, GivesText, IsFaithful}
use Rattle.session_checker.proofs.SoundTables.{sound_table, true_table}
use Rattle.session_checker.proofs.EarlierRevisions.{earlier_ropes}
use Rattle.command_parts.proofs.PartsInRange.{parts_in_range}
use Rattle.rope_node.proofs.Parts.{map_alike}

-- the functions at an image's nodes answer as they are coded
pub answered : (v : ImageValue) → AreAnswered (image_table v) (coded_at v)
answered v k = answers_as_filled (function_at v k)

-- what stands at a revision's place, and the command there
at_revision : {X : Type 0} (v : ImageValue) (f : Revision → X) (k : ℕ) → k < length v.revisions → slice_get (map f v.revisions) k ≡ Some (f (revision_at v k))
at_revision v f k lt = slice_get-map f v.revisions k ∙ ap (option_map f) (slice_get-get_or v.revisions k no_revision lt)

command_is : (v : ImageValue) (k : ℕ) (e : FullEdit) → slice_get (commands v) k ≡ Some e → (k < length v.revisions) × (command_at v k ≡ e)
command_is v k e at =
    let f : Revision → FullEdit = λ (r : Revision). full_edit v.splices r.edit in
    let lt : k < length v.revisions = omega (arith, slice_get_within (commands v) k e at, length-map v.revisions f) in
    (lt, same_Some (command_at v k) e (sym (at_revision v f k lt) ∙ at))

-- the cells of the roots before k, and their texts
cells_before : (v : ImageValue) (k : ℕ) → take k (texts_cells v) ≡ map (rope_cells (image_table v)) (roots_before v k)
cells_before v k =
    take-map (λ (r : Revision). rope_cells (image_table v) r.root) k v.revisions
    ∙ sym (map-map (rope_cells (image_table v)) (λ (r : Revision). r.root) (take k v.revisions))

texts_before : (v : ImageValue) (source : ℕ → ℕ → ℕ) (k : ℕ) → take k (texts v source) ≡ map (text source) (map (rope_cells (image_table v)) (roots_before v k))
texts_before v source k =
    take-map (λ (r : Revision). text source (rope_cells (image_table v) r.root)) k v.revisions
    ∙ sym (map-map (text source) (λ (r : Revision). rope_cells (image_table v) r.root) (take k v.revisions))
    ∙ ap (map (text source)) (sym (map-map (rope_cells (image_table v)) (λ (r : Revision). r.root) (take k v.revisions)))

-- what commands take from outside, as bytes and as cells
givens_mapped : (v : ImageValue) (source : ℕ → ℕ → ℕ) → givens v source ≡ mapped_givens (cell_byte source) (givens_of (image_table v))
givens_mapped v source =
    let pool : v.pool ≡ map (cell_byte source) (map Byte v.pool) = sym (map-map (cell_byte source) Byte v.pool ∙ map-id v.pool) in
    let cells : ℕ → List Cell = λ s. map (Place s) (range_with_len 0 (slice_index v.sources s)) in
    let one : (s : ℕ) → source_text v source s ≡ map (cell_byte source) (cells s) = λ s. sym (map-map (cell_byte source) (Place s) (range_with_len 0 (slice_index v.sources s))) in
    let all : map (source_text v source) (range_with_len 0 (length v.sources)) ≡ map (map (cell_byte source)) (map cells (range_with_len 0 (length v.sources))) =
    map_alike (source_text v source) (λ s. map (cell_byte source) (cells s)) one (range_with_len 0 (length v.sources)) ∙ sym (map-map (map (cell_byte source)) cells (range_with_len 0 (length v.sources))) in
    ap (λ (p : List ℕ). record { pool = p; sources = map (source_text v source) (range_with_len 0 (length v.sources)); byte = λ (b : ℕ). b }) pool
    ∙ ap (λ (s : List (List ℕ)). record { pool = map (cell_byte source) (map Byte v.pool); sources = s; byte = λ (b : ℕ). b }) all

-- ---- revisions that keep the rules

-- the roots before k are ropes, and the parts of its command lie inside
pub record IsReady (v : ImageValue) (k : ℕ) : Type 0 where
  pub ropes : AreRopes (image_table v) (roots_before v k)
  pub parts : AreParts (image_table v) (parts_at v k)

pub ready : (v : ImageValue) (k : ℕ) → ((c : ℕ) → c < k → KeepsRules v c) → KeepsRules v k → IsReady v k
ready v k earlier rules =
    let ropes = earlier_ropes v k (λ c lt. (earlier c lt).root.0) in
    record { ropes = ropes; parts = parts_in_range (image_table v) (roots_before v k) (command_at v k) ropes rules.command }

pub ready_of : (v : ImageValue) (st : Stated) → AreGoodOver v st → (k : ℕ) → k < length v.revisions → IsReady v k
ready_of v st good k lt = ready v k (λ c below. (good c (omega arith)).rules) (good k lt).rules

-- the cells of the parts of revision k are what its command gives of the cells before it
joined : (v : ImageValue) → IsSound (image_table v) → HasTrueRecords (image_table v) → (k : ℕ) → IsReady v k → KeepsRules v k
    → result_of (givens_of (image_table v)) (map (rope_cells (image_table v)) (roots_before v k)) (command_at v k) ≡ Some (parts_cells (image_table v) (parts_at v k))
joined v s h k is rules = parts_joined (image_table v) s h (roots_before v k) (command_at v k) is.ropes rules.command

-- what a revision's rows of bytes are over is the same as far as it is stated
bytes_given : (v : ImageValue) (st : Stated) → IsSound (image_table v) → HasTrueRecords (image_table v) → AreGoodOver v st → EachRevision v (HasSameBytes v (SameStated st))
bytes_given v st s h good k lt =
    covered_bytes (image_table v) s h (coded_at v) (SameStated st) (parts_at v k) (revision_at v k).root (rows_at v k) (ready_of v st good k lt).parts (good k lt).rows

-- a revision's command gives its text, where its rows of bytes have the same bytes on both sides, and its cells, where they are over no source
text_given : (v : ImageValue) (st : Stated) → IsSound (image_table v) → HasTrueRecords (image_table v) → AreGoodOver v st → (source : ℕ → ℕ → ℕ)
    → EachRevision v (λ k. HasSameBytes v (SameOver source) k → GivesText (givens v source) (commands v) (texts v source) k)
text_given v st s h good source k lt bytes = record {
  gives = λ e at.
      let c = command_is v k e at in
      let g = good k lt in
      let is = ready_of v st good k lt in
      let before = map (rope_cells (image_table v)) (roots_before v k) in
      let same = covered_text (image_table v) s h (coded_at v) (answered v) (SameStated st) source (parts_at v k) (revision_at v k).root (rows_at v k) is.parts g.rules.root.0 g.rows bytes in
      let result : result_of (givens v source) (take k (texts v source)) (command_at v k) ≡ Some (text source (rope_cells (image_table v) (revision_at v k).root)) =
      ap (λ (x : Givens ℕ). result_of x (take k (texts v source)) (command_at v k)) (givens_mapped v source)
      ∙ ap (λ (xs : List (List ℕ)). result_of (mapped_givens (cell_byte source) (givens_of (image_table v))) xs (command_at v k)) (texts_before v source k)
      ∙ result_mapped (cell_byte source) (givens_of (image_table v)) before (command_at v k)
      ∙ ap (option_map (text source)) (joined v s h k is g.rules)
      ∙ ap Some same in
      at_revision v (λ (r : Revision). text source (rope_cells (image_table v) r.root)) k lt
      ∙ sym result
      ∙ ap (result_of (givens v source) (take k (texts v source))) c.1;
}

cells_given : (v : ImageValue) (st : Stated) → IsSound (image_table v) → HasTrueRecords (image_table v) → AreGoodOver v st
    → EachRevision v (λ k. HasRowsOverNoSource v k → GivesText (givens_of (image_table v)) (commands v) (texts_cells v) k)
cells_given v st s h good k lt none = record {
  gives = λ e at.
      let c = command_is v k e at in
      let g = good k lt in
      let is = ready_of v st good k lt in
      let same = (shows_same (image_table v) s h (coded_at v) (answered v) st (parts_at v k) (revision_at v k).root (rows_at v k) is.parts g.rules.root.0 g.rows).same_cells none in
      let result : result_of (givens_of (image_table v)) (take k (texts_cells v)) (command_at v k) ≡ Some (rope_cells (image_table v) (revision_at v k).root) =
      ap (λ (xs : List (List Cell)). result_of (givens_of (image_table v)) xs (command_at v k)) (cells_before v k)
      ∙ joined v s h k is g.rules
      ∙ ap Some same in
      at_revision v (λ (r : Revision). rope_cells (image_table v) r.root) k lt
      ∙ sym result
      ∙ ap (result_of (givens_of (image_table v)) (take k (texts_cells v))) c.1;
}

-- ---- an image whose nodes and revisions keep their rules

pub true_records_of : (v : ImageValue) (st : Stated) → IsImage v → AreGoodNodes (image_table v) → AreGoodOver v st → HasTrueRecordsOf v
true_records_of v st is nodes revisions =
    let sound = sound_table v is nodes in
    let true_records = true_table v nodes in
    record {
      sound = sound;
      true_records = true_records;
      lengths = λ id lt. cells_length (image_table v) sound true_records id lt;
      roots = λ k lt. (revisions k lt).rules.root.0;
      marks = λ k lt. (revisions k lt).rules.mark;
      rules = λ k lt. (revisions k lt).rules;
    }

-- it is faithful
pub faithful : (v : ImageValue) (st : Stated) → IsImage v → AreGoodNodes (image_table v) → AreGoodOver v st → IsFaithful v st
faithful v st is nodes revisions =
    let table = true_records_of v st is nodes revisions in
    record {
      true_records = table;
      each_text = text_given v st table.sound table.true_records revisions;
      same_bytes = bytes_given v st table.sound table.true_records revisions;
      each_cells = cells_given v st table.sound table.true_records revisions;
    }

-- each row of bytes of revision k is over cells that the sources state, or that no read of fails
abbrev pub HasStatedRows : ImageValue → Stated → ℕ → Type 0
HasStatedRows v st k = AreStatedRows (image_table v) st (parts_at v k) (revision_at v k).root (rows_at v k)

abbrev pub HasReadableRows : ImageValue → Stated → ℕ → Type 0
HasReadableRows v st k = AreReadableRows (image_table v) st (parts_at v k) (revision_at v k).root (rows_at v k)

-- rows of bytes over stated places have the same bytes on both sides over bytes that agree with what is stated
pub stated_bytes : (v : ImageValue) (st : Stated) → IsFaithful v st → (source : ℕ → ℕ → ℕ) → Agrees st source → (k : ℕ) → k < length v.revisions → HasStatedRows v st k → HasSameBytes v (SameOver source) k
stated_bytes v st is source agrees k lt stated =
    none_over (image_table v) st source (parts_at v k) (revision_at v k).root (rows_at v k) agrees stated (is.same_bytes k lt)

-- So all texts are the history of the commands, where what rows of bytes are over is stated, and all cells are, where that is no source.
pub texts_history : (v : ImageValue) (st : Stated) → IsFaithful v st → (source : ℕ → ℕ → ℕ) → Agrees st source → EachRevision v (HasStatedRows v st)
    → IsHistory (givens v source) (commands v) (texts v source)
texts_history v st is source agrees stated = record {
  whole = length-map v.revisions (λ (r : Revision). text source (rope_cells (image_table v) r.root)) ∙ sym (length-map v.revisions (λ (r : Revision). full_edit v.splices r.edit));
  each = λ k e at. let c = command_is v k e at in (is.each_text source k c.0 (stated_bytes v st is source agrees k c.0 (stated k c.0))).gives e at;
}

pub cells_history : (v : ImageValue) (st : Stated) → IsFaithful v st → EachRevision v (HasRowsOverNoSource v) → IsHistory (givens_of (image_table v)) (commands v) (texts_cells v)
cells_history v st is none = record {
  whole = length-map v.revisions (λ (r : Revision). rope_cells (image_table v) r.root) ∙ sym (length-map v.revisions (λ (r : Revision). full_edit v.splices r.edit));
  each = λ k e at. let c = command_is v k e at in (is.each_cells k c.0 (none k c.0)).gives e at;
}
