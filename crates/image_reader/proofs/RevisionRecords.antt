-- Records of revisions: one that has no fault fits and is spelled as it was, and one that fits is read again.
use Rattle.std.proofs.Common.{lit<, ◌≡◌, ◌≢◌, ℕ, zero, suc, ◌^◌, ◌<◌, ◌≤◌, Bool, true, false, eqb, ltb, List, ◌∷◌, length, get_or, Option, Some, None, refl, sym, ap, ◌∙◌, arith, inl, inr}
use Rattle.std.specs.Int.{w8, w16, w32, w64}
use Rattle.std.proofs.lemmas.Bool.{or_parts, or_from, le-ltb, eqb-true, eqb-false, ne_eqb, ltb-false, cases_Bool}
use Rattle.rope_node.specs.declared.node.NodeId.{NodeId}
use Rattle.command_parts.specs.declared.edit.Edit.{Edit}
use Rattle.command_parts.specs.declared.codes.TheConstants.{MANY}
use Rattle.command_parts.specs.Fields.{Field, R, Q, P, M, A, N, place_in_record, number_limit, field_of, recorded, edit_by, splices_of, numbers_of, unused, FitsRecord, IsPlacedAt}
use Rattle.command_parts.proofs.RecordedNumbers.{edit_again, code_small, number_fits, edit_fits, placed_by, splices_by}
use Rattle.command_parts.specs.declared.numbers.Numbers.{Numbers}
use Rattle.image_reader.specs.declared.fault.ReadFault.TheVariants.{NonZeroPad}
use Rattle.image_reader.specs.declared.revision.Revision.{Revision}
use Rattle.image_reader.specs.declared.decode.TheConstants.{NIL_ROOT}
use Rattle.image_reader.specs.declared.version.FormatVersion.{FormatVersion}
use Rattle.image_reader.specs.declared.version.FormatVersion.TheVariants.{One, Two}
use Rattle.image_reader.specs.Versions.{last_code}
use Rattle.image_reader.specs.Layout.{IsBytes, spelled, number_in}
use Rattle.image_reader.specs.Value.{FitsRoot, FitsRevision}
use Rattle.image_reader.specs.Spelling.{mark_number, root_number, revision_layout, revision_numbers, revision_spelling}
use Rattle.image_reader.specs.Reading.{command_code_in, numbers_in, edit_in_bytes, root_by_number, row_count_in, splice_count_in, revision_of, is_unknown_revision, any_nonzero, unused_in_revision, revision_record_fault}
use Rattle.image_reader.proofs.Commands.{unused_again, is_of_code}
use Rattle.image_reader.proofs.Faults.{else_none, fault_if_none, zero_first}
use Rattle.image_reader.proofs.Fields.{AreWide, FitFields, wide8, wide16, wide32, wide64, number_in_small, numbers_from, spelled_whole, numbers_whole, length-spelled}
use Rattle.image_reader.proofs.RecordLaws.{IsRecord}

revision_wide : AreWide revision_layout
revision_wide = (wide8, (wide8, (wide16, (wide32, (wide32, (wide32, (wide64, (wide64, (wide64, (wide64, (wide32, (wide32, tt))))))))))))

-- ---- marks and roots

mark_small : (m : Bool) → mark_number m < 256
mark_small true = lit< tt
mark_small false = lit< tt

mark_again : (m : Bool) → (ltb 1 (mark_number m) ≡ false) × (eqb (mark_number m) 1 ≡ m)
mark_again true = (refl, refl)
mark_again false = (refl, refl)

mark_back : (n : ℕ) → n ≤ 1 → mark_number (eqb n 1) ≡ n
mark_back zero le = refl
mark_back (suc zero) le = refl
mark_back (suc (suc n)) le = absurd (omega arith)

root_small : (root : Option NodeId) → FitsRoot root → root_number root < 2 ^ 32
root_small None fits = lit< tt
root_small (Some id) fits = omega arith

root_again : (root : Option NodeId) → FitsRoot root → root_by_number (root_number root) ≡ root
root_again None fits = refl
root_again (Some id) fits = let other : eqb id.0 NIL_ROOT ≡ false = ne_eqb _ _ (λ e. absurd (omega arith)) in rw other refl

root_back : (n : ℕ) → n < 2 ^ 32 → (root_number (root_by_number n) ≡ n) × FitsRoot (root_by_number n)
root_back n small =
    elim (cases_Bool (eqb n NIL_ROOT)) [
      | inl is ↦ rw is (sym (eqb-true _ _ is), tt)
      | inr isnt ↦ let other : n ≢ NIL_ROOT = eqb-false _ _ isnt in rw isnt (refl, omega arith)
    ]

-- ---- what is read again

revision_fields : (edit : Edit) (mark : Bool) (root : Option NodeId) (rows : ℕ) → FitsRecord edit → FitsRoot root → rows < 2 ^ 32
    → FitFields revision_layout (revision_numbers (recorded edit).code (numbers_of edit) (mark_number mark) (root_number root) rows)
revision_fields edit mark root rows e r n =
    let fits = number_fits (recorded edit).uses e in
    (omega (arith, (code_small edit).1), (mark_small mark, (lit< tt, (root_small root r, (fits R, (fits Q, (fits P, (fits M, (fits A, (fits N, (n, (lit< tt, tt))))))))))))

-- a revision that fits, with its splices behind those of the revisions before it
abbrev pub FitsAt : FormatVersion → ℕ → Revision → Type 0
FitsAt version first r = FitsRevision version r × IsPlacedAt first r.edit

pub revision_len : (version : FormatVersion) (r : Revision) → FitsRevision version r → length (revision_spelling r) ≡ 56
unfolding revision_spelling
revision_len version r fits = length-spelled revision_layout revision_wide _ (revision_fields r.edit r.mark r.root r.rows fits.edit fits.root fits.rows)

-- the numbers of a cell that spells these
pub record Holds (cell : List ℕ) (code : ℕ) (x : Numbers) (mark root rows : ℕ) : Type 0 where
  pub code_is : command_code_in cell ≡ code
  pub mark_is : number_in w8 1 cell ≡ mark
  pub zeros : number_in w16 2 cell ≡ 0
  pub root_is : number_in w32 4 cell ≡ root
  pub numbers : numbers_in cell ≡ x
  pub rows_is : number_in w32 48 cell ≡ rows
  pub end : number_in w32 52 cell ≡ 0

holds : (cell : List ℕ) (code : ℕ) (x : Numbers) (mark root rows : ℕ) → numbers_from revision_layout 0 cell ≡ revision_numbers code x mark root rows → Holds cell code x mark root rows
unfolding numbers_from
holds cell code x mark root rows same =
    let at : (k : ℕ) → get_or (numbers_from revision_layout 0 cell) k 0 ≡ get_or (revision_numbers code x mark root rows) k 0 = λ k. ap (λ (ns : List ℕ). get_or ns k 0) same in
    let r : number_in w32 8 cell ≡ x.r = at 4 in
    let q : number_in w32 12 cell ≡ x.q = at 5 in
    let p : number_in w64 16 cell ≡ x.p = at 6 in
    let m : number_in w64 24 cell ≡ x.m = at 7 in
    let a : number_in w64 32 cell ≡ x.a = at 8 in
    let n : number_in w64 40 cell ≡ x.n = at 9 in
    record { code_is = at 0; mark_is = at 1; zeros = at 2; root_is = at 3; numbers = rw (r, q, p, m, a, n) refl; rows_is = at 10; end = at 11 }

again_at : (last first : ℕ) (cell : List ℕ) (edit : Edit) (mark : Bool) (root : Option NodeId) (rows : ℕ) → (recorded edit).code ≤ last → IsPlacedAt first edit → FitsRoot root → Holds cell (recorded edit).code (numbers_of edit) (mark_number mark) (root_number root) rows
    → (revision_record_fault last cell ≡ None) × (revision_of first cell ≡ record { edit = edit; mark = mark; root = root; rows = rows })
unfolding revision_record_fault revision_of
again_at last first cell edit mark root rows low placed fits h =
    let code = code_small edit in
    let edit_is : edit_in_bytes first cell ≡ edit = ap (λ (x : Numbers). edit_by first (command_code_in cell) (field_of x)) h.numbers ∙ ap (λ (k : ℕ). edit_by first k (field_of (numbers_of edit))) h.code_is ∙ edit_again first edit placed in
    let known : is_unknown_revision last cell ≡ false = rw (h.code_is, h.mark_is) (or_from _ _ (le-ltb _ _ code.0) (or_from _ _ (le-ltb _ _ low) (mark_again mark).0)) in
    let none : any_nonzero (unused_in_revision cell) ≡ false =
    ap (λ (x : Numbers). any_nonzero (number_in w16 2 cell ∷ number_in w32 52 cell ∷ unused (edit_by 0 (command_code_in cell) (field_of x)) (field_of x))) h.numbers
    ∙ ap (λ (k : ℕ). any_nonzero (number_in w16 2 cell ∷ number_in w32 52 cell ∷ unused (edit_by 0 k (field_of (numbers_of edit))) (field_of (numbers_of edit)))) h.code_is
    ∙ rw (h.zeros, h.end) (unused_again edit) in (
      rw (known, none) refl,
      rw (edit_is, h.mark_is, (mark_again mark).1, h.root_is, root_again root fits, h.rows_is) refl,
    )

revision_again : (version : FormatVersion) (first : ℕ) (r : Revision) → FitsAt version first r → (revision_record_fault (last_code version) (revision_spelling r) ≡ None) × (revision_of first (revision_spelling r) ≡ r)
unfolding revision_spelling
revision_again version first r is =
    let fits = is.0 in
    let fields = revision_fields r.edit r.mark r.root r.rows fits.edit fits.root fits.rows in
    again_at (last_code version) first (revision_spelling r) r.edit r.mark r.root r.rows fits.known is.1 fits.root (holds _ (recorded r.edit).code (numbers_of r.edit) (mark_number r.mark) (root_number r.root) r.rows (numbers_whole revision_layout revision_wide _ fields))

-- ---- what has no fault

-- a command reads the numbers that it is spelled with
pub record ReadsEdit (version : FormatVersion) (cell : List ℕ) (edit : Edit) : Type 0 where
  pub known : (recorded edit).code ≤ last_code version
  pub same : revision_numbers (recorded edit).code (numbers_of edit) (number_in w8 1 cell) (number_in w32 4 cell) (number_in w32 48 cell) ≡ numbers_from revision_layout 0 cell
  pub fits : FitsRecord edit

-- a field's number fits it
field_small : (cell : List ℕ) → IsBytes cell → (f : Field) → field_of (numbers_in cell) f < number_limit (place_in_record f)
field_small cell bytes R = number_in_small w32 wide32 8 cell bytes
field_small cell bytes Q = number_in_small w32 wide32 12 cell bytes
field_small cell bytes P = number_in_small w64 wide64 16 cell bytes
field_small cell bytes M = number_in_small w64 wide64 24 cell bytes
field_small cell bytes A = number_in_small w64 wide64 32 cell bytes
field_small cell bytes N = number_in_small w64 wide64 40 cell bytes

last_small : (version : FormatVersion) → last_code version ≤ MANY
last_small One = omega arith
last_small Two = omega arith

edit_back : (version : FormatVersion) (first : ℕ) (cell : List ℕ) → IsBytes cell → revision_record_fault (last_code version) cell ≡ None → ReadsEdit version cell (edit_in_bytes first cell)
unfolding revision_record_fault numbers_from
edit_back version first cell bytes none =
    let parts = else_none _ _ none in
    let kinds = or_parts _ _ (fault_if_none _ _ parts.0) in
    let last = or_parts _ _ kinds.1 in
    let zeros : any_nonzero (unused_in_revision cell) ≡ false = fault_if_none (any_nonzero (unused_in_revision cell)) NonZeroPad parts.1 in
    let others : List ℕ = unused (edit_in_bytes 0 cell) (field_of (numbers_in cell)) in
    let pad = zero_first (number_in w16 2 cell) (number_in w32 52 cell ∷ others) zeros in
    let end = zero_first (number_in w32 52 cell) others pad.1 in
    let low : command_code_in cell ≤ last_code version = ltb-false _ _ last.0 in
    let is = is_of_code first (command_code_in cell) (numbers_in cell) (ltb-false _ _ kinds.0) (omega (arith, low, last_small version)) end.1 in
    record { known = rw is.code_is low; same = ap (λ (x : Numbers). revision_numbers (recorded (edit_in_bytes first cell)).code x (number_in w8 1 cell) (number_in w32 4 cell) (number_in w32 48 cell)) is.numbers ∙ rw (is.code_is, pad.0, end.0) refl; fits = edit_fits first (command_code_in cell) (field_of (numbers_in cell)) (field_small cell bytes) }

revision_back : (version : FormatVersion) (first : ℕ) (cell : List ℕ) → length cell ≡ 56 → IsBytes cell → revision_record_fault (last_code version) cell ≡ None → FitsAt version first (revision_of first cell) × (revision_spelling (revision_of first cell) ≡ cell)
unfolding revision_spelling revision_of revision_record_fault
revision_back version first cell len bytes none =
    let e = edit_back version first cell bytes none in
    let kinds = or_parts _ _ (fault_if_none _ _ (else_none _ _ none).0) in
    let mark = mark_back (number_in w8 1 cell) (ltb-false 1 (number_in w8 1 cell) (or_parts _ _ kinds.1).1) in
    let root = root_back (number_in w32 4 cell) (number_in_small w32 wide32 4 cell bytes) in (
      (record { known = e.known; edit = e.fits; root = root.1; rows = number_in_small w32 wide32 48 cell bytes }, placed_by first (command_code_in cell) (field_of (numbers_in cell))),
      rw (mark, root.0) (ap (spelled revision_layout) e.same ∙ spelled_whole revision_layout revision_wide 56 refl cell bytes len),
    )

pub revision_record : (version : FormatVersion) (first : ℕ) → IsRecord (revision_of first) revision_spelling (revision_record_fault (last_code version)) (FitsAt version first) 56
revision_record version first = record { len = λ r fits. revision_len version r fits.0; back = revision_back version first; again = revision_again version first }

-- a revision has as many splices and rows as its record says
pub splices_read : (first : ℕ) (cell : List ℕ) → splices_of (revision_of first cell).edit ≡ splice_count_in cell
unfolding revision_of
splices_read first cell = splices_by first (command_code_in cell) (field_of (numbers_in cell))

pub rows_read : (first : ℕ) (cell : List ℕ) → (revision_of first cell).rows ≡ row_count_in cell
unfolding revision_of
rows_read first cell = refl
