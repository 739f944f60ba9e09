-- Single records: one that has no fault fits and is spelled as it was, and one that fits is read again.
use Rattle.std.proofs.Common.{lit<, ◌≡◌, ◌≢◌, ℕ, ◌^◌, ◌<◌, ◌≤◌, false, eqb, List, [], ◌∷◌, length, get_or, Option, None, refl, ap, ◌∙◌, arith, inl, inr}
use Rattle.std.specs.Prelude.{◌⊎◌}
use Rattle.std.specs.Int.{w8, w16, w32, w64}
use Rattle.std.proofs.lemmas.Bool.{or_parts, not-false, eqb-true, eqb-false, ltb-true, ltb-false, lt-ltb, cases_Bool}
use Rattle.span_certificate.specs.declared.row.Row.{Row}
use Rattle.span_certificate.specs.declared.row.RowKind.{RowKind}
use Rattle.span_certificate.specs.declared.row.RowKind.TheVariants.{Shared, Leaf, Bytes}
use Rattle.image_reader.specs.declared.fault.ReadFault.{ReadFault}
use Rattle.image_reader.specs.declared.fault.ReadFault.TheVariants.{NonZeroPad}
use Rattle.image_reader.specs.Layout.{IsBytes, spelled, number_in}
use Rattle.image_reader.specs.Value.{FitsSource, FitsKind, FitsRow}
use Rattle.image_reader.specs.Spelling.{source_layout, source_spelling, row_layout, row_numbers, row_spelling}
use Rattle.image_reader.specs.Reading.{source_of, tag_in, row_kind_of, row_of, any_nonzero, source_record_fault, unused_in_row, row_record_fault}
use Rattle.image_reader.proofs.Faults.{else_none, fault_if_none, are_zero}
use Rattle.image_reader.proofs.Fields.{AreWide, FitFields, wide8, wide16, wide32, wide64, number_in_small, numbers_from, spelled_whole, numbers_whole, length-spelled}

-- the laws of a kind of record
pub record IsRecord {X : Type 0} (of : List ℕ → X) (spell : X → List ℕ) (fault : List ℕ → Option ReadFault) (Fits : X → Type 0) (size : ℕ) : Type 0 where
  pub len : (x : X) → Fits x → length (spell x) ≡ size
  pub back : (cell : List ℕ) → length cell ≡ size → IsBytes cell → fault cell ≡ None → Fits (of cell) × (spell (of cell) ≡ cell)
  pub again : (x : X) → Fits x → (fault (spell x) ≡ None) × (of (spell x) ≡ x)

-- ---- sources

source_wide : AreWide source_layout
source_wide = (wide64, tt)

source_len : (n : ℕ) → FitsSource n → length (source_spelling n) ≡ 8
unfolding source_spelling
source_len n fits = length-spelled source_layout source_wide (n ∷ []) (omega arith, tt)

source_back : (cell : List ℕ) → length cell ≡ 8 → IsBytes cell → source_record_fault cell ≡ None → FitsSource (source_of cell) × (source_spelling (source_of cell) ≡ cell)
unfolding source_spelling source_of source_record_fault numbers_from
source_back cell len bytes none =
    let small : number_in w64 0 cell < 2 ^ 40 = ltb-true _ _ (not-false _ (fault_if_none _ _ none)) in
    (small, spelled_whole source_layout source_wide 8 refl cell bytes len)

source_again : (n : ℕ) → FitsSource n → (source_record_fault (source_spelling n) ≡ None) × (source_of (source_spelling n) ≡ n)
unfolding source_spelling source_of source_record_fault numbers_from
source_again n fits =
    let e = numbers_whole source_layout source_wide (n ∷ []) (omega arith, tt) in
    let is : number_in w64 0 (spelled source_layout (n ∷ [])) ≡ n = ap (λ (ns : List ℕ). get_or ns 0 0) e in
    (rw (is, lt-ltb n (2 ^ 40) fits) refl, is)

pub source_record : IsRecord source_of source_spelling source_record_fault FitsSource 8
source_record = record { len = source_len; back = source_back; again = source_again }

-- ---- rows

row_wide : AreWide row_layout
row_wide = (wide8, (wide8, (wide16, (wide32, (wide64, (wide64, tt))))))

row_fields : (len : ℕ) (k : RowKind) → len < 2 ^ 64 → FitsKind k → FitFields row_layout (row_numbers len k)
row_fields len (Shared k o) small fits = (lit< tt, (lit< tt, (lit< tt, (fits.0, (small, (fits.1, tt))))))
row_fields len Leaf small fits = (lit< tt, (lit< tt, (lit< tt, (lit< tt, (small, (lit< tt, tt))))))
row_fields len Bytes small fits = (lit< tt, (lit< tt, (lit< tt, (lit< tt, (small, (lit< tt, tt))))))

row_len : (r : Row) → FitsRow r → length (row_spelling r) ≡ 24
unfolding row_spelling
row_len r fits = length-spelled row_layout row_wide (row_numbers r.len r.kind) (row_fields r.len r.kind fits.len fits.kind)

-- the tag of a row without a fault
tag_cases : (tag : ℕ) → 1 ≤ tag → tag ≤ 3 → (tag ≡ 1) ⊎ ((tag ≡ 2) ⊎ (tag ≡ 3))
tag_cases tag low high =
    elim (cases_Bool (eqb tag 1)) [
      | inl one ↦ inl (eqb-true _ _ one)
      | inr other ↦ elim (cases_Bool (eqb tag 2)) [
        | inl two ↦ inr (inl (eqb-true _ _ two))
        | inr third ↦ let a : tag ≢ 1 = eqb-false _ _ other in let b : tag ≢ 2 = eqb-false _ _ third in inr (inr (omega arith))
      ]
    ]

-- a row reads the numbers that it is spelled with
pub record ReadsRow (cell : List ℕ) (kind : RowKind) : Type 0 where
  pub same : row_numbers (number_in w64 8 cell) kind ≡ numbers_from row_layout 0 cell
  pub fits : FitsKind kind

reads_row : (cell : List ℕ) → IsBytes cell → row_record_fault cell ≡ None → ReadsRow cell (row_kind_of cell)
unfolding row_record_fault numbers_from
reads_row cell bytes none =
    let parts = else_none _ _ none in
    let kinds = or_parts _ _ (fault_if_none _ _ parts.0) in
    let unused : any_nonzero (unused_in_row cell) ≡ false = fault_if_none (any_nonzero (unused_in_row cell)) NonZeroPad parts.1 in
    elim (tag_cases (tag_in cell) (ltb-false _ _ kinds.0) (ltb-false _ _ kinds.1)) [
      | inl is ↦
          let z = are_zero (number_in w8 1 cell ∷ number_in w16 2 cell ∷ []) (rw is at unused) in
          rw is (record { same = rw (is, z.0, z.1.0) refl; fits = (number_in_small w32 wide32 4 cell bytes, number_in_small w64 wide64 16 cell bytes) })
      | inr (inl is) ↦
          let z = are_zero (number_in w8 1 cell ∷ number_in w16 2 cell ∷ number_in w32 4 cell ∷ number_in w64 16 cell ∷ []) (rw is at unused) in
          rw is (record { same = rw (is, z.0, z.1.0, z.1.1.0, z.1.1.1.0) refl; fits = tt })
      | inr (inr is) ↦
          let z = are_zero (number_in w8 1 cell ∷ number_in w16 2 cell ∷ number_in w32 4 cell ∷ number_in w64 16 cell ∷ []) (rw is at unused) in
          rw is (record { same = rw (is, z.0, z.1.0, z.1.1.0, z.1.1.1.0) refl; fits = tt })
    ]

row_back : (cell : List ℕ) → length cell ≡ 24 → IsBytes cell → row_record_fault cell ≡ None → FitsRow (row_of cell) × (row_spelling (row_of cell) ≡ cell)
unfolding row_spelling row_of
row_back cell len bytes none =
    let reads = reads_row cell bytes none in
    (record { len = number_in_small w64 wide64 8 cell bytes; kind = reads.fits }, ap (spelled row_layout) reads.same ∙ spelled_whole row_layout row_wide 24 refl cell bytes len)

row_again_at : (cell : List ℕ) (len : ℕ) (kind : RowKind) → numbers_from row_layout 0 cell ≡ row_numbers len kind → (row_record_fault cell ≡ None) × (row_of cell ≡ record { len = len; kind = kind })
unfolding row_of row_record_fault numbers_from
row_again_at cell len (Shared k o) e =
    let at : (i : ℕ) → get_or (numbers_from row_layout 0 cell) i 0 ≡ get_or (row_numbers len (Shared k o)) i 0 = λ i. ap (λ (ns : List ℕ). get_or ns i 0) e in
    let tag : tag_in cell ≡ 1 = at 0 in
    let u1 : number_in w8 1 cell ≡ 0 = at 1 in
    let u2 : number_in w16 2 cell ≡ 0 = at 2 in
    let node : number_in w32 4 cell ≡ k.0 = at 3 in
    let len_is : number_in w64 8 cell ≡ len = at 4 in
    let off : number_in w64 16 cell ≡ o = at 5 in
    (rw (tag, u1, u2) refl, rw (tag, len_is, node, off) refl)
row_again_at cell len Leaf e =
    let at : (i : ℕ) → get_or (numbers_from row_layout 0 cell) i 0 ≡ get_or (row_numbers len Leaf) i 0 = λ i. ap (λ (ns : List ℕ). get_or ns i 0) e in
    let tag : tag_in cell ≡ 2 = at 0 in
    let u1 : number_in w8 1 cell ≡ 0 = at 1 in
    let u2 : number_in w16 2 cell ≡ 0 = at 2 in
    let u3 : number_in w32 4 cell ≡ 0 = at 3 in
    let len_is : number_in w64 8 cell ≡ len = at 4 in
    let u5 : number_in w64 16 cell ≡ 0 = at 5 in
    (rw (tag, u1, u2, u3, u5) refl, rw (tag, len_is) refl)
row_again_at cell len Bytes e =
    let at : (i : ℕ) → get_or (numbers_from row_layout 0 cell) i 0 ≡ get_or (row_numbers len Bytes) i 0 = λ i. ap (λ (ns : List ℕ). get_or ns i 0) e in
    let tag : tag_in cell ≡ 3 = at 0 in
    let u1 : number_in w8 1 cell ≡ 0 = at 1 in
    let u2 : number_in w16 2 cell ≡ 0 = at 2 in
    let u3 : number_in w32 4 cell ≡ 0 = at 3 in
    let len_is : number_in w64 8 cell ≡ len = at 4 in
    let u5 : number_in w64 16 cell ≡ 0 = at 5 in
    (rw (tag, u1, u2, u3, u5) refl, rw (tag, len_is) refl)

row_again : (r : Row) → FitsRow r → (row_record_fault (row_spelling r) ≡ None) × (row_of (row_spelling r) ≡ r)
unfolding row_spelling
row_again r fits =
    row_again_at (row_spelling r) r.len r.kind (numbers_whole row_layout row_wide (row_numbers r.len r.kind) (row_fields r.len r.kind fits.len fits.kind))

pub row_record : IsRecord row_of row_spelling row_record_fault FitsRow 24
row_record = record { len = row_len; back = row_back; again = row_again }
