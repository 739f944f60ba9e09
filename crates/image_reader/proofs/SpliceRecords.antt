-- Splices: four numbers each, of which none can be at fault.
use Rattle.std.proofs.Common.{◌≡◌, ℕ, ◌<◌, ◌^◌, List, [], ◌∷◌, length, get_or, Option, None, refl, ap}
use Rattle.std.specs.Int.{w64}
use Rattle.command_parts.specs.declared.edit.Splice.{Splice}
use Rattle.image_reader.specs.declared.fault.ReadFault.{ReadFault}
use Rattle.image_reader.specs.Layout.{IsBytes, spelled, number_in}
use Rattle.image_reader.specs.Value.{FitsSplice}
use Rattle.image_reader.specs.Spelling.{splice_layout, splice_spelling}
use Rattle.image_reader.specs.Reading.{splice_of, first_fault}
use Rattle.image_reader.proofs.Fields.{AreWide, FitFields, wide64, number_in_small, numbers_from, spelled_whole, numbers_whole, length-spelled}
use Rattle.image_reader.proofs.RecordLaws.{IsRecord}

splice_wide : AreWide splice_layout
splice_wide = (wide64, (wide64, (wide64, (wide64, tt))))

splice_fields : (x : Splice) → FitsSplice x → FitFields splice_layout (x.p ∷ x.m ∷ x.a ∷ x.n ∷ [])
splice_fields x fits = (fits.p, (fits.m, (fits.a, (fits.n, tt))))

splice_len : (x : Splice) → FitsSplice x → length (splice_spelling x) ≡ 32
unfolding splice_spelling
splice_len x fits = length-spelled splice_layout splice_wide (x.p ∷ x.m ∷ x.a ∷ x.n ∷ []) (splice_fields x fits)

abbrev pub no_fault : List ℕ → Option ReadFault
no_fault bytes = None

splice_back : (cell : List ℕ) → length cell ≡ 32 → IsBytes cell → no_fault cell ≡ None → FitsSplice (splice_of cell) × (splice_spelling (splice_of cell) ≡ cell)
unfolding splice_spelling splice_of numbers_from
splice_back cell len bytes none =
    let small : (at : ℕ) → number_in w64 at cell < 256 ^ 8 = λ at. number_in_small w64 wide64 at cell bytes in
    (record { p = small 0; m = small 8; a = small 16; n = small 24 }, spelled_whole splice_layout splice_wide 32 refl cell bytes len)

splice_again : (x : Splice) → FitsSplice x → (no_fault (splice_spelling x) ≡ None) × (splice_of (splice_spelling x) ≡ x)
unfolding splice_spelling splice_of numbers_from
splice_again x fits =
    let e = numbers_whole splice_layout splice_wide (x.p ∷ x.m ∷ x.a ∷ x.n ∷ []) (splice_fields x fits) in
    let cell = spelled splice_layout (x.p ∷ x.m ∷ x.a ∷ x.n ∷ []) in
    let at : (i : ℕ) → get_or (numbers_from splice_layout 0 cell) i 0 ≡ get_or (x.p ∷ x.m ∷ x.a ∷ x.n ∷ []) i 0 = λ i. ap (λ (ns : List ℕ). get_or ns i 0) e in
    let p : number_in w64 0 cell ≡ x.p = at 0 in
    let m : number_in w64 8 cell ≡ x.m = at 1 in
    let a : number_in w64 16 cell ≡ x.a = at 2 in
    let n : number_in w64 24 cell ≡ x.n = at 3 in
    (refl, rw (p, m, a, n) refl)

pub splice_record : IsRecord splice_of splice_spelling no_fault FitsSplice 32
splice_record = record { len = splice_len; back = splice_back; again = splice_again }

pub none_at_fault : (cells : List (List ℕ)) → first_fault no_fault cells ≡ None
unfolding first_fault
none_at_fault [] = refl
none_at_fault (x ∷ xs) = none_at_fault xs
