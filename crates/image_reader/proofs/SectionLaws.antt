-- Sections: one whose records have no fault is spelled as it was, and one that is spelled is read again.
use Rattle.std.proofs.Common.{◌≡◌, ℕ, zero, suc, ◌*◌, ◌≤◌, List, [], ◌∷◌, ◌++◌, length, map, take, drop, Option, None, refl, sym, ap, ◌∙◌, append_assoc, arith}
use Rattle.std.specs.List.{flat_map, AllByRecursion}
use Rattle.std.proofs.Math.Nat.{mul-suc, mul-zero}
use Rattle.std.proofs.lemmas.List.{take_at, drop_at, take-append-drop, drop-drop, length-take, length-drop}
use Rattle.image_reader.specs.declared.fault.ReadFault.{ReadFault}
use Rattle.image_reader.specs.Layout.{IsBytes, records}
use Rattle.image_reader.specs.Reading.{first_fault}
use Rattle.image_reader.proofs.Faults.{else_none}
use Rattle.image_reader.proofs.Fields.{IsBytes-drop, IsBytes-take}
use Rattle.image_reader.proofs.RecordLaws.{IsRecord}

pub section_back : {X : Type 0} (of : List ℕ → X) (spell : X → List ℕ) (fault : List ℕ → Option ReadFault) (Fits : X → Type 0) (size : ℕ) → IsRecord of spell fault Fits size → (n : ℕ) (bytes : List ℕ) → size * n ≤ length bytes → IsBytes bytes → first_fault fault (records size n bytes) ≡ None
    → AllByRecursion Fits (map of (records size n bytes)) × (bytes ≡ flat_map spell (map of (records size n bytes)) ++ drop (size * n) bytes)
unfolding records first_fault
section_back of spell fault Fits size laws zero bytes enough h none = (tt, rw mul-zero refl)
section_back of spell fault Fits size laws (suc n) bytes enough h none =
    let parts = else_none _ _ none in
    let room = rw mul-suc at enough in
    let len : length (take size bytes) ≡ size = omega (arith, length-take size bytes) in
    let first = laws.back (take size bytes) len (IsBytes-take size bytes h) parts.0 in
    let others = section_back of spell fault Fits size laws n (drop size bytes) (omega (arith, length-drop size bytes)) (IsBytes-drop size bytes h) parts.1 in
    let behind : drop (size * n) (drop size bytes) ≡ drop (size * suc n) bytes = drop-drop (size * n) size bytes ∙ ap (λ (k : ℕ). drop k bytes) (rw mul-suc (omega arith)) in (
      (first.0, others.0),
      sym (take-append-drop size bytes)
          ∙ ap (λ (xs : List ℕ). xs ++ drop size bytes) (sym first.1)
          ∙ ap (λ (xs : List ℕ). spell (of (take size bytes)) ++ xs) (others.1 ∙ ap (λ (xs : List ℕ). flat_map spell (map of (records size n (drop size bytes))) ++ xs) behind)
          ∙ sym (append_assoc (spell (of (take size bytes))) (flat_map spell (map of (records size n (drop size bytes)))) (drop (size * suc n) bytes)),
    )

-- a section that spells these
pub record Spells {X : Type 0} (of : List ℕ → X) (fault : List ℕ → Option ReadFault) (size : ℕ) (xs : List X) (bytes rest : List ℕ) : Type 0 where
  pub sound : first_fault fault (records size (length xs) bytes) ≡ None
  pub same : map of (records size (length xs) bytes) ≡ xs
  pub behind : drop (size * length xs) bytes ≡ rest

pub section_again : {X : Type 0} (of : List ℕ → X) (spell : X → List ℕ) (fault : List ℕ → Option ReadFault) (Fits : X → Type 0) (size : ℕ) → IsRecord of spell fault Fits size → (xs : List X) (rest : List ℕ) → AllByRecursion Fits xs → Spells of fault size xs (flat_map spell xs ++ rest) rest
unfolding records first_fault
section_again of spell fault Fits size laws [] rest fits = record { sound = refl; same = refl; behind = rw mul-zero refl }
section_again of spell fault Fits size laws (x ∷ xs) rest fits =
    let bytes : List ℕ = (spell x ++ flat_map spell xs) ++ rest in
    let regrouped : bytes ≡ spell x ++ (flat_map spell xs ++ rest) = append_assoc (spell x) (flat_map spell xs) rest in
    let len = laws.len x fits.0 in
    let front : take size bytes ≡ spell x = ap (take size) regrouped ∙ take_at (spell x) (flat_map spell xs ++ rest) size len in
    let after : drop size bytes ≡ flat_map spell xs ++ rest = ap (drop size) regrouped ∙ drop_at (spell x) (flat_map spell xs ++ rest) size len in
    let first = laws.again x fits.0 in
    let others = section_again of spell fault Fits size laws xs rest fits.1 in
    record {
      sound = rw (front, after, first.0) others.sound;
      same = rw (front, after, first.1, others.same) refl;
      behind = ap (λ (k : ℕ). drop k bytes) (rw mul-suc (omega arith)) ∙ sym (drop-drop (size * length xs) size bytes) ∙ ap (drop (size * length xs)) after ∙ others.behind;
    }
