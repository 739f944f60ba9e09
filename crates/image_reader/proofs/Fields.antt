-- Fields of fixed widths: what is read is spelled so, and what is spelled is read again.
use Rattle.std.proofs.Common.{◌≡◌, ℕ, ◌+◌, ◌^◌, ◌%◌, ◌<◌, ◌≤◌, List, [], ◌∷◌, ◌++◌, length, get_or, take, drop, refl, sym, ap, ◌∙◌, append_assoc, arith, inl, inr}
use Rattle.std.specs.Int.{Width, w8, w16, w32, w64, byte_len, from_be_bytes, to_be_bytes}
use Rattle.std.proofs.lemmas.Bool.{cases_lt}
use Rattle.std.proofs.lemmas.List.{take_at, drop_at, take_all, append-nil, drop-drop, length-append, length-take, length-drop, get_or-drop, get_or-take, get_or_past}
use Rattle.std.proofs.lemmas.Nat.{be_bytes_2, be_bytes_4, be_bytes_8, from_be_bytes-to_be_bytes_2, from_be_bytes-to_be_bytes_4, from_be_bytes-to_be_bytes_8}
use Rattle.std.proofs.Math.Nat.{mod-eq_of_lt}
use Rattle.std.proofs.Math.Seq.{take-add}
use Rattle.image_reader.specs.Layout.{IsBytes, spelled, number_in}

pub IsBytes-drop : (n : ℕ) (bytes : List ℕ) → IsBytes bytes → IsBytes (drop n bytes)
IsBytes-drop n bytes h i = rw get_or-drop (h (n + i))

pub IsBytes-take : (n : ℕ) (bytes : List ℕ) → IsBytes bytes → IsBytes (take n bytes)
IsBytes-take n bytes h i =
    elim (cases_lt i n) [
      | inl lt ↦ rw (get_or-take n bytes i 0 lt) (h i)
      | inr le ↦ rw (get_or_past (take n bytes) i 0 (omega (arith, length-take n bytes))) (omega arith)
    ]

-- ---- one number

pub record IsWide (w : Width) : Type 0 where
  pub len : (n : ℕ) → length (to_be_bytes w n) ≡ byte_len w
  pub back : (bytes : List ℕ) → length bytes ≡ byte_len w → IsBytes bytes → to_be_bytes w (from_be_bytes w bytes) ≡ bytes
  pub again : (n : ℕ) → n < 256 ^ byte_len w → from_be_bytes w (to_be_bytes w n) ≡ n
  pub below : (bytes : List ℕ) → IsBytes bytes → from_be_bytes w bytes < 256 ^ byte_len w

one_back : (bytes : List ℕ) → length bytes ≡ 1 → IsBytes bytes → (get_or bytes 0 0 % 256) ∷ [] ≡ bytes
one_back [] e h = absurd cc
one_back (b ∷ []) e h = ap (λ (x : ℕ). x ∷ []) (mod-eq_of_lt (h 0))
one_back (b ∷ c ∷ bs) e h = absurd (omega (arith, e))

pub wide8 : IsWide w8
wide8 = record {
  len = λ n. refl;
  back = λ bytes len fits. one_back bytes len fits;
  again = λ n lt. mod-eq_of_lt lt;
  below = λ bytes fits. fits 0;
}

pub wide16 : IsWide w16
wide16 = record {
  len = λ n. refl;
  back = λ bytes len fits. be_bytes_2 bytes _ len fits refl;
  again = λ n lt. from_be_bytes-to_be_bytes_2 n lt;
  below = λ bytes fits. omega (arith, fits 0, fits 1);
}

pub wide32 : IsWide w32
wide32 = record {
  len = λ n. refl;
  back = λ bytes len fits. be_bytes_4 bytes _ len fits refl;
  again = λ n lt. from_be_bytes-to_be_bytes_4 n lt;
  below = λ bytes fits. omega (arith, fits 0, fits 1, fits 2, fits 3);
}

pub wide64 : IsWide w64
wide64 = record {
  len = λ n. refl;
  back = λ bytes len fits. be_bytes_8 bytes _ len fits refl;
  again = λ n lt. from_be_bytes-to_be_bytes_8 n lt;
  below = λ bytes fits. omega (arith, fits 0, fits 1, fits 2, fits 3, fits 4, fits 5, fits 6, fits 7);
}

pub number_in_small : (w : Width) → IsWide w → (at : ℕ) (bytes : List ℕ) → IsBytes bytes → number_in w at bytes < 256 ^ byte_len w
unfolding number_in
number_in_small w wide at bytes h = wide.below (take (byte_len w) (drop at bytes)) (IsBytes-take (byte_len w) (drop at bytes) (IsBytes-drop at bytes h))

-- ---- fields in a row

abbrev pub AreWide : List Width → Type 0
AreWide [] = Unit {0}
AreWide (w ∷ ws) = IsWide w × AreWide ws

abbrev pub layout_len : List Width → ℕ
layout_len [] = 0
layout_len (w ∷ ws) = byte_len w + layout_len ws

-- the numbers that stand one after the other from a place on
unfoldable pub numbers_from : List Width → ℕ → List ℕ → List ℕ
numbers_from [] at bytes = []
numbers_from (w ∷ ws) at bytes = number_in w at bytes ∷ numbers_from ws (at + byte_len w) bytes

-- each number fits its field
abbrev pub FitFields : List Width → List ℕ → Type 0
FitFields [] [] = Unit {0}
FitFields [] (n ∷ ns) = ⊥
FitFields (w ∷ ws) [] = ⊥
FitFields (w ∷ ws) (n ∷ ns) = (n < 256 ^ byte_len w) × FitFields ws ns

pub spelled_back : (ws : List Width) → AreWide ws → (at : ℕ) (bytes : List ℕ) → IsBytes bytes → at + layout_len ws ≤ length bytes → spelled ws (numbers_from ws at bytes) ≡ take (layout_len ws) (drop at bytes)
unfolding spelled numbers_from number_in
spelled_back [] wide at bytes h fits = refl
spelled_back (w ∷ ws) wide at bytes h fits =
    let len : length (take (byte_len w) (drop at bytes)) ≡ byte_len w = omega (arith, length-take (byte_len w) (drop at bytes), length-drop at bytes) in
    let first : to_be_bytes w (from_be_bytes w (take (byte_len w) (drop at bytes))) ≡ take (byte_len w) (drop at bytes) = wide.0.back _ len (IsBytes-take (byte_len w) (drop at bytes) (IsBytes-drop at bytes h)) in
    let others : spelled ws (numbers_from ws (at + byte_len w) bytes) ≡ take (layout_len ws) (drop (at + byte_len w) bytes) = spelled_back ws wide.1 (at + byte_len w) bytes h (omega arith) in
    rw (first, others) (sym (take-add (byte_len w) (layout_len ws) (drop at bytes) ∙ ap (λ (xs : List ℕ). take (byte_len w) (drop at bytes) ++ take (layout_len ws) xs) (drop-drop (byte_len w) at bytes)))

pub length-spelled : (ws : List Width) → AreWide ws → (ns : List ℕ) → FitFields ws ns → length (spelled ws ns) ≡ layout_len ws
unfolding spelled
length-spelled [] wide ns fit = refl
length-spelled (w ∷ ws) wide [] fit = absurd fit
length-spelled (w ∷ ws) wide (n ∷ ns) fit = rw (length-append, wide.0.len n, length-spelled ws wide.1 ns fit.1) refl

pub spelled_again : (ws : List Width) → AreWide ws → (ns : List ℕ) → FitFields ws ns → (front rest : List ℕ) (at : ℕ) → length front ≡ at → numbers_from ws at (front ++ (spelled ws ns ++ rest)) ≡ ns
unfolding spelled numbers_from number_in
spelled_again [] wide [] fit front rest at e = refl
spelled_again [] wide (n ∷ ns) fit front rest at e = absurd fit
spelled_again (w ∷ ws) wide [] fit front rest at e = absurd fit
spelled_again (w ∷ ws) wide (n ∷ ns) fit front rest at e =
    let bytes : List ℕ = front ++ ((to_be_bytes w n ++ spelled ws ns) ++ rest) in
    let behind : drop at bytes ≡ to_be_bytes w n ++ (spelled ws ns ++ rest) = drop_at front _ at e ∙ append_assoc (to_be_bytes w n) (spelled ws ns) rest in
    let first : from_be_bytes w (take (byte_len w) (drop at bytes)) ≡ n = ap (λ (xs : List ℕ). from_be_bytes w (take (byte_len w) xs)) behind ∙ ap (from_be_bytes w) (take_at (to_be_bytes w n) (spelled ws ns ++ rest) (byte_len w) (wide.0.len n)) ∙ wide.0.again n fit.0 in
    let regrouped : bytes ≡ (front ++ to_be_bytes w n) ++ (spelled ws ns ++ rest) = ap (λ (xs : List ℕ). front ++ xs) (append_assoc (to_be_bytes w n) (spelled ws ns) rest) ∙ sym (append_assoc front (to_be_bytes w n) (spelled ws ns ++ rest)) in
    let others : numbers_from ws (at + byte_len w) bytes ≡ ns =
    ap (numbers_from ws (at + byte_len w)) regrouped ∙ spelled_again ws wide.1 ns fit.1 (front ++ to_be_bytes w n) rest (at + byte_len w) (rw (length-append, wide.0.len n, e) refl) in
    rw (first, others) refl

-- a record that is just its fields
pub spelled_whole : (ws : List Width) → AreWide ws → (size : ℕ) → layout_len ws ≡ size → (bytes : List ℕ) → IsBytes bytes → length bytes ≡ size → spelled ws (numbers_from ws 0 bytes) ≡ bytes
spelled_whole ws wide size is bytes h len = spelled_back ws wide 0 bytes h (omega arith) ∙ take_all (layout_len ws) bytes (omega arith)

pub numbers_whole : (ws : List Width) → AreWide ws → (ns : List ℕ) → FitFields ws ns → numbers_from ws 0 (spelled ws ns) ≡ ns
numbers_whole ws wide ns fit = ap (numbers_from ws 0) (sym (append-nil (spelled ws ns))) ∙ spelled_again ws wide ns fit [] [] 0 refl
