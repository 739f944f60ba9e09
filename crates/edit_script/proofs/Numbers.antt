-- What a line's digits write.
use Rattle.std.proofs.Common.{◌≡◌, ℕ, zero, suc, ◌+◌, ◌*◌, ◌-◌, ◌^◌, ◌<◌, ◌≤◌, Bool, true, false, ltb, eqb, ◌&&◌, List, [], ◌∷◌, length, take, get_or, Some, None, refl, sym, ap, arith, inl, inr}
use Rattle.std.specs.List.{list_all}
use Rattle.std.specs.Char.{is_ascii_digit}
use Rattle.std.specs.Int.{IsInRange}
use Rattle.std.specs.Str.{all_ascii_digits}
use Rattle.std.specs.Str.Parse.{digits_value}
use Rattle.std.proofs.lemmas.Bool.{cases_lt, eqb-false, and_parts, lt-ltb, le-ltb}
use Rattle.std.proofs.lemmas.Int.Digits.{digits_value_more}
use Rattle.std.proofs.lemmas.List.Recursion.{same_from_clauses}
use Rattle.std.proofs.lemmas.Str.{digit_value_digit}
use Rattle.std.proofs.lemmas.Str.Parse.{IsNumeralModel, numerals_by_value, tells_all_ascii_digits, digits_value-take-le}
use Rattle.edit_script.specs.Reading.{is_numeral, numeral}

pub digits_model : IsNumeralModel (λ ds. all_ascii_digits ds ≡ true) (digits_value 10)
digits_model = numerals_by_value _ tells_all_ascii_digits

pub all_digits_is : (ds : List ℕ) → list_all is_ascii_digit ds ≡ all_ascii_digits ds
all_digits_is = same_from_clauses (list_all is_ascii_digit) all_ascii_digits (λ x r. is_ascii_digit x && r) refl (λ _ _. refl) (λ _ _. refl)

digit_at : (ds : List ℕ) (i : ℕ) → i < length ds → all_ascii_digits ds ≡ true → IsInRange 48 57 (get_or ds i 0)
digit_at [] i lt h = absurd (omega (arith, lt))
digit_at (c ∷ cs) zero lt h = (tells_all_ascii_digits.parts c cs h).0
digit_at (c ∷ cs) (suc i) lt h = digit_at cs i (omega (arith, lt)) (tells_all_ascii_digits.parts c cs h).1

-- the number of the digits up to one more
pub one_digit_more : (text : List ℕ) (i n d : ℕ) → is_numeral text ≡ true → i < length text → n ≡ digits_value 10 (take i text) → d + 48 ≡ get_or text i 0 → n * 10 + d ≡ digits_value 10 (take (i + 1) text)
one_digit_more text i n d is lt e at =
    let digits = (and_parts (ltb 0 (length text)) (all_ascii_digits text) is).1 in
    omega (arith, e, at, digits_value_more 10 text i lt, digit_value_digit (get_or text i 0) (digit_at text i lt digits))

pub a_digit : (text : List ℕ) (i : ℕ) → is_numeral text ≡ true → i < length text → IsInRange 48 57 (get_or text i 0)
a_digit text i is lt = digit_at text i lt (and_parts (ltb 0 (length text)) (all_ascii_digits text) is).1

pub numeral_small : (text : List ℕ) (n : ℕ) → is_numeral text ≡ true → n ≡ digits_value 10 text → n < 2 ^ 64 → Some n ≡ numeral text
numeral_small text n is e small =
    let short : ltb (digits_value 10 text) (2 ^ 64) ≡ true = lt-ltb _ _ (omega (arith, e, small)) in
    rw (is, short) (ap Some e)

-- digits whose first ones write too large a number
numeral_large : (text : List ℕ) (k : ℕ) → is_numeral text ≡ true → 2 ^ 64 ≤ digits_value 10 (take k text) → None ≡ numeral text
numeral_large text k is large =
    let long : ltb (digits_value 10 text) (2 ^ 64) ≡ false = le-ltb _ _ (omega (arith, large, digits_value-take-le 10 text k (omega arith))) in
    rw (is, long) refl

-- with the next digit they write too large a number
pub numeral_over : (text : List ℕ) (i n : ℕ) → is_numeral text ≡ true → i < length text → n ≡ digits_value 10 (take i text) → (n * 10 + (get_or text i 0 - 48) < 2 ^ 64 → ⊥) → None ≡ numeral text
numeral_over text i n is lt e over =
    let digit = get_or text i 0 - 48 in
    let more : n * 10 + digit ≡ digits_value 10 (take (i + 1) text) = one_digit_more text i n digit is lt e (omega (arith, a_digit text i is lt)) in
    elim (cases_lt (n * 10 + digit) (2 ^ 64)) [
      | inl small ↦ absurd (over small)
      | inr large ↦ numeral_large text (i + 1) is (omega (arith, large, more))
    ]

pub numeral_none : (text : List ℕ) → is_numeral text ≡ false → None ≡ numeral text
numeral_none text e = rw e refl

pub numeral_some : (text : List ℕ) (b : Bool) → false ≡ eqb (length text) 0 → b ≡ all_ascii_digits text → b ≡ is_numeral text
numeral_some text b e is =
    let some : ltb 0 (length text) ≡ true = lt-ltb 0 _ (omega (arith, eqb-false (length text) 0 (sym e))) in
    rw (is, some) refl
