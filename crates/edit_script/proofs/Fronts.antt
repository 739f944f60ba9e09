-- Words in plain bytes, and numbers among them.
use Rattle.std.proofs.Common.{◌≡◌, ℕ, suc, ◌+◌, ◌^◌, ◌<◌, ◌≤◌, true, false, not, cond, ltb, List, [], ◌∷◌, ◌++◌, length, Some, None, refl, sym, ap, subst, arith, inl, inr}
use Rattle.std.specs.List.{list_all, position_or_len}
use Rattle.std.specs.Int.{IsInRange}
use Rattle.std.specs.Str.{all_ascii_digits}
use Rattle.std.specs.Str.Parse.{IsNumeral, digits_value, AllDigits}
use Rattle.std.proofs.lemmas.Bool.{cases_Bool, and_parts, and_from, not_from_false, ne_eqb, lt-ltb, ltb-true}
use Rattle.std.proofs.lemmas.List.{take_at, drop_at, take-append-drop}
use Rattle.std.proofs.lemmas.Str.Parse.{digit_from_value}
use Rattle.edit_script.specs.Words.{Number, BeginsWith, IsBehindWord, ends_word, behind_blanks}
use Rattle.edit_script.specs.Reading.{front_word, behind_front, is_numeral, numeral, number_at, number_below}
use Rattle.edit_script.proofs.Choices.{passed, bind_some, some_is}
use Rattle.edit_script.proofs.Numbers.{digits_model}

-- none of these ends a word
abbrev pub IsFront : List ℕ → Type 0
IsFront text = list_all (λ b. not (ends_word b)) text ≡ true

front_len_is : (text rest : List ℕ) → IsFront text → IsBehindWord rest → position_or_len ends_word (text ++ rest) ≡ length text
front_len_is [] [] plain ends = refl
front_len_is [] (b ∷ bs) plain ends = rw ends refl
front_len_is (c ∷ text) rest plain ends =
    let p = and_parts (not (ends_word c)) (list_all (λ b. not (ends_word b)) text) plain in
    rw p.0 (omega (arith, front_len_is text rest p.1 ends))

pub front_is : (text rest : List ℕ) → IsFront text → IsBehindWord rest → front_word (text ++ rest) ≡ text
front_is text rest plain ends = rw (front_len_is text rest plain ends) (take_at text rest (length text) refl)

pub behind_front_is : (text rest : List ℕ) → IsFront text → IsBehindWord rest → behind_front (text ++ rest) ≡ rest
behind_front_is text rest plain ends = rw (front_len_is text rest plain ends) (drop_at text rest (length text) refl)

pub front_parts : (t : List ℕ) → t ≡ front_word t ++ behind_front t
front_parts t = sym (take-append-drop (position_or_len ends_word t) t)

pub behind_front_ends : (t : List ℕ) → IsBehindWord (behind_front t)
behind_front_ends [] = tt
behind_front_ends (c ∷ t) =
    elim (cases_Bool (ends_word c)) [
      | inl e ↦ rw e e
      | inr e ↦
          let k : 1 + position_or_len ends_word t ≡ suc (position_or_len ends_word t) = omega arith in
          rw (e, k) (behind_front_ends t)
    ]

pub digit_is_no_end : (c : ℕ) → IsInRange 48 57 c → ends_word c ≡ false
digit_is_no_end c r = rw (ne_eqb c 32 (λ e. omega arith), ne_eqb c 9 (λ e. omega arith), ne_eqb c 13 (λ e. omega arith), ne_eqb c 35 (λ e. omega arith)) refl

pub digits_front : (text : List ℕ) → AllDigits 10 text → IsFront text
digits_front [] h = refl
digits_front (c ∷ cs) h = and_from _ _ (not_from_false _ (digit_is_no_end c (digit_from_value c h.0))) (digits_front cs h.1)

numeral_is : (text : List ℕ) (n : ℕ) → numeral text ≡ Some n → IsNumeral 10 text × (digits_value 10 text ≡ n) × (n < 2 ^ 64)
numeral_is text n e =
    let p = passed _ (digits_value 10 text) n e in
    let q = and_parts (is_numeral text) (ltb (digits_value 10 text) (2 ^ 64)) p.0 in
    let r = and_parts (ltb 0 (length text)) (all_ascii_digits text) q.0 in
    let some : 0 < length text = ltb-true 0 (length text) r.0 in
    ((some, digits_model.to text r.1), p.1, subst (λ (m : ℕ). m < 2 ^ 64) p.1 (ltb-true _ _ q.1))

numeral_again : (text : List ℕ) (n : ℕ) → IsNumeral 10 text → digits_value 10 text ≡ n → n < 2 ^ 64 → numeral text ≡ Some n
numeral_again text n is value small =
    let digits = digits_model.from text is.1 in
    let here : is_numeral text ≡ true = and_from (ltb 0 (length text)) (all_ascii_digits text) (lt-ltb _ _ is.0) digits in
    let below : ltb (digits_value 10 text) (2 ^ 64) ≡ true = lt-ltb _ _ (subst (λ (m : ℕ). m < 2 ^ 64) (sym value) small) in
    rw (and_from (is_numeral text) (ltb (digits_value 10 text) (2 ^ 64)) here below) (ap Some value)

-- a number that is read stands there
pub number_back : (line : List ℕ) (x : ℕ × List ℕ) → number_at line ≡ Some x → BeginsWith line (Number x.0) x.1 × (x.0 < 2 ^ 64)
number_back line x e =
    let t = behind_blanks line in
    let n = bind_some (numeral (front_word t)) (λ n. Some (n, behind_front t)) x e in
    let is = numeral_is (front_word t) n.0 n.1 in
    let made : ℕ × List ℕ = (n.0, behind_front t) in
    subst (λ (y : ℕ × List ℕ). BeginsWith line (Number y.0) y.1 × (y.0 < 2 ^ 64)) (some_is made x n.2)
    (record { text = front_word t; spelled = (is.0, is.1); parts = front_parts t; ends = behind_front_ends t }, is.2)

-- a number that stands there is read
pub number_again : (line : List ℕ) (n : ℕ) (rest : List ℕ) → BeginsWith line (Number n) rest → n < 2 ^ 64 → number_at line ≡ Some (n, rest)
number_again line n rest b small =
    let plain = digits_front b.text b.spelled.0.1 in
    rw (b.parts, front_is b.text rest plain b.ends, behind_front_is b.text rest plain b.ends, numeral_again b.text n b.spelled.0 b.spelled.1 small) refl

pub below_back : (limit : ℕ) (line : List ℕ) (x : ℕ × List ℕ) → number_below limit line ≡ Some x → BeginsWith line (Number x.0) x.1 × (x.0 < limit)
below_back limit line x e =
    let y = bind_some (number_at line) (λ y. cond (ltb y.0 limit) (Some y) None) x e in
    let p = passed (ltb y.0.0 limit) y.0 x y.2 in
    subst (λ (z : ℕ × List ℕ). BeginsWith line (Number z.0) z.1 × (z.0 < limit)) p.1 ((number_back line y.0 y.1).0, ltb-true _ _ p.0)

pub below_again : (limit : ℕ) (line : List ℕ) (n : ℕ) (rest : List ℕ) → limit ≤ 2 ^ 64 → BeginsWith line (Number n) rest → n < limit → number_below limit line ≡ Some (n, rest)
below_again limit line n rest few b small = rw (number_again line n rest b (omega arith), lt-ltb n limit small) refl
