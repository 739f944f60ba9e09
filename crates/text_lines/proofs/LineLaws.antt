-- What tells where the lines of a text begin and end.
use Rattle.std.proofs.Common.{◌≡◌, ℕ, zero, suc, ◌+◌, ◌-◌, ◌<◌, ◌≤◌, List, [], ◌∷◌, length, take, drop, get_or, Option, Some, None, true, false, refl, sym, ap, arith, ◌∙◌, not, min, nat_lt, unwrap_or}
use Rattle.std.proofs.lemmas.List.{get_or-drop, get_or-take, length-take, length-take-le, length-drop}
use Rattle.std.proofs.lemmas.List.Sums.{fails_before_first, passes_at_first, position_or_len_is, prefix_len-le-length, suffix_len_is, suffix_len-le-length}
use Rattle.std.proofs.lemmas.Bool.{ne_eqb, eq-eqb, lt-ltb}
use Rattle.std.specs.List.{position_or_len}
use Rattle.text_lines.specs.Lines.{is_break, column, line_start, line_end, place_down}
use Rattle.text_lines.specs.Rows.{IsLineStart}
use Rattle.cord_search.specs.Places.{StandsAt, IsFirst, IsLast}

-- ---- a place's line begins at a line's start, and ends at a break or with the text, where no break stands in between

pub starts_at : (t : List ℕ) (p s : ℕ) → s ≤ p → p ≤ length t → ((k : ℕ) → s ≤ k → k < p → is_break (get_or t k 0) ≡ false) → IsLineStart t s → s ≡ line_start t p
starts_at t p s from inside plain begins =
    let long : length (take p t) ≡ p = length-take-le p t inside in
    let at : column t p ≡ length (take p t) - s =
    suffix_len_is (λ b. not (is_break b)) (take p t) s 0 (omega (arith, long, from))
    (λ k above below. rw (get_or-take p t k 0 (omega (arith, below, long))) (ap not (plain k above (omega (arith, below, long)))))
    (λ some. rw (get_or-take p t (s - 1) 0 (omega (arith, some, from))) (ap not (begins (omega (arith, some))))) in
    omega (arith, at, long, from)

pub ends_at : (t : List ℕ) (p e : ℕ) → p ≤ e → e ≤ length t → ((k : ℕ) → p ≤ k → k < e → is_break (get_or t k 0) ≡ false) → (e < length t → is_break (get_or t e 0) ≡ true) → e ≡ line_end t p
ends_at t p e to inside plain ends =
    let rest = length-drop p t in
    let back : p + (e - p) ≡ e = omega (arith, to) in
    let at : position_or_len is_break (drop p t) ≡ e - p =
    position_or_len_is is_break (drop p t) (e - p) 0 (omega (arith, rest, inside))
    (λ k below. rw (get_or-drop p t k 0) (plain (p + k) (omega arith) (omega (arith, below, to))))
    (λ lt. rw (get_or-drop p t (e - p) 0, back) (ends (omega (arith, lt, rest, to)))) in
    omega (arith, at, to)

-- ---- where a place's line ends

pub end_inside : (t : List ℕ) (p : ℕ) → p ≤ length t → line_end t p ≤ length t
end_inside t p inside = omega (arith, prefix_len-le-length (λ b. not (is_break b)) (drop p t), length-drop p t, inside)

pub plain_to_end : (t : List ℕ) (p k : ℕ) → p ≤ k → k < line_end t p → is_break (get_or t k 0) ≡ false
plain_to_end t p k from below =
    let back : p + (k - p) ≡ k = omega (arith, from) in
    ap (λ i. is_break (get_or t i 0)) (sym back) ∙ ap is_break (sym (get_or-drop p t (k - p) 0)) ∙ fails_before_first is_break (drop p t) (k - p) 0 (omega (arith, from, below))

pub break_at_end : (t : List ℕ) (p e : ℕ) → e ≡ line_end t p → e < length t → is_break (get_or t e 0) ≡ true
break_at_end t p e is lt =
    let width = position_or_len is_break (drop p t) in
    ap (λ i. is_break (get_or t i 0)) is ∙ ap is_break (sym (get_or-drop p t width 0)) ∙ passes_at_first is_break (drop p t) 0 (omega (arith, is, lt, length-drop p t))

-- ---- a break that a search found

stands_here : (t : List ℕ) (k b : ℕ) → k < length t → get_or t k 0 ≡ b → StandsAt (b ∷ []) t k
stands_here [] k b lt e = absurd (omega (arith, lt))
stands_here (x ∷ xs) zero b lt e = record { inside = omega arith; same = ap (λ y. y ∷ []) e }
stands_here (x ∷ xs) (suc k) b lt e =
    let h = stands_here xs k b (omega (arith, lt)) e in
    let inside = h.inside in
    record { inside = omega (arith, inside); same = h.same }

pub stands_tells : (t : List ℕ) (k b : ℕ) → StandsAt (b ∷ []) t k → get_or t k 0 ≡ b
stands_tells [] k b h = let inside = h.inside in absurd (omega (arith, inside))
stands_tells (x ∷ xs) zero b h = ap (λ (l : List ℕ). get_or l 0 0) h.same
stands_tells (x ∷ xs) (suc k) b h = let inside = h.inside in stands_tells xs k b (record { inside = omega (arith, inside); same = h.same })

pub not_there : (t : List ℕ) (k : ℕ) → k < length t → ¬ StandsAt (10 ∷ []) t k → is_break (get_or t k 0) ≡ false
not_there t k lt none = ne_eqb (get_or t k 0) 10 (λ e. none (stands_here t k 10 lt e))

there : (t : List ℕ) (k : ℕ) → StandsAt (10 ∷ []) t k → is_break (get_or t k 0) ≡ true
there t k stands = eq-eqb (get_or t k 0) 10 (stands_tells t k 10 stands)

pub less_one : (k : ℕ) → k + 1 - 1 ≡ k
less_one k = omega arith

-- the line end is the first break from the place on, or the text's end
pub line_end_is : (t : List ℕ) (p : ℕ) (found : Option ℕ) → p ≤ length t → IsFirst (10 ∷ []) t p found → line_end t p ≡ unwrap_or found (length t)
line_end_is t p None le h = sym (ends_at t p (length t) le (omega arith) (λ k from lt. not_there t k lt (h k from)) (λ lt. absurd (omega (arith, lt))))
line_end_is t p (Some k) le h =
    let stands = h.stands in
    let inside = stands.inside in
    sym (ends_at t p k h.from (omega (arith, inside)) (λ j from lt. not_there t j (omega (arith, lt, inside)) (h.none_before j from lt)) (λ _. there t k stands))

abbrev pub line_start_from : Option ℕ → ℕ
line_start_from None = 0
line_start_from (Some k) = k + 1

-- the line start is one behind the last break below the place, or the text's start
pub line_start_is : (t : List ℕ) (p : ℕ) (found : Option ℕ) → 1 ≤ p → p ≤ length t → IsLast (10 ∷ []) t (p - 1) found → line_start t p ≡ line_start_from found
line_start_is t p None some le h =
    sym (starts_at t p 0 (omega arith) le (λ k _ lt. not_there t k (omega (arith, lt, le)) (h k (omega (arith, lt)))) (λ some. absurd (omega (arith, some))))
line_start_is t p (Some k) some le h =
    let until = h.until in
    sym (starts_at t p (k + 1) (omega (arith, until, some)) le (λ j from lt. not_there t j (omega (arith, lt, le)) (h.none_after j (omega (arith, from)) (omega (arith, lt)))) (λ _. rw (less_one k) (there t k h.stands)))

-- the column lies behind the line's start
pub column_is : (t : List ℕ) (p : ℕ) → p - line_start t p ≡ column t p
column_is t p = omega (arith, suffix_len-le-length (λ b. not (is_break b)) (take p t), length-take p t)

-- the place below, of its parts
pub below_is : (t : List ℕ) (p start end below : ℕ) → start ≡ line_start t p → end ≡ line_end t p → end < length t → below ≡ line_end t (end + 1) → min (end + 1 + (p - start)) below ≡ place_down t p
below_is t p start end below s e lt b =
    let far : nat_lt (line_end t p) (length t) ≡ true = ap (λ (n : ℕ). nat_lt n (length t)) (sym e) ∙ lt-ltb end (length t) lt in
    rw (far, s, b, e, column_is t p) refl
