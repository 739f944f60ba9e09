-- Lines above a line.
use Rattle.std.proofs.Common.{◌≡◌, ℕ, zero, suc, ◌+◌, ◌-◌, ◌<◌, ◌≤◌, true, false, not, cond, List, [], ◌∷◌, length, take, drop, get_or, inl, inr, refl, sym, ap, subst, ◌∙◌, add-one, arith}
use Rattle.std.specs.List.{count_by, slice_split, onto_first}
use Rattle.std.proofs.lemmas.Bool.{cases_Bool, cases_lt, not_from_false, not_from_true}
use Rattle.std.proofs.lemmas.List.{drop_all}
use Rattle.std.proofs.lemmas.List.Splits.{slice_split-cons_yes, slice_split-cons_no}
use Rattle.std.proofs.lemmas.List.Sums.{count_by_more_yes, count_by_more_no, suffix_len-take_yes, suffix_len-take_no, sum_by-cons}
use Rattle.text_lines.specs.declared.window.TheConstants.{LINES_ABOVE}
use Rattle.text_lines.specs.Lines.{is_break, column, line_start}
use Rattle.text_lines.specs.Screen.{first_line, line_number_of}
use Rattle.text_lines.specs.Rows.{IsAbove, IsLineStart, IsWindow}
use Rattle.text_lines.proofs.LineLaws.{column_is, less_one, starts_at}

one_line_back : (t : List ℕ) (s : ℕ) → IsLineStart t s → 1 ≤ s → s ≤ length t → line_number_of t s ≡ line_number_of t (s - 1) + 1
one_line_back t s begins some le =
    let back : s - 1 + 1 ≡ s = omega (arith, some) in
    ap (λ (n : ℕ). line_number_of t n) (sym back) ∙ count_by_more_yes is_break t (s - 1) 0 (omega (arith, some, le)) (begins some)

-- a place's line begins where its start is, and no break stands from there on up to the place
record Begins (t : List ℕ) (p : ℕ) : Type 0 where
  begins : IsLineStart t (line_start t p)
  plain : (k : ℕ) → line_start t p ≤ k → k < p → is_break (get_or t k 0) ≡ false
  lines : line_number_of t (line_start t p) ≡ line_number_of t p

begins_more : (t : List ℕ) (p q : ℕ) → q ≡ p + 1 → q ≤ length t → Begins t p → Begins t q
begins_more t p q is le before =
    let here : get_or t (p + 1 - 1) 0 ≡ get_or t p 0 = ap (λ (n : ℕ). get_or t n 0) (less_one p) in
    elim (cases_Bool (is_break (get_or t p 0))) [
      | inl broken ↦
          let none : column t q ≡ 0 = rw is (suffix_len-take_no (λ b. not (is_break b)) t (p + 1) 0 (omega arith) (omega (arith, is, le)) (rw here (not_from_true (is_break (get_or t p 0)) broken))) in
          let at : line_start t q ≡ q = omega (arith, none) in
          let back : q - 1 ≡ p = omega (arith, is) in
          record {
            begins = subst (IsLineStart t) (sym at) (λ some. rw back broken);
            plain = λ k from lt. absurd (omega (arith, from, lt, at));
            lines = ap (line_number_of t) at;
          }
      | inr plain ↦
          let more : column t q ≡ 1 + column t (p + 1 - 1) = rw is (suffix_len-take_yes (λ b. not (is_break b)) t (p + 1) 0 (omega arith) (omega (arith, is, le)) (rw here (not_from_false (is_break (get_or t p 0)) plain))) in
          let same : column t (p + 1 - 1) ≡ column t p = ap (column t) (less_one p) in
          let at : line_start t q ≡ line_start t p = omega (arith, more, same, is) in
          record {
            begins = subst (IsLineStart t) (sym at) before.begins;
            plain = λ k from lt. elim (cases_lt k p) [
              | inl below ↦ before.plain k (omega (arith, from, at)) below
              | inr here ↦ let same : k ≡ p = omega (arith, here, lt, is) in rw same plain
            ];
            lines = ap (line_number_of t) at ∙ before.lines ∙ sym (rw is (count_by_more_no is_break t p 0 (omega (arith, is, le)) plain));
          }
    ]

begins_at : (t : List ℕ) (p : ℕ) → p ≤ length t → Begins t p
begins_at t zero le = record { begins = λ some. absurd (omega (arith, some)); plain = λ k from lt. absurd (omega (arith, lt)); lines = refl }
begins_at t (suc p) le = begins_more t p (suc p) (omega arith) le (begins_at t p (omega (arith, le)))

pub start_begins : (t : List ℕ) (p : ℕ) → p ≤ length t → IsLineStart t (line_start t p)
start_begins t p le = let at = begins_at t p le in at.begins

-- where no break stands from one place up to another, both are in one line
pub same_start : (t : List ℕ) (back place : ℕ) → back ≤ place → place ≤ length t → ((k : ℕ) → back ≤ k → k < place → is_break (get_or t k 0) ≡ false) → line_start t back ≡ line_start t place
same_start t back place before inside none =
    let at = begins_at t back (omega (arith, before, inside)) in
    starts_at t place (line_start t back) (omega (arith, before)) inside (λ k from lt. elim (cases_lt k back) [ inl below ↦ at.plain k from below | inr above ↦ none k above lt ]) at.begins

-- one line more above
pub above_more : (t : List ℕ) (start top next row : ℕ) → IsAbove t start top row → 1 ≤ top → top ≤ length t → next ≡ line_start t (top - 1) → IsAbove t start next (row + 1)
above_more t start top next row above some le is =
    let at = begins_at t (top - 1) (omega (arith, le)) in
    record {
      begins = λ begins. subst (IsLineStart t) (sym is) at.begins;
      lines = λ begins.
          let one = one_line_back t top (above.begins begins) some le in
          let same : line_number_of t next ≡ line_number_of t (top - 1) = ap (line_number_of t) is ∙ at.lines in
          above.lines begins ∙ omega (arith, one, same);
    }

pub above_none : (t : List ℕ) (start : ℕ) → IsAbove t start start 0
above_none t start = record { begins = λ begins. begins; lines = λ begins. omega arith }

count_yes : (x : ℕ) (xs : List ℕ) → is_break x ≡ true → count_by is_break (x ∷ xs) ≡ count_by is_break xs + 1
count_yes x xs e = sum_by-cons (λ b. cond (is_break b) 1 0) x xs ∙ ap (λ b. cond b 1 0 + count_by is_break xs) e ∙ omega arith

count_no : (x : ℕ) (xs : List ℕ) → is_break x ≡ false → count_by is_break (x ∷ xs) ≡ count_by is_break xs
count_no x xs e = sum_by-cons (λ b. cond (is_break b) 1 0) x xs ∙ ap (λ b. cond b 1 0 + count_by is_break xs) e ∙ omega arith

drop_onto : (x : ℕ) (lines : List (List ℕ)) (n : ℕ) → 1 ≤ n → drop n (onto_first x lines) ≡ drop n lines
drop_onto x lines zero some = absurd (omega (arith, some))
drop_onto x [] (suc n) some = drop_all n [] (omega arith)
drop_onto x (line ∷ lines) (suc n) some = refl

behind_first : (x : ℕ) (xs : List ℕ) (s : ℕ) → 1 ≤ s → get_or (x ∷ xs) (suc s - 1) 0 ≡ get_or xs (s - 1) 0
behind_first x xs zero some = absurd (omega (arith, some))
behind_first x xs (suc s) some =
    let a : suc (suc s) - 1 ≡ suc s = omega arith in
    let b : suc s - 1 ≡ s = omega arith in
    rw (a, b) refl

lines_more : (x : ℕ) (xs : List ℕ) (s : ℕ) → (IsLineStart xs s → s ≤ length xs → slice_split is_break (drop s xs) ≡ drop (line_number_of xs s) (slice_split is_break xs))
    → IsLineStart (x ∷ xs) (suc s) → s ≤ length xs → slice_split is_break (drop s xs) ≡ drop (count_by is_break (x ∷ take s xs)) (slice_split is_break (x ∷ xs))
lines_more x xs s rest begins le =
    let inner : IsLineStart xs s = λ some. ap is_break (sym (behind_first x xs s some)) ∙ begins (omega arith) in
    elim (cases_Bool (is_break x)) [
      | inl broken ↦ rw (count_yes x (take s xs) broken, slice_split-cons_yes is_break x xs broken, add-one) (rest inner le)
      | inr plain ↦
          let some : 1 ≤ s = at_least s begins plain in
          let one = one_line_back xs s inner some le in
          rw (count_no x (take s xs) plain, slice_split-cons_no is_break x xs plain, drop_onto x (slice_split is_break xs) (line_number_of xs s) (omega (arith, one))) (rest inner le)
    ]
  where
    at_least : (s : ℕ) → IsLineStart (x ∷ xs) (suc s) → is_break x ≡ false → 1 ≤ s
    at_least zero begins plain = absurd (let broken = begins (omega arith) in cc)
    at_least (suc s) begins plain = omega arith

-- the lines from a line's start on are all but those above it
pub lines_behind : (t : List ℕ) (s : ℕ) → IsLineStart t s → s ≤ length t → slice_split is_break (drop s t) ≡ drop (line_number_of t s) (slice_split is_break t)
lines_behind t zero begins le = refl
lines_behind [] (suc s) begins le = absurd (omega (arith, le))
lines_behind (x ∷ xs) (suc s) begins le = lines_more x xs s (lines_behind xs s) begins (omega (arith, le))

-- the line that was come to is the first that is shown
pub window_is : (t : List ℕ) (p start top row : ℕ) → p ≤ length t → start ≡ line_start t p → top ≤ p → row ≤ LINES_ABOVE → (row < LINES_ABOVE → top ≡ 0) → IsAbove t start top row → IsWindow t p top row (p - start)
window_is t p start top row le is inside few all above =
    let at = begins_at t p le in
    let begins : IsLineStart t start = subst (IsLineStart t) (sym is) at.begins in
    let lines : line_number_of t p ≡ line_number_of t top + row = sym at.lines ∙ ap (line_number_of t) (sym is) ∙ above.lines begins in
    let none : row < LINES_ABOVE → line_number_of t top ≡ 0 = λ lt. ap (line_number_of t) (all lt) in
    let first : line_number_of t top ≡ first_line t p = first_is (line_number_of t p) (line_number_of t top) row lines few none in
    record {
      lines = lines_behind t top (above.begins begins) (omega (arith, inside, le)) ∙ ap (λ (n : ℕ). drop n (slice_split is_break t)) first;
      row = omega (arith, lines, first);
      column = ap (λ (s : ℕ). p - s) is ∙ column_is t p;
    }
  where
    first_is : (l m k : ℕ) → l ≡ m + k → k ≤ LINES_ABOVE → (k < LINES_ABOVE → m ≡ 0) → m ≡ l - LINES_ABOVE
    first_is l m k e few none =
        elim (cases_lt k LINES_ABOVE) [
          | inl fewer ↦ let zero' = none fewer in omega (arith, e, fewer, zero')
          | inr whole ↦ omega (arith, e, few, whole)
        ]
