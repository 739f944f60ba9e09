-- What is shown of a text's lines, one behind the other.
use Rattle.std.proofs.Common.{◌≡◌, ℕ, ◌+◌, ◌-◌, ◌<◌, ◌≤◌, min, List, [], ◌∷◌, ◌++◌, length, map, take, drop, get_or, Option, Some, inl, inr, refl, sym, ap, ◌∙◌, append_assoc, arith, take-add}
use Rattle.std.specs.List.{slice_split, position_or_len, flat_map, range_with_len}
use Rattle.std.proofs.lemmas.Bool.{cases_lt, le-ltb, lt-ltb}
use Rattle.std.proofs.lemmas.List.{get_or-drop, length-drop, length-take, take_all, take-take, drop-drop, drop-take, drop_all, append-nil, map-append, map-id}
use Rattle.std.proofs.lemmas.List.FromFn.{map-range_with_len_more}
use Rattle.std.proofs.lemmas.List.Splits.{slice_split_none, slice_split_first}
use Rattle.std.proofs.lemmas.List.Sums.{fails_before_first}
use Rattle.std.proofs.lemmas.Grind.{flat_map-append}
use Rattle.text_lines.specs.declared.rows.TheConstants.{SCREEN_COLUMNS}
use Rattle.text_lines.specs.Lines.{is_break, line_end, next_line}
use Rattle.text_lines.specs.Screen.{glyph}
use Rattle.text_lines.specs.Rows.{shown_of, lines_from, row_in, PushesLine}

-- of what is taken, the first ones
take_least : {X : Type 0} (m n : ℕ) (xs : List X) → take m (take n xs) ≡ take (min n m) xs
take_least m n xs =
    elim (cases_lt n m) [
      | inl fewer ↦ let least : min n m ≡ n = omega (arith, fewer) in
          rw least (take_all m (take n xs) (rw (length-take n xs) (omega (arith, fewer))))
      | inr enough ↦ let least : min n m ≡ m = omega (arith, enough) in
          rw least (take-take m n xs enough)
    ]

-- more bytes are shown, behind those that were
pub glyphs_more : (t old now new : List ℕ) (start place to : ℕ) → start ≤ place → place ≤ to → now ≡ old ++ map glyph (take (place - start) (drop start t))
    → new ≡ now ++ map glyph (take (to - place) (drop place t)) → new ≡ old ++ map glyph (take (to - start) (drop start t))
glyphs_more t old now new start place to from until had more =
    let a = take (place - start) (drop start t) in
    let b = take (to - place) (drop place t) in
    let sum : to - start ≡ place - start + (to - place) = omega (arith, from, until) in
    let back : start + (place - start) ≡ place = omega (arith, from) in
    let rest : take (to - place) (drop (place - start) (drop start t)) ≡ b = ap (take (to - place)) (drop-drop (place - start) start t ∙ ap (λ (k : ℕ). drop k t) back) in
    let both : take (to - start) (drop start t) ≡ a ++ b = ap (λ (k : ℕ). take k (drop start t)) sum ∙ take-add (place - start) (to - place) (drop start t) ∙ ap (λ (xs : List ℕ). a ++ xs) rest in
    more ∙ ap (λ (xs : List ℕ). xs ++ map glyph b) had ∙ append_assoc old (map glyph a) (map glyph b)
    ∙ ap (λ (xs : List ℕ). old ++ xs) (sym (ap (map glyph) both ∙ map-append glyph a b))

-- the part of a line that is shown, taken from the text
part_shown : (t : List ℕ) (start left end n : ℕ) → start ≤ end → end ≤ length t → n ≡ end - start - left
    → take (end - n + min n SCREEN_COLUMNS - (end - n)) (drop (end - n) t) ≡ take SCREEN_COLUMNS (drop left (take (end - start) (drop start t)))
part_shown t start left end n from inside is =
    elim (cases_lt left (end - start)) [
      | inl short ↦
          let same : end - start ≡ left + n = omega (arith, short, is) in
          let place : end - n ≡ start + left = omega (arith, short, from, is) in
          let count : start + left + min n SCREEN_COLUMNS - (start + left) ≡ min n SCREEN_COLUMNS = omega arith in
          rw (same, drop-take left n (drop start t), drop-drop left start t, take_least SCREEN_COLUMNS n (drop (start + left) t), place, count) refl
      | inr past ↦
          let none : end - n + min n SCREEN_COLUMNS - (end - n) ≡ 0 = omega (arith, past, is) in
          let gone : drop left (take (end - start) (drop start t)) ≡ [] = drop_all left (take (end - start) (drop start t)) (rw (length-take (end - start) (drop start t)) (omega (arith, past))) in
          rw (gone, none) refl
    ]

-- a text's first line, and those behind it
only_line : (xs : List ℕ) → length xs ≤ position_or_len is_break xs → slice_split is_break xs ≡ xs ∷ []
only_line xs past = slice_split_none is_break xs (λ k d lt. fails_before_first is_break xs k d (omega (arith, lt, past)))

first_of : (xs : List ℕ) → get_or (slice_split is_break xs) 0 [] ≡ take (position_or_len is_break xs) xs
first_of xs =
    elim (cases_lt (position_or_len is_break xs) (length xs)) [
      | inl inside ↦ rw (slice_split_first is_break xs 0 inside) refl
      | inr past ↦ rw (only_line xs past) (sym (take_all (position_or_len is_break xs) xs past))
    ]

line_shown : (t old new : List ℕ) (start left end n : ℕ) → start ≤ end → end ≤ length t → end ≡ line_end t start → n ≡ end - start - left
    → new ≡ old ++ map glyph (take (end - n + min n SCREEN_COLUMNS - (end - n)) (drop (end - n) t))
    → new ≡ old ++ shown_of left (get_or (lines_from t (Some start)) 0 [])
line_shown t old new start left end n from inside is rest pushed =
    let len : end - start ≡ position_or_len is_break (drop start t) = omega (arith, is) in
    pushed ∙ ap (λ (xs : List ℕ). old ++ map glyph xs) (part_shown t start left end n from inside rest)
    ∙ ap (λ (k : ℕ). old ++ map glyph (take SCREEN_COLUMNS (drop left (take k (drop start t))))) len
    ∙ ap (λ (xs : List ℕ). old ++ shown_of left xs) (sym (first_of (drop start t)))

-- behind a line with a break the next one begins, and behind the last one none
lines_behind_one : (t : List ℕ) (start end : ℕ) → start ≤ end → end ≤ length t → end ≡ line_end t start → lines_from t (next_line end (length t)) ≡ drop 1 (lines_from t (Some start))
lines_behind_one t start end from inside is =
    let xs = drop start t in
    let k = position_or_len is_break xs in
    elim (cases_lt end (length t)) [
      | inl before ↦
          let broken : k < length xs = omega (arith, is, before, from, length-drop start t) in
          let next : start + (k + 1) ≡ end + 1 = omega (arith, is) in
          rw (lt-ltb end (length t) before, slice_split_first is_break xs 0 broken, drop-drop (k + 1) start t, next) refl
      | inr past ↦
          let all : length xs ≤ k = omega (arith, is, past, from, length-drop start t) in
          rw (le-ltb end (length t) past, only_line xs all) refl
    ]

pub line_pushed : (t old new : List ℕ) (start left end n : ℕ) (next : Option ℕ) → start ≤ end → end ≤ length t → end ≡ line_end t start → n ≡ end - start - left
    → new ≡ old ++ map glyph (take (end - n + min n SCREEN_COLUMNS - (end - n)) (drop (end - n) t)) → next ≡ next_line end (length t)
    → PushesLine t (Some start) left next old new
line_pushed t old new start left end n next from inside is rest pushed behind =
    record {
      pushed = line_shown t old new start left end n from inside is rest pushed;
      rest = ap (lines_from t) behind ∙ lines_behind_one t start end from inside is;
    }

-- one row more, of the next line or of none
pub row_shown : (lines rest : List (List ℕ)) (old now new : List ℕ) (left k : ℕ) → drop k lines ≡ rest
    → now ≡ old ++ flat_map (row_in lines left) (range_with_len 0 k) → new ≡ now ++ shown_of left (get_or rest 0 []) ++ 0x0D ∷ 0x0A ∷ []
    → new ≡ old ++ flat_map (row_in lines left) (range_with_len 0 (k + 1))
row_shown lines rest old now new left k at so pushed =
    let line : get_or rest 0 [] ≡ get_or lines k [] = ap (λ (ls : List (List ℕ)). get_or ls 0 []) (sym at) ∙ get_or-drop k lines 0 [] ∙ ap (λ (n : ℕ). get_or lines n []) (omega arith) in
    pushed ∙ ap (λ (xs : List ℕ). now ++ shown_of left xs ++ 0x0D ∷ 0x0A ∷ []) line ∙ append_assoc now (shown_of left (get_or lines k [])) (0x0D ∷ 0x0A ∷ [])
    ∙ ap (λ (xs : List ℕ). xs ++ row_in lines left k) so
    ∙ append_assoc old (flat_map (row_in lines left) (range_with_len 0 k)) (row_in lines left k)
    ∙ ap (λ (xs : List ℕ). old ++ xs) (sym (rows_step (row_in lines left) k))
  where
    range_more : (k : ℕ) → range_with_len 0 (k + 1) ≡ range_with_len 0 k ++ k ∷ []
    range_more k = sym (map-id (range_with_len 0 (k + 1))) ∙ map-range_with_len_more (λ (x : ℕ). x) 0 k k (omega arith) ∙ ap (λ (xs : List ℕ). xs ++ k ∷ []) (map-id (range_with_len 0 k))

    rows_step : (f : ℕ → List ℕ) (k : ℕ) → flat_map f (range_with_len 0 (k + 1)) ≡ flat_map f (range_with_len 0 k) ++ f k
    rows_step f k = ap (flat_map f) (range_more k) ∙ flat_map-append f (range_with_len 0 k) (k ∷ []) ∙ ap (λ (xs : List ℕ). flat_map f (range_with_len 0 k) ++ xs) (append-nil (f k))
