-- The lines of a script, one after the other.
use Rattle.std.proofs.Common.{◌≡◌, ℕ, ◌+◌, ◌-◌, ◌≤◌, Bool, cond, ltb, eqb, List, [], ◌∷◌, length, take, drop, Option, Some, None, refl, sym, ap, subst, ◌∙◌, arith, inl, inr}
use Rattle.std.specs.List.{onto_first, position_or_len}
use Rattle.std.proofs.lemmas.Bool.{cases_Bool, ltb-true, ltb-false}
use Rattle.std.proofs.lemmas.List.{take_rest}
use Rattle.std.proofs.lemmas.List.Splits.{slice_split_first, slice_split-cons_no}
use Rattle.edit_script.specs.Applied.{lines_of}
use Rattle.edit_script.proofs.Choices.{chosen}

abbrev is_end : ℕ → Bool
is_end b = eqb b 10

abbrev where_ends : List ℕ → Option ℕ
where_ends xs = cond (ltb (position_or_len is_end xs) (length xs)) (Some (position_or_len is_end xs)) None

pub line_found : (xs : List ℕ) (r : Option ℕ) (i : ℕ) → r ≡ where_ends xs → r ≡ Some i
    → lines_of xs ≡ take i xs ∷ lines_of (take (length xs - (i + 1)) (drop (i + 1) xs))
line_found xs r i is found =
    let p = position_or_len is_end xs in
    elim (chosen (ltb p (length xs)) (Some p) None (Some i) (sym is ∙ found)) [
      | inl q ↦
          let at : p ≡ i = cc in
          let split = slice_split_first is_end xs 0 (ltb-true p (length xs) q.0) in
          subst (λ (k : ℕ). lines_of xs ≡ take k xs ∷ lines_of (take (length xs - (k + 1)) (drop (k + 1) xs))) at
          (split ∙ ap (λ (t : List ℕ). take p xs ∷ lines_of t) (sym (take_rest xs (p + 1))))
      | inr q ↦ let no : None ≡ Some i = q.1 in absurd cc
    ]

one_part : (xs : List ℕ) → length xs ≤ position_or_len is_end xs → lines_of xs ≡ xs ∷ []
one_part [] h = refl
one_part (x ∷ xs) h =
    elim (cases_Bool (is_end x)) [
      | inl e ↦ let none : position_or_len is_end (x ∷ xs) ≡ 0 = rw e refl in absurd (omega arith)
      | inr e ↦
          let more : position_or_len is_end (x ∷ xs) ≡ 1 + position_or_len is_end xs = rw e refl in
          slice_split-cons_no is_end x xs e ∙ ap (onto_first x) (one_part xs (omega arith))
    ]

pub line_alone : (xs : List ℕ) (r : Option ℕ) → r ≡ where_ends xs → r ≡ None → lines_of xs ≡ xs ∷ []
line_alone xs r is found =
    let p = position_or_len is_end xs in
    elim (chosen (ltb p (length xs)) (Some p) None None (sym is ∙ found)) [
      | inl q ↦ let no : Some p ≡ None = q.1 in absurd cc
      | inr q ↦ one_part xs (ltb-false p (length xs) q.0)
    ]

-- how many bytes are left, and one
abbrev pub size_left : Option (List ℕ) → ℕ
size_left None = 0
size_left (Some t) = length t + 1
