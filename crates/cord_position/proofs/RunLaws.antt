-- A cursor in the bytes of a step: what is left.
use Rattle.std.proofs.Common.{◌≡◌, ℕ, ◌+◌, ◌-◌, ◌<◌, ◌≤◌, min, List, [], ◌∷◌, ◌++◌, length, drop, get_or, Some, inl, inr, refl, sym, ap, ◌∙◌, arith}
use Rattle.std.specs.Prelude.{slice_get}
use Rattle.std.proofs.lemmas.Bool.{cases_lt}
use Rattle.std.proofs.lemmas.List.{drop_all, get_or-drop, length-append, length-drop, nil_from_length}
use Rattle.std.proofs.lemmas.Option.{get_or_from_slice_get, slice_get_within}
use Rattle.leaf_buffer.specs.Progress.{Progress, leaf_of}
use Rattle.rope_node.specs.Table.{Table}
use Rattle.cord_position.specs.declared.path.Step.{Step}
use Rattle.cord_position.specs.Steps.{IsRunAt}

drop_front : (xs ys : List ℕ) → drop (length xs) (xs ++ ys) ≡ ys
drop_front [] ys = refl
drop_front (x ∷ xs) ys = drop_front xs ys

-- what is left of a list, behind as much of it as there is
left_of : (xs ys : List ℕ) (k : ℕ) → length xs ≡ min k (length (xs ++ ys)) → drop k (xs ++ ys) ≡ ys
left_of xs ys k at =
    let all = length-append xs ys in
    elim (cases_lt (length (xs ++ ys)) k) [
      | inl past ↦ drop_all k (xs ++ ys) (omega (arith, past)) ∙ sym (nil_from_length ys (omega (arith, all, at, past)))
      | inr inside ↦ ap (λ (n : ℕ). drop n (xs ++ ys)) (omega (arith, at, inside)) ∙ drop_front xs ys
    ]

-- the bytes that are left are the step's from the place on
pub rest_here : (t : Table) (x : Step) (i : ℕ) (run : Progress) → IsRunAt t x i run → drop (i - x.first) (leaf_of run) ≡ run.rest
rest_here t x i run at = left_of run.passed run.rest (i - x.first) at.passed

pub byte_here : (t : Table) (x : Step) (i b : ℕ) (run : Progress) → IsRunAt t x i run → slice_get run.rest 0 ≡ Some b → get_or (leaf_of run) (i - x.first) 0 ≡ b
byte_here t x i b run at next =
    let k = i - x.first in
    let same : k ≡ k + 0 = omega arith in
    ap (λ (n : ℕ). get_or (leaf_of run) n 0) same ∙ sym (get_or-drop k (leaf_of run) 0 0) ∙ ap (λ ys. get_or ys 0 0) (rest_here t x i run at) ∙ get_or_from_slice_get run.rest 0 b 0 next

pub some_here : (t : Table) (x : Step) (i : ℕ) (run : Progress) → IsRunAt t x i run → 1 ≤ length run.rest → i - x.first < length (leaf_of run)
some_here t x i run at some = omega (arith, ap length (rest_here t x i run at), length-drop (i - x.first) (leaf_of run), some)

pub held_here : (t : Table) (x : Step) (i b : ℕ) (run : Progress) → IsRunAt t x i run → slice_get run.rest 0 ≡ Some b → i - x.first < length (leaf_of run)
held_here t x i b run at next = some_here t x i run at (slice_get_within run.rest 0 b next)
