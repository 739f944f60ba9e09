-- What is read up to the end of a line.
use Rattle.std.proofs.Common.{◌≡◌, ◌≢◌, ℕ, inl, inr, eqb, List, [], ◌∷◌, Option, Some, None, refl, sym, subst}
use Rattle.std.specs.Prelude.{IfSome}
use Rattle.std.specs.List.{All}
use Rattle.std.specs.Io.KnownBytes.{IsAtEnd}
use Rattle.std.specs.Io.BufRead.{DropsThrough, drop_through, take_through}
use Rattle.std.proofs.lemmas.Bool.{cases_Bool, eqb-true}
use Rattle.std.proofs.lemmas.List.Elements.{All-head, All-tail}

-- where no line ended, nothing is left
none_behind : (xs : List ℕ) → All (λ b. b ≢ 10) (take_through 10 xs) → drop_through 10 xs ≡ []
none_behind [] all = refl
none_behind (x ∷ xs) all =
    elim (cases_Bool (eqb x 10)) [
      | inl p ↦
          let h : All (λ b. b ≢ 10) (x ∷ []) = rw p at all in
          absurd (All-head (λ b. b ≢ 10) x [] h (eqb-true x 10 p))
      | inr q ↦
          let h : All (λ b. b ≢ 10) (x ∷ take_through 10 xs) = rw q at all in
          rw q (none_behind xs (All-tail (λ b. b ≢ 10) x (take_through 10 xs) h))
    ]

pub at_end : (old new : Option (List ℕ)) (room : List ℕ) → IfSome old (λ xs. room ≡ take_through 10 xs)
    → DropsThrough old new 10 → All (λ b. b ≢ 10) room → IfSome old (λ _. IsAtEnd new)
at_end None new room is rest all = tt
at_end (Some xs) new room is rest all =
    let none = none_behind xs (subst (All (λ b. b ≢ 10)) is all) in
    subst IsAtEnd (sym rest) none
