-- What stands in a journal: a front, and then lines that are kept.
use Rattle.std.specs.Prelude.{◌≡◌, ◌⊎◌, ℕ, List, ◌∷◌, ◌++◌}
use Rattle.line_server.specs.Turns.{Step}
use Rattle.line_server.specs.Cuts.{SplitsWhole, LeavesFirst}

-- a part of the front, and not all of it
abbrev pub IsTornFront : List ℕ → List ℕ → Type 0
IsTornFront front text = (b : ℕ) × (rest : List ℕ) × (front ≡ text ++ b ∷ rest)

-- behind the front these lines, and then a part of one
pub record KeepsLines (front text lines : List ℕ) : Type 0 where
  pub part : List ℕ
  pub left : List ℕ
  pub begins : text ≡ front ++ left
  pub cut : SplitsWhole left lines part

-- a part of the front; or all of it, and what was kept of the first of these lines, and a part of the next one
abbrev pub LeavesJournal : {T : Type 0} → Step T → T → List (List ℕ) → List ℕ → List ℕ → Type 0
LeavesJournal step old lines front text =
    IsTornFront front text ⊎ ((left : List ℕ) × (text ≡ front ++ left) × LeavesFirst step old lines left)
