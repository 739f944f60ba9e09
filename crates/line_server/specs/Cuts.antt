-- What a write that was cut short leaves.
use Rattle.std.specs.Prelude.{◌≡◌, ◌⊎◌, ℕ, List, [], ◌++◌, take}
use Rattle.line_server.specs.Turns.{HasNoEnd, Step, ended}
use Rattle.line_server.specs.Batches.{Serves}

-- nothing, or a text that ends as a line
abbrev pub EndsAsLine : List ℕ → Type 0
EndsAsLine text = (text ≡ []) ⊎ ((front : List ℕ) × (text ≡ ended front))

-- lines with their ends, and what stands behind the last end
pub record SplitsWhole (text whole rest : List ℕ) : Type 0 where
  pub all : text ≡ whole ++ rest
  pub open_end : HasNoEnd rest
  pub lines : EndsAsLine whole

-- what was kept of the first of these lines, and a part of the next one
pub record LeavesFirst {T : Type 0} (step : Step T) (old : T) (lines : List (List ℕ)) (left : List ℕ) : Type 0 where
  pub count : ℕ
  pub kept : List ℕ
  pub told : List ℕ
  pub new : T
  pub part : List ℕ
  pub served : Serves step old (take count lines) kept told new
  pub cut : SplitsWhole left kept part
