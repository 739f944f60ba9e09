-- Patterns of 1 to 16 bytes.
use Rattle.std.specs.Prelude.{◌≡◌, ℕ, ◌-◌, ◌≤◌, List, ◌++◌, length, drop, replicate}
use Rattle.function_leaf.specs.declared.pattern.TheConstants.{PATTERN_LIMIT}

-- a number of bytes that a pattern may have
abbrev pub IsPatternLength : ℕ → Type 0
IsPatternLength n = (1 ≤ n) × (n ≤ PATTERN_LIMIT)

-- a pattern's n bytes in front, and zeros behind them up to the most
pub record IsPadded (bytes : List ℕ) (n : ℕ) : Type 0 where
  pub room : length bytes ≡ PATTERN_LIMIT
  pub size : IsPatternLength n
  pub zeros : drop n bytes ≡ replicate (PATTERN_LIMIT - n) 0

-- the bytes with zeros behind them up to the most
abbrev pub padded : List ℕ → List ℕ
padded xs = xs ++ replicate (PATTERN_LIMIT - length xs) 0
