-- The first and the last place of a text at which a pattern stands.
use Rattle.std.specs.Prelude.{◌≡◌, ℕ, ◌+◌, ◌<◌, ◌≤◌, List, length, take, drop, Option, Some, None}

-- s stands at place k of t
pub record StandsAt (s t : List ℕ) (k : ℕ) : Type 0 where
  pub inside : k + length s ≤ length t
  pub same : take (length s) (drop k t) ≡ s

-- k is the first such place from start on
pub record IsFirstPlace (s t : List ℕ) (start k : ℕ) : Type 0 where
  pub from : start ≤ k
  pub stands : StandsAt s t k
  pub none_before : (j : ℕ) → start ≤ j → j < k → ¬ StandsAt s t j

-- k is the last such place up to end
pub record IsLastPlace (s t : List ℕ) (end k : ℕ) : Type 0 where
  pub until : k ≤ end
  pub stands : StandsAt s t k
  pub none_after : (j : ℕ) → k < j → j ≤ end → ¬ StandsAt s t j

-- an answered place is from start on, and what stands there ends inside a text of this length
abbrev pub IsFromOn : List ℕ → ℕ → ℕ → Option ℕ → Type 0
IsFromOn s start len (Some k) = (start ≤ k) × (k + length s ≤ len)
IsFromOn s start len None = Unit {0}

-- an answered place is up to end, and what stands there ends inside a text of this length
abbrev pub IsUpTo : List ℕ → ℕ → ℕ → Option ℕ → Type 0
IsUpTo s end len (Some k) = (k ≤ end) × (k + length s ≤ len)
IsUpTo s end len None = Unit {0}

-- the first such place from start on, if there is one
abbrev pub IsFirst : List ℕ → List ℕ → ℕ → Option ℕ → Type 0
IsFirst s t start (Some k) = IsFirstPlace s t start k
IsFirst s t start None = (j : ℕ) → start ≤ j → ¬ StandsAt s t j

-- the last such place up to end, if there is one
abbrev pub IsLast : List ℕ → List ℕ → ℕ → Option ℕ → Type 0
IsLast s t end (Some k) = IsLastPlace s t end k
IsLast s t end None = (j : ℕ) → j ≤ end → ¬ StandsAt s t j
