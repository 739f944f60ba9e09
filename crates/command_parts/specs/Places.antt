-- A place of parts joined, by the part that holds it and the parts behind.
use Rattle.std.specs.Prelude.{◌≡◌, ℕ, ◌+◌, ◌<◌, ◌≤◌, List, [], ◌∷◌, ◌++◌, Option, Some, None}
use Rattle.std.specs.List.{AllByRecursion}
use Rattle.command_parts.specs.declared.part.Part.{Part}
use Rattle.command_parts.specs.Parts.{part_len, parts_len}

abbrev pub AreNonempty : List Part → Type 0
AreNonempty parts = AllByRecursion (λ part. 1 ≤ part_len part) parts

-- how long the part is that holds a place
abbrev pub len_here : Option Part → ℕ
len_here None = 0
len_here (Some part) = part_len part

-- it and the parts behind it
abbrev pub from_here : Option Part → List Part → List Part
from_here None rest = []
from_here (Some part) rest = part ∷ rest

-- a part, and a place inside it
abbrev pub held : Option Part → ℕ → Option (Part × ℕ)
held None off = None
held (Some part) off = Some (part, off)

-- a part holds its first byte to its last; at the end there is none, and nothing behind it
abbrev pub IsHolding : Option Part → ℕ → List Part → Type 0
IsHolding None off rest = (off ≡ 0) × (rest ≡ [])
IsHolding (Some part) off rest = off < part_len part

-- this part holds the place, off bytes behind its first, and these are the parts behind it
pub record IsAt (parts : List Part) (place : ℕ) (part : Option Part) (off : ℕ) (rest : List Part) : Type 0 where
  pub before : List Part
  pub whole : parts ≡ before ++ from_here part rest
  pub stands : place ≡ parts_len before + off
  pub holding : IsHolding part off rest
  pub each : AreNonempty parts
