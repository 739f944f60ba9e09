-- One step back from a place of a text into which its command puts one splice.
use Rattle.std.specs.Prelude.{◌≡◌, ◌⊎◌, ℕ, ◌+◌, ◌-◌, ◌≤◌, Option, Some, None, nat_lt, if◌then◌else◌}
use Rattle.command_parts.specs.declared.edit.Edit.{Edit}
use Rattle.command_parts.specs.declared.edit.Splice.{Splice}
use Rattle.byte_origins.specs.declared.run.Brought.TheVariants.{Pool}
use Rattle.byte_origins.specs.declared.taking.CameFrom.{CameFrom}
use Rattle.byte_origins.specs.declared.taking.CameFrom.TheVariants.{FromText}
use Rattle.byte_origins.specs.StepsBack.{run_of}

-- the text into which a command puts one splice, and the splice
abbrev pub one_splice : Edit → Option (ℕ × Splice)
one_splice (Edit.Insert r p a n) = Some (r, record { p = p; m = 0; a = a; n = n })
one_splice (Edit.Delete r p n) = Some (r, record { p = p; m = n; a = 0; n = 0 })
one_splice (Edit.Replace r p m a n) = Some (r, record { p = p; m = m; a = a; n = n })
one_splice _ = None

-- the bytes of text r, which is so long, from a place on
abbrev pub from_place : ℕ → ℕ → ℕ → CameFrom
from_place r len i = FromText r i (len - i)

-- What a place of text k is whose command puts a splice into text r, which is so long: it stands before the splice, in
-- what the splice puts in, or behind it.
abbrev pub spliced_of : ℕ → ℕ → ℕ → ℕ → Splice → CameFrom
spliced_of len k place r s =
    if nat_lt place s.p then FromText r place (s.p - place)
    else if nat_lt (place - s.p) s.n then run_of k place (Pool (s.a + (place - s.p))) (s.n - (place - s.p))
    else from_place r len (s.p + s.m + ((place - s.p) - s.n))

-- bytes stand all in front of a splice, or all behind what it puts in
abbrev pub StandsBeside : Splice → ℕ → ℕ → Type 0
StandsBeside s place len = (place + len ≤ s.p) ⊎ (s.p + s.n ≤ place)

-- where such bytes stand in the text that the splice was put into
abbrev pub IsPlaceBeside : Splice → ℕ → ℕ → ℕ → Type 0
IsPlaceBeside s place len i =
    ((place + len ≤ s.p) × (i ≡ place)) ⊎ ((s.p + s.n ≤ place) × (i + s.n ≡ place + s.m))
