-- The lines of a text: its parts between line breaks.
use Rattle.std.specs.Prelude.{◌≡◌, ℕ, ◌+◌, ◌-◌, ◌<◌, min, Bool, true, not, ◌==◌, nat_lt, if◌then◌else◌, List, length, take, drop, get_or, Option, Some, None}
use Rattle.std.specs.List.{suffix_len, position_or_len}

abbrev pub is_break : ℕ → Bool
is_break b = b == 0x0A

-- a line break is among these bytes
abbrev pub HasBreak : List ℕ → Type 0
HasBreak bytes = (k : ℕ) × (k < length bytes) × (is_break (get_or bytes k 0) ≡ true)

-- how many bytes stand between place p and the last line break below it, or the text's start
abbrev pub column : List ℕ → ℕ → ℕ
column t p = suffix_len (λ b. not (is_break b)) (take p t)

abbrev pub line_start : List ℕ → ℕ → ℕ
line_start t p = p - column t p

-- the first line break at p or behind it, or the text's end
abbrev pub line_end : List ℕ → ℕ → ℕ
line_end t p = p + position_or_len is_break (drop p t)

-- where the line begins behind one that ends at e, in a text of n bytes
abbrev pub next_line : ℕ → ℕ → Option ℕ
next_line e n = if nat_lt e n then Some (e + 1) else None

-- the place of the same column in the line before and in the line behind, or that line's end where it is shorter
abbrev pub place_above : List ℕ → ℕ → ℕ
place_above t p = let s = line_start t p in min (line_start t (s - 1) + column t p) (s - 1)

abbrev pub place_below : List ℕ → ℕ → ℕ
place_below t p = let e = line_end t p in min (e + 1 + column t p) (line_end t (e + 1))

-- where up and down lead: from the first line and from the last one nowhere else
abbrev pub place_up : List ℕ → ℕ → ℕ
place_up t p = if nat_lt 0 (line_start t p) then place_above t p else p

abbrev pub place_down : List ℕ → ℕ → ℕ
place_down t p = if nat_lt (line_end t p) (length t) then place_below t p else p
