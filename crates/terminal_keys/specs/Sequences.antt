-- The escape sequences of ECMA-48 and ECMA-35, as their bytes.
use Rattle.terminal_keys.specs.declared.stage.Stage.{Stage}
use Rattle.terminal_keys.specs.declared.stage.Stage.TheVariants.{Text, Escape, Intermediate, Control, Single, ControlString}
use Rattle.std.specs.Prelude.{ℕ, List, [], ◌∷◌, take, Bool, false, ◌&&◌, ◌||◌, ◌==◌, not, nat_le, if◌then◌else◌, Option, Some, None, option_map}

-- a byte between an escape and the end of its sequence
abbrev pub is_intermediate : ℕ → Bool
is_intermediate b = nat_le 0x20 b && nat_le b 0x2F

-- a byte of a control sequence before its end: of its parameters, or an intermediate one
abbrev pub is_parameter : ℕ → Bool
is_parameter b = nat_le 0x20 b && nat_le b 0x3F

-- P, X, ], ^ and _: behind an escape they begin a control string
abbrev pub begins_string : ℕ → Bool
begins_string b = b == 0x50 || b == 0x58 || b == 0x5D || b == 0x5E || b == 0x5F

-- a byte of a control string: from backspace to return, and what is no control
abbrev pub is_in_string : ℕ → Bool
is_in_string b = (nat_le 0x08 b && nat_le b 0x0D) || (nat_le 0x20 b && not (b == 0x7F))

-- the stage behind this byte, where a sequence goes on or begins with it
abbrev pub next_stage : Stage → ℕ → Option Stage
next_stage Text b = if b == 0x1B then Some Escape else None
next_stage Escape b =
    if b == 0x5B then Some Control
    else (if b == 0x4F then Some Single
    else (if begins_string b then Some ControlString
    else (if is_intermediate b then Some Intermediate
    else None)))
next_stage Intermediate b = if is_intermediate b then Some Intermediate else None
next_stage Control b = if is_parameter b then Some Control else None
next_stage Single b = None
next_stage ControlString b = if is_in_string b then Some ControlString else None

-- whether a sequence ends with this byte: a control string with BEL alone; the escape of ST breaks it off, and is a
-- sequence of its own, which ends with \
abbrev pub ends_with : Stage → ℕ → Bool
ends_with Text b = false
ends_with Escape b = nat_le 0x30 b && nat_le b 0x7E
ends_with Intermediate b = nat_le 0x30 b && nat_le b 0x7E
ends_with Control b = nat_le 0x40 b && nat_le b 0x7E
ends_with Single b = nat_le 0x20 b && nat_le b 0x7E
ends_with ControlString b = b == 0x07

-- what a sequence takes: this byte and those behind it, where it goes on, this byte alone, where it ends with it, or none
abbrev pub taken : ℕ → Option (List ℕ) → Bool → List ℕ
taken b (Some behind) ends = b ∷ behind
taken b None ends = if ends then b ∷ [] else []

-- the bytes that a sequence takes from its stage on
abbrev pub sequence_from : Stage → List ℕ → List ℕ
sequence_from s [] = []
sequence_from s (b ∷ bs) = taken b (option_map (λ t. sequence_from t bs) (next_stage s b)) (ends_with s b)

-- the sequence at the front of what follows an escape, with which it has at most 1,024 bytes
abbrev pub sequence_at : List ℕ → List ℕ
sequence_at bs = take 1023 (sequence_from Escape bs)
