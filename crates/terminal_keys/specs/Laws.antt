-- The forms of sequences in their own words, and what becomes of bytes.
use Rattle.std.specs.Prelude.{◌≡◌, ℕ, ◌<◌, ◌≤◌, ◌⊎◌, List, [], ◌∷◌, ◌++◌, length, IsTrue, Some, None}
use Rattle.std.specs.List.{list_all}
use Rattle.terminal_keys.specs.declared.mode.Mode.{Mode}
use Rattle.terminal_keys.specs.declared.stage.Stage.{Stage}
use Rattle.terminal_keys.specs.declared.stage.Stage.TheVariants.{Text, Escape}
use Rattle.terminal_keys.specs.Held.{stage_behind}
use Rattle.terminal_keys.specs.Keys.{keys_in, keys_of, meant, mode_behind}
use Rattle.terminal_keys.specs.Sequences.{begins_string, next_stage, is_in_string, is_intermediate, is_parameter}

-- a byte that is none of ECMA-48's sequences' own: a control, or none of ASCII
abbrev pub IsOutside : ℕ → Type 0
IsOutside b = (b < 0x20) ⊎ (0x7E < b)

-- a byte that ends a control sequence
abbrev pub IsFinal : ℕ → Type 0
IsFinal b = (0x40 ≤ b) × (b ≤ 0x7E)

-- the parameters of a control sequence, fewer than would be its most bytes
abbrev pub AreParameters : List ℕ → Type 0
AreParameters ps = IsTrue (list_all is_parameter ps) × (length ps < 1022)

-- a byte that begins a control string, and bytes of it, fewer than would be its most
abbrev pub IsString : ℕ → List ℕ → Type 0
IsString first text = IsTrue (begins_string first) × IsTrue (list_all is_in_string text) × (length text < 1022)

-- intermediate bytes and the last one of an escape sequence: of one that has none, a byte that begins no longer form
abbrev pub IsEscape : List ℕ → ℕ → Type 0
IsEscape between last =
    IsTrue (list_all is_intermediate between) × (length between < 1022) × (0x30 ≤ last) × (last ≤ 0x7E)
    × (between ≡ [] → next_stage Escape last ≡ None)

-- a sequence that has its most bytes and is not whole
abbrev pub IsSequenceTooLong : List ℕ → Type 0
IsSequenceTooLong bytes = (s : Stage) × (stage_behind Text bytes ≡ Some s) × (length bytes ≡ 1024)

-- the bytes are no key, and nothing behind them is lost
abbrev pub FallsAway : List ℕ → Type 0
FallsAway bytes = (mode : Mode) (rest : List ℕ) → keys_in mode (bytes ++ rest) ≡ keys_in mode rest

-- the bytes are a sequence of these keys, and nothing behind it is lost
abbrev pub IsWholeSequence : List ℕ → Type 0
IsWholeSequence bytes = (mode : Mode) (rest : List ℕ) →
    keys_in mode (bytes ++ rest) ≡ meant mode bytes ++ keys_in (mode_behind mode bytes) rest

-- the byte breaks off what stands before it, which is no key, and is read as if nothing stood there
abbrev pub BreaksOff : List ℕ → ℕ → Type 0
BreaksOff bytes b = (mode : Mode) (rest : List ℕ) → keys_in mode (bytes ++ b ∷ rest) ≡ keys_in mode (b ∷ rest)

-- the bytes that are typed are these keys, and nothing behind them is lost
abbrev pub Types : List ℕ → List ℕ → Type 0
Types bytes keys = (rest : List ℕ) → keys_of (bytes ++ rest) ≡ keys ++ keys_of rest
