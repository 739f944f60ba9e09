-- What one byte more does.
use Rattle.std.specs.Prelude.{◌≡◌, ℕ, List, ◌∷◌, ◌++◌}
use Rattle.terminal_keys.specs.declared.mode.Mode.{Mode}
use Rattle.terminal_keys.specs.declared.owed.Owed.{Owed}
use Rattle.terminal_keys.specs.declared.sequence.Sequence.{Sequence}
use Rattle.terminal_keys.specs.Held.{bytes_begun, owed}
use Rattle.terminal_keys.specs.Keys.{keys_in}

-- The keys that are then owed, and those of what is held then and of any other bytes, are those of what was held, of
-- the byte and of the others.
abbrev pub TakesByte : Sequence → Mode → ℕ → Sequence → Mode → Owed → Type 0
TakesByte old old_mode byte new new_mode keys = (rest : List ℕ) →
    owed keys ++ keys_in new_mode (bytes_begun new ++ rest) ≡ keys_in old_mode (bytes_begun old ++ byte ∷ rest)

-- No key is owed then: the keys of what is held and of any other bytes are those of what was held, of the byte and of the
-- others, whether they are typed or pasted.
abbrev pub SequenceGoesOn : Sequence → ℕ → Sequence → Type 0
SequenceGoesOn old byte new = (mode : Mode) (rest : List ℕ) →
    keys_in mode (bytes_begun new ++ rest) ≡ keys_in mode (bytes_begun old ++ byte ∷ rest)
