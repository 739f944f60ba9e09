-- The text that a paste types.
use Rattle.std.specs.Prelude.{◌≡◌, ℕ, List, [], ◌∷◌, ◌++◌, Bool, ◌&&◌, ◌||◌, ◌==◌, if◌then◌else◌}
use Rattle.terminal_keys.specs.declared.mode.TheConstants.{NO_KEY}
use Rattle.terminal_keys.specs.declared.mode.Mode.TheVariants.{Pasted}
use Rattle.terminal_keys.specs.Keys.{as_text, is_text, keys_in, keys_of}

-- bytes behind this one as text, but no LF behind CR
abbrev pub pasted_text : ℕ → List ℕ → List ℕ
pasted_text before [] = []
pasted_text before (b ∷ bs) =
    if before == 0x0D && b == 0x0A then pasted_text b bs else as_text b ∷ pasted_text b bs

-- text, or the byte that is no key
abbrev pub is_harmless : ℕ → Bool
is_harmless b = is_text b || b == NO_KEY

-- these bytes before the mark that ends a paste are its text, and what follows the mark is typed
abbrev pub PastesText : List ℕ → Type 0
PastesText bytes = (rest : List ℕ) →
    keys_in Pasted (bytes ++ 0x1B ∷ 0x5B ∷ 0x32 ∷ 0x30 ∷ 0x31 ∷ 0x7E ∷ rest) ≡ pasted_text 0 bytes ++ keys_of rest
