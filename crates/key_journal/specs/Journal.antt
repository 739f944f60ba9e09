-- What stands in a journal.
use Rattle.std.specs.Prelude.{◌≡◌, ℕ, List, ◌∷◌, ◌++◌}
use Rattle.key_journal.specs.Keys.{AllGoOn}

-- The header, and keys behind each of which a run goes on.
abbrev pub IsJournal : List ℕ → List ℕ → Type 0
IsJournal header bytes = (keys : List ℕ) × (bytes ≡ header ++ keys) × AllGoOn keys

-- a part of the header, and not all of it
abbrev pub IsTorn : List ℕ → List ℕ → Type 0
IsTorn header bytes = (b : ℕ) × (rest : List ℕ) × (header ≡ bytes ++ b ∷ rest)
