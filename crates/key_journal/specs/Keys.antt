-- The keys that a journal keeps.
use Rattle.std.specs.Prelude.{ℕ, List, Bool, ◌&&◌, ◌==◌, not, IsTrue}
use Rattle.std.specs.List.{filter, list_all}
use Rattle.key_journal.specs.declared.kept.TheConstants.{LEAVE, SAVE}

-- all but Save and Leave
abbrev pub goes_on : ℕ → Bool
goes_on b = not (b == SAVE) && not (b == LEAVE)

abbrev pub kept_of : List ℕ → List ℕ
kept_of keys = filter goes_on keys

abbrev pub AllGoOn : List ℕ → Type 0
AllGoOn keys = IsTrue (list_all goes_on keys)
