-- What stands in the file of a journal.
use Rattle.std.specs.Prelude.{◌≡◌, ℕ, List, ◌++◌}
use Rattle.key_journal.specs.Journal.{IsJournal, IsTorn}
use Rattle.line_server.specs.Journals.{IsTornFront}
use Rattle.session_files.specs.declared.journal_front.Kind.{Kind}
use Rattle.session_files.specs.declared.journal_front.Kind.TheVariants.{Keys, Lines}

-- the front, and behind it keys, or what lines a run kept
abbrev pub KeepsBehindFront : Kind → List ℕ → List ℕ → Type 0
KeepsBehindFront Keys front bytes = IsJournal front bytes
KeepsBehindFront Lines front bytes = (rest : List ℕ) × (bytes ≡ front ++ rest)

-- a part of the front, and not all of it
abbrev pub IsPartOfFront : Kind → List ℕ → List ℕ → Type 0
IsPartOfFront Keys front bytes = IsTorn front bytes
IsPartOfFront Lines front bytes = IsTornFront front bytes
