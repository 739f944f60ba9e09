-- What a run over a session keeps.
use Rattle.std.specs.Prelude.{◌≡◌, ℕ, List, ◌++◌}
use Rattle.edit_commands.specs.Session.{SessionValue}
use Rattle.edit_script.specs.Words.{Word}
use Rattle.edit_script.specs.Applied.{lines_of}
use Rattle.edit_script.specs.Scripts.{AreInside, ReadsScript, words_held}

-- what is kept is a script, and the session says what it said before, and then what that says
pub record KeepsScript (old : SessionValue) (kept : List ℕ) (new : SessionValue) : Type 0 where
  pub says : List (List Word)
  pub script : ReadsScript (lines_of kept) says
  pub words : words_held new ≡ words_held old ++ says
  pub inside : AreInside new
