-- What one turn of a run does: a frame is shown, and a key is taken.
use Rattle.std.specs.Prelude.{◌≡◌, ◌⊎◌, ℕ, List, [], ◌∷◌, Option, Some, None, Result, Ok, Err}
use Rattle.std.specs.Io.KnownBytes.{Consumes, IsAtEnd}
use Rattle.lazy_file.specs.Readings.{Reading}
use Rattle.screen_editor.specs.declared.fault.End.{End}
use Rattle.screen_editor.specs.declared.fault.End.TheVariants.{Save, Leave}
use Rattle.screen_editor.specs.declared.fault.RunFault.{RunFault}
use Rattle.screen_editor.specs.declared.fault.RunFault.TheVariants.{Read, Write, Frame}
use Rattle.screen_editor.specs.declared.key.Step.{Step}
use Rattle.screen_editor.specs.Editing.{Editing, EditorValue}
use Rattle.screen_editor.specs.Keys.{answer_to, key_of}
use Rattle.screen_editor.specs.Runs.{AnswersByte, MakesFrame, Shows, ShowsPrefix}

-- what the screen took where a state was not shown, and why there was no frame
abbrev pub NotShown : Option (List ℕ) → Option (List ℕ) → EditorValue Reading → EditorValue Reading → RunFault → Type 0
NotShown before now old new Write =
    ShowsPrefix old.sources.stated before now (old.editing ∷ [])
    × (new.sources ≡ old.sources)
NotShown before now old new (Frame f) =
    Shows old.sources.stated before now [] × MakesFrame old (Err f) new
NotShown before now old new _ = ⊥

-- the state is shown, and a key of this answer is taken or refused
pub record TakesOne (keys_before keys_left before now : Option (List ℕ)) (answer : Step) (old new : EditorValue Reading)
    : Type 0 where
  pub byte : ℕ
  pub key : Consumes keys_before keys_left (byte ∷ [])
  pub answers : answer_to (key_of byte) ≡ answer
  pub passes : AnswersByte old.sources new.sources byte old.editing new.editing
  pub shown : Shows old.sources.stated before now (old.editing ∷ [])

-- the answer to the key behind which a run ends so, or goes on
abbrev pub end_answer : Option End → Step
end_answer None = Step.Going
end_answer (Some Save) = Step.Save
end_answer (Some Leave) = Step.Leave

-- a byte's key is taken or refused, and so the run ends behind it, or goes on
abbrev pub Presses : EditorValue Reading → ℕ → Option End → EditorValue Reading → Type 0
Presses old b end new =
    AnswersByte old.sources new.sources b old.editing new.editing × (answer_to (key_of b) ≡ end_answer end)

-- no key is taken
pub record TakesNone (keys_before keys_left : Option (List ℕ)) (old new : Editing) : Type 0 where
  pub keys : Consumes keys_before keys_left []
  pub same : new ≡ old

-- what is left of the keys, and what the screen took, as far as these are known
pub record Streams : Type 0 where
  pub keys : Option (List ℕ)
  pub screen : Option (List ℕ)

-- a turn of the editor from old to new
abbrev pub IsTurn : Streams → Streams → EditorValue Reading → Result (Option End) RunFault → EditorValue Reading → Type 0
IsTurn before now old (Ok None) new =
    TakesOne before.keys now.keys before.screen now.screen Step.Going old new
IsTurn before now old (Ok (Some Save)) new =
    TakesOne before.keys now.keys before.screen now.screen Step.Save old new
IsTurn before now old (Ok (Some Leave)) new =
    TakesOne before.keys now.keys before.screen now.screen Step.Leave old new
    ⊎ (TakesNone before.keys now.keys old.editing new.editing × IsAtEnd now.keys
    × Shows old.sources.stated before.screen now.screen (old.editing ∷ []) × (new.sources ≡ old.sources))
IsTurn before now old (Err Read) new =
    TakesNone before.keys now.keys old.editing new.editing
    × Shows old.sources.stated before.screen now.screen (old.editing ∷ []) × (new.sources ≡ old.sources)
IsTurn before now old (Err fault) new =
    TakesNone before.keys now.keys old.editing new.editing × NotShown before.screen now.screen old new fault
