-- Keys that are played, and keys that are kept.
use Rattle.std.specs.Prelude.{◌≡◌, ◌≢◌, ℕ, List, ◌∷◌, ◌++◌, length, slice_get, Option, Some, Result}
use Rattle.std.specs.Io.KnownBytes.{Appends, Consumes}
use Rattle.key_journal.specs.Keys.{kept_of}
use Rattle.lazy_file.specs.Readings.{Reading}
use Rattle.screen_editor.specs.declared.fault.End.{End}
use Rattle.screen_editor.specs.declared.fault.RunFault.{RunFault}
use Rattle.screen_editor.specs.declared.key.Step.{Step}
use Rattle.screen_editor.specs.Editing.{Editing, EditorValue, over}
use Rattle.screen_editor.specs.Keys.{answer_to, key_of}
use Rattle.screen_editor.specs.Runs.{StatesFollow, IsRun}

-- These keys are taken one after the other, each making the next state, from the first one to the last one.
pub record Plays (old : EditorValue Reading) (keys : List ℕ) (new : EditorValue Reading) : Type 0 where
  pub behind : List Editing
  pub follow : StatesFollow old.sources new.sources old.editing keys behind
  pub last : slice_get (old.editing ∷ behind) (length keys) ≡ Some new.editing

-- a run ends behind this key
abbrev pub EndsRun : ℕ → Type 0
EndsRun b = answer_to (key_of b) ≢ Step.Going

-- of the keys that were taken each is kept, but for one that ends a run
abbrev pub KeepsTaken : Option (List ℕ) → Option (List ℕ) → Option (List ℕ) → Option (List ℕ) → Type 0
KeepsTaken keys_before keys_left kept_before kept_now =
    (keys : List ℕ) × Consumes keys_before keys_left keys × Appends kept_before kept_now (kept_of keys)

-- Keys are played, and a run goes on from the state behind them: its last state is the one behind all these keys. What
-- the run took is kept.
pub record Resumes (played : List ℕ) (keys_before keys_left kept_before kept_now before now : Option (List ℕ))
    (old : EditorValue Reading) (result : Result End RunFault) (new : EditorValue Reading) : Type 0 where
  pub from : EditorValue Reading
  pub plays : Plays old played from
  pub run : IsRun keys_before keys_left before now from result new
  pub whole : Plays old (played ++ run.keys) (over run.sources new.editing)
  pub kept : (all : List ℕ) → keys_before ≡ Some all → Appends kept_before kept_now (kept_of run.keys)
