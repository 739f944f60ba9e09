-- What a run takes, shows and answers.
use Rattle.std.specs.Prelude.{◌≡◌, ◌⊎◌, ℕ, ◌<◌, ◌≤◌, List, [], ◌∷◌, ◌++◌, length, take, slice_get, All, Option, Some, Result, Ok, Err, IfOk}
use Rattle.std.specs.Global.{Vec}
use Rattle.std.specs.List.{flat_map}
use Rattle.std.specs.Io.KnownBytes.{Appends, Consumes, IsAtEnd}
use Rattle.lazy_file.specs.SourceTexts.{Agrees, Stated}
use Rattle.lazy_file.specs.Readings.{Reading}
use Rattle.cord_position.specs.Fetched.{IsStated}
use Rattle.screen_editor.specs.declared.fault.End.{End}
use Rattle.screen_editor.specs.declared.fault.End.TheVariants.{Save, Leave}
use Rattle.text_lines.specs.declared.fault.FrameFault.{FrameFault}
use Rattle.screen_editor.specs.declared.fault.KeyFault.{KeyFault}
use Rattle.screen_editor.specs.declared.key.Step.{Step}
use Rattle.screen_editor.specs.declared.running.TheConstants.{MOST_KEYS}
use Rattle.screen_editor.specs.declared.fault.RunFault.{RunFault}
use Rattle.screen_editor.specs.declared.fault.RunFault.TheVariants.{Read, Write, Frame, TooManyKeys}
use Rattle.screen_editor.specs.Editing.{Editing, EditorValue, EachCurrent, current_cell, current_len, over, state_of}
use Rattle.screen_editor.specs.Keys.{answer_to, key_of}
use Rattle.screen_editor.specs.Revising.{TakesKey}
use Rattle.byte_output.specs.Prefix.{AppendsPrefix}
use Rattle.screen_editor.specs.Frame.{frame_of}
use Rattle.text_lines.specs.Showing.{ReadsToShow}

-- the bytes that show it, whatever bytes the sources have that agree with what they state, where each cell of the text
-- is stated
abbrev pub IsFrame : Stated → Editing → List ℕ → Type 0
IsFrame st e bytes =
    (source : ℕ → ℕ → ℕ) → Agrees st source → EachCurrent e (IsStated st) → bytes ≡ frame_of (state_of source e)

-- a frame is made, or memory was refused, or the one read failed that is told; nothing but the sources changes
pub record MakesFrame (old : EditorValue Reading) (result : Result (Vec ℕ) FrameFault) (new : EditorValue Reading)
    : Type 0 where
  pub bytes : IfOk result (λ v. IsFrame old.sources.stated old.editing v.items)
  pub reads : ReadsToShow old.sources new.sources (current_cell old.editing) (current_len old.editing) result
  pub kept : new.editing ≡ old.editing

-- what is known of the same sources later: they state the same, and of each as many reads have failed, or more
pub record IsLater (before after : Reading) : Type 0 where
  pub same : after.stated ≡ before.stated
  pub later : (s : ℕ) → before.failures s ≤ after.failures s

-- a byte's key is taken, or refused for a reason, over these first sources and then those
pub record AnswersByte (first now : Reading) (b : ℕ) (old new : Editing) : Type 0 where
  pub result : Result Step KeyFault
  pub takes : TakesKey (key_of b) (over first old) result (over now new)

-- each state follows from the one before it, from the first sources to the last ones
abbrev pub StatesFollow : Reading → Reading → Editing → List ℕ → List Editing → Type 0
StatesFollow first last old [] [] = last ≡ first
StatesFollow first last old [] (e ∷ es) = ⊥
StatesFollow first last old (b ∷ bs) [] = ⊥
StatesFollow first last old (b ∷ bs) (e ∷ es) =
    (now : Reading) × AnswersByte first now b old e × StatesFollow now last e bs es

-- the frames of these states, one behind the other
abbrev pub frames_of : (ℕ → ℕ → ℕ) → List Editing → List ℕ
frames_of source es = flat_map (λ e. frame_of (state_of source e)) es

-- P holds of the frames of these states, whatever bytes the sources have that agree with what they state, where each
-- text is stated
abbrev pub OfFrames : Stated → List Editing → (List ℕ → Type 0) → Type 0
OfFrames st es P =
    (source : ℕ → ℕ → ℕ) → Agrees st source → All (λ e. EachCurrent e (IsStated st)) es → P (frames_of source es)

abbrev pub Shows : Stated → Option (List ℕ) → Option (List ℕ) → List Editing → Type 0
Shows st before now es = OfFrames st es (Appends before now)

abbrev pub ShowsPrefix : Stated → Option (List ℕ) → Option (List ℕ) → List Editing → Type 0
ShowsPrefix st before now es = OfFrames st es (AppendsPrefix before now)

-- none of these keys ends a run
abbrev pub NoKeyEndsRun : List ℕ → Type 0
NoKeyEndsRun keys = All (λ b. answer_to (key_of b) ≡ Step.Going) keys

-- none of these keys ends a run, and there may be another
abbrev pub MayGoOn : List ℕ → Type 0
MayGoOn keys = NoKeyEndsRun keys × (length keys < MOST_KEYS)

-- the last of these keys, and none before it, ends the run, by this answer
pub record EndsBy (answer : Step) (keys : List ℕ) : Type 0 where
  pub before : List ℕ
  pub last : ℕ
  pub all : keys ≡ before ++ last ∷ []
  pub answers : answer_to (key_of last) ≡ answer
  pub on : NoKeyEndsRun before

-- what is answered once these keys are taken, with the states before them and behind each of them, and what is then
-- shown
abbrev pub Answers : Stated → Option (List ℕ) → Option (List ℕ) → Option (List ℕ) → List ℕ → List Editing
    → Result End RunFault → Type 0
Answers st left before now keys states (Ok Save) =
    EndsBy Step.Save keys × Shows st before now (take (length keys) states)
Answers st left before now keys states (Ok Leave) =
    (EndsBy Step.Leave keys × Shows st before now (take (length keys) states))
    ⊎ (MayGoOn keys × IsAtEnd left × Shows st before now states)
Answers st left before now keys states (Err Read) = MayGoOn keys × Shows st before now states
Answers st left before now keys states (Err Write) = MayGoOn keys × ShowsPrefix st before now states
Answers st left before now keys states (Err (Frame f)) = MayGoOn keys × Shows st before now (take (length keys) states)
Answers st left before now keys states (Err TooManyKeys) =
    NoKeyEndsRun keys × (length keys ≡ MOST_KEYS) × Shows st before now (take (length keys) states)

-- behind the last key, over these sources: there is no frame, for this reason; or no read fails
abbrev pub EndsOver : Reading → Result End RunFault → EditorValue Reading → Type 0
EndsOver sources (Err (Frame f)) new = MakesFrame (over sources new.editing) (Err f) new
EndsOver sources _ new = new.sources ≡ sources

-- A run takes keys, of which each makes the next state from the first one, old, to the last one, new; the sources are
-- those behind the last key. Where a read failed, it was one of a key, or of the last frame, and that was told.
pub record IsRun (keys_before keys_left before now : Option (List ℕ))
    (old : EditorValue Reading) (result : Result End RunFault) (new : EditorValue Reading) : Type 0 where
  pub keys : List ℕ
  pub behind : List Editing
  pub sources : Reading
  pub taken : Consumes keys_before keys_left keys
  pub few : length keys ≤ MOST_KEYS
  pub follow : StatesFollow old.sources sources old.editing keys behind
  pub last : slice_get (old.editing ∷ behind) (length keys) ≡ Some new.editing
  pub answers : Answers old.sources.stated keys_left before now keys (old.editing ∷ behind) result
  pub ends : EndsOver sources result new
