-- What a run takes and shows whose keys are typed at a terminal: frames may be left out where more keys are there.
use Rattle.std.specs.Prelude.{◌≡◌, ◌⊎◌, ℕ, ◌+◌, ◌≤◌, List, [], ◌∷◌, ◌++◌, length, slice_get, ◌==◌, if◌then◌else◌, Bool, true, false, Option, Some, None, Result, Ok, Err}
use Rattle.std.specs.Io.KnownBytes.{Appends, Consumes, IsAtEnd}
use Rattle.key_journal.specs.Keys.{kept_of}
use Rattle.lazy_file.specs.SourceTexts.{Stated}
use Rattle.lazy_file.specs.Readings.{Reading}
use Rattle.screen_editor.specs.declared.fault.End.{End}
use Rattle.screen_editor.specs.declared.fault.End.TheVariants.{Save, Leave}
use Rattle.screen_editor.specs.declared.fault.RunFault.{RunFault}
use Rattle.screen_editor.specs.declared.fault.RunFault.TheVariants.{Read, Write, Frame, TooManyKeys}
use Rattle.screen_editor.specs.declared.key.Step.{Step}
use Rattle.screen_editor.specs.declared.running.TheConstants.{MOST_KEYS}
use Rattle.screen_editor.specs.Editing.{Editing, EditorValue, over}
use Rattle.screen_editor.specs.Keys.{answer_to, key_of}
use Rattle.screen_editor.specs.Playing.{Plays}
use Rattle.screen_editor.specs.Runs.{AnswersByte, EndsBy, EndsOver, MakesFrame, MayGoOn, NoKeyEndsRun, StatesFollow}
use Rattle.screen_editor.specs.Turns.{Streams, TakesNone}
use Rattle.screen_editor.specs.Watched.{ShowsWatched, ShowsWatchedPrefix, Watched, untaken_behind, untaken_by, watch}

-- ---- the states of a run, and those that are shown

-- the state behind a byte that led to this editor's state: nothing is told before the first key any more
abbrev pub watched_behind : ℕ → Editing → Watched → Watched
watched_behind b e w = watch None (untaken_by (key_of b) w.untaken) e

-- the state before these keys, and those behind each of them
abbrev pub watched_states : Watched → List ℕ → List Editing → List Watched
watched_states w [] es = w ∷ []
watched_states w (b ∷ bs) [] = w ∷ []
watched_states w (b ∷ bs) (e ∷ es) = w ∷ watched_states (watched_behind b e w) bs es

-- those of the first states that are chosen
abbrev pub chosen : List Bool → List Watched → List Watched
chosen [] ws = []
chosen (c ∷ cs) [] = []
chosen (true ∷ cs) (w ∷ ws) = w ∷ chosen cs ws
chosen (false ∷ cs) (w ∷ ws) = chosen cs ws

-- of the first n states some are shown, in their order
abbrev pub ShowsSome : Stated → Option (List ℕ) → Option (List ℕ) → ℕ → List Watched → Type 0
ShowsSome st before now n ws = (cs : List Bool) × (length cs ≡ n) × ShowsWatched st before now (chosen cs ws)

-- of the first n states some are shown, and then the next one
abbrev pub ShowsLast : Stated → Option (List ℕ) → Option (List ℕ) → ℕ → List Watched → Type 0
ShowsLast st before now n ws =
    (cs : List Bool) × (length cs ≡ n) × ShowsWatched st before now (chosen (cs ++ true ∷ []) ws)

-- a prefix of what shows some of the first n states
abbrev pub ShowsSomePrefix : Stated → Option (List ℕ) → Option (List ℕ) → ℕ → List Watched → Type 0
ShowsSomePrefix st before now n ws = (cs : List Bool) × (length cs ≡ n) × ShowsWatchedPrefix st before now (chosen cs ws)

-- What is answered once these keys are taken, with the states before them and behind each of them, and what is then
-- shown: where no key is left, the last state too.
abbrev pub TypedAnswers : Stated → Option (List ℕ) → Option (List ℕ) → Option (List ℕ) → List ℕ → List Watched
    → Result End RunFault → Type 0
TypedAnswers st left before now keys states (Ok Save) =
    EndsBy Step.Save keys × ShowsSome st before now (length keys) states
TypedAnswers st left before now keys states (Ok Leave) =
    (EndsBy Step.Leave keys × ShowsSome st before now (length keys) states)
    ⊎ (MayGoOn keys × IsAtEnd left × ShowsLast st before now (length keys) states)
TypedAnswers st left before now keys states (Err Read) =
    MayGoOn keys × ShowsSome st before now (length keys + 1) states
TypedAnswers st left before now keys states (Err Write) =
    MayGoOn keys × ShowsSomePrefix st before now (length keys + 1) states
TypedAnswers st left before now keys states (Err (Frame f)) =
    MayGoOn keys × ShowsSome st before now (length keys) states
TypedAnswers st left before now keys states (Err TooManyKeys) =
    NoKeyEndsRun keys × (length keys ≡ MOST_KEYS) × ShowsSome st before now (length keys) states

-- A run takes keys, of which each makes the next state from the first one, old, to the last one, new. Before the first
-- key this hint is told, and so many of the bytes before it were no key. Each frame that is written shows a state.
pub record IsTypedRun (hint : Option (List ℕ)) (untaken : ℕ) (keys_before keys_left before now : Option (List ℕ))
    (old : EditorValue Reading) (result : Result End RunFault) (new : EditorValue Reading) : Type 0 where
  pub keys : List ℕ
  pub behind : List Editing
  pub sources : Reading
  pub taken : Consumes keys_before keys_left keys
  pub few : length keys ≤ MOST_KEYS
  pub follow : StatesFollow old.sources sources old.editing keys behind
  pub last : slice_get (old.editing ∷ behind) (length keys) ≡ Some new.editing
  pub answers : TypedAnswers old.sources.stated keys_left before now keys
      (watched_states (watch hint untaken old.editing) keys behind) result
  pub ends : EndsOver sources result new

-- what is told before the first key, where none was played
abbrev pub hint_behind : List ℕ → Option (List ℕ) → Option (List ℕ)
hint_behind played hint = if length played == 0 then hint else None

-- Keys are played, and a run goes on from the state behind them: its last state is the one behind all these keys. What
-- the run took is kept.
pub record ResumesTyped (hint : Option (List ℕ)) (played : List ℕ)
    (keys_before keys_left kept_before kept_now before now : Option (List ℕ))
    (old : EditorValue Reading) (result : Result End RunFault) (new : EditorValue Reading) : Type 0 where
  pub from : EditorValue Reading
  pub plays : Plays old played from
  pub run : IsTypedRun (hint_behind played hint) (untaken_behind 0 played) keys_before keys_left before now from result new
  pub whole : Plays old (played ++ run.keys) (over run.sources new.editing)
  pub kept : (all : List ℕ) → keys_before ≡ Some all → Appends kept_before kept_now (kept_of run.keys)

-- ---- one turn

-- the state, where it is shown
abbrev pub where_shown : Bool → Watched → List Watched
where_shown true w = w ∷ []
where_shown false w = []

-- a key of this answer is taken or refused, and the state before it was shown, or was not
pub record TypesOne (keys_before keys_left before now : Option (List ℕ)) (answer : Step) (w : Watched)
    (old new : EditorValue Reading) (untaken : ℕ) : Type 0 where
  pub byte : ℕ
  pub key : Consumes keys_before keys_left (byte ∷ [])
  pub answers : answer_to (key_of byte) ≡ answer
  pub passes : AnswersByte old.sources new.sources byte old.editing new.editing
  pub count : untaken ≡ untaken_by (key_of byte) w.untaken
  pub is_shown : Bool
  pub shown : ShowsWatched old.sources.stated before now (where_shown is_shown w)

-- no key is taken behind the last one, and the state was shown
pub record TypesNone (keys_before keys_left before now : Option (List ℕ)) (w : Watched) (old new : EditorValue Reading)
    : Type 0 where
  pub none : TakesNone keys_before keys_left old.editing new.editing
  pub at_end : IsAtEnd keys_left
  pub shown : ShowsWatched old.sources.stated before now (w ∷ [])
  pub unfailed : new.sources ≡ old.sources

-- what the screen took where a state was not shown, and why there was no frame
abbrev pub NotWatched : Option (List ℕ) → Option (List ℕ) → Watched → EditorValue Reading → EditorValue Reading
    → RunFault → Type 0
NotWatched before now w old new Write =
    ShowsWatchedPrefix old.sources.stated before now (w ∷ []) × (new.sources ≡ old.sources)
NotWatched before now w old new (Frame f) =
    ShowsWatched old.sources.stated before now [] × MakesFrame old (Err f) new
NotWatched before now w old new _ = ⊥

-- what the screen took where no key was taken for this reason
abbrev pub WatchedFault : Option (List ℕ) → Option (List ℕ) → Watched → EditorValue Reading → EditorValue Reading
    → RunFault → Type 0
WatchedFault before now w old new Read =
    (is_shown : Bool) × ShowsWatched old.sources.stated before now (where_shown is_shown w) × (new.sources ≡ old.sources)
WatchedFault before now w old new Write =
    (is_shown : Bool) × ShowsWatchedPrefix old.sources.stated before now (where_shown is_shown w)
    × (new.sources ≡ old.sources)
WatchedFault before now w old new (Frame f) =
    ShowsWatched old.sources.stated before now [] × MakesFrame old (Err f) new
WatchedFault before now w old new TooManyKeys = ⊥

-- a turn of the editor from old to new, where w is the old state and so many bytes are not taken then
abbrev pub IsTypedTurn : Streams → Streams → Watched → EditorValue Reading → Result (Option End) RunFault
    → EditorValue Reading → ℕ → Type 0
IsTypedTurn before now w old (Ok None) new n =
    TypesOne before.keys now.keys before.screen now.screen Step.Going w old new n
IsTypedTurn before now w old (Ok (Some Save)) new n =
    TypesOne before.keys now.keys before.screen now.screen Step.Save w old new n
IsTypedTurn before now w old (Ok (Some Leave)) new n =
    TypesOne before.keys now.keys before.screen now.screen Step.Leave w old new n
    ⊎ TypesNone before.keys now.keys before.screen now.screen w old new
IsTypedTurn before now w old (Err fault) new n =
    TakesNone before.keys now.keys old.editing new.editing × WatchedFault before.screen now.screen w old new fault
