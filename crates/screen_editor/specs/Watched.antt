-- A state as it is watched at a terminal: with a note in the message's row.
use Rattle.std.specs.Prelude.{◌≡◌, ℕ, ◌+◌, ◌==◌, nat_lt, if◌then◌else◌, List, [], ◌∷◌, ◌++◌, All, Option, Some, None, Result, IfOk, codes}
use Rattle.std.specs.Fmt.{decimal}
use Rattle.std.specs.Global.{Vec}
use Rattle.std.specs.List.{flat_map}
use Rattle.std.specs.Option.{option_map}
use Rattle.std.specs.Io.KnownBytes.{Appends}
use Rattle.lazy_file.specs.SourceTexts.{Agrees, Stated}
use Rattle.lazy_file.specs.Readings.{Reading}
use Rattle.cord_position.specs.Fetched.{IsStated}
use Rattle.byte_output.specs.Prefix.{AppendsPrefix}
use Rattle.text_lines.specs.declared.fault.FrameFault.{FrameFault}
use Rattle.text_lines.specs.Screen.{screen_of}
use Rattle.text_lines.specs.Showing.{ReadsToShow}
use Rattle.screen_editor.specs.declared.key.Key.{Key}
use Rattle.screen_editor.specs.declared.key.Key.TheVariants.{Nothing, Typed}
use Rattle.screen_editor.specs.declared.noting.TheConstants.{MOST_UNTAKEN}
use Rattle.screen_editor.specs.Editing.{Editing, EditorValue, EachCurrent, current_cell, current_len, key_code, state_of}
use Rattle.screen_editor.specs.Keys.{key_of}
use Rattle.screen_editor.specs.State.{current, last_revision}

-- the editor's state, what is told before the first key, and how many of the last bytes were no key
pub record Watched : Type 0 where
  pub editing : Editing
  pub hint : Option (List ℕ)
  pub untaken : ℕ

abbrev pub watch : Option (List ℕ) → ℕ → Editing → Watched
watch hint n e = record { editing = e; hint = hint; untaken = n }

-- ---- how many of the last bytes were no key

-- a byte that is no key is one more, up to the most that are told; a byte that is typed leaves the count, so that it is
-- there behind a paste, and any other key ends it
abbrev pub untaken_by : Key → ℕ → ℕ
untaken_by Nothing n = if nat_lt n MOST_UNTAKEN then n + 1 else n
untaken_by (Typed b) n = n
untaken_by _ n = 0

abbrev pub untaken_behind : ℕ → List ℕ → ℕ
untaken_behind n [] = n
untaken_behind n (b ∷ bs) = untaken_behind (untaken_by (key_of b) n) bs

-- ---- the note

abbrev pub untaken_text : ℕ → List ℕ
untaken_text n = codes "bytes not taken: " ++ decimal n

-- what is told before the first key; or else how many bytes were not taken; or else the message
abbrev pub note_of : Option (List ℕ) → ℕ → Option (List ℕ) → Option (List ℕ)
note_of (Some hint) n message = Some hint
note_of None n message = if n == 0 then message else Some (untaken_text n)

abbrev pub note_at : Watched → Option (List ℕ)
note_at w = note_of w.hint w.untaken (option_map key_code w.editing.message)

-- ---- frames

-- the bytes that show a state with this note
abbrev pub noted_frame : (ℕ → ℕ → ℕ) → Editing → Option (List ℕ) → List ℕ
noted_frame source e note =
    screen_of (current (state_of source e)) e.place (last_revision (state_of source e)) note

abbrev pub watched_frame : (ℕ → ℕ → ℕ) → Watched → List ℕ
watched_frame source w = noted_frame source w.editing (note_at w)

-- the bytes that show it with this note, whatever bytes the sources have that agree with what they state, where each cell
-- of the text is stated
abbrev pub IsNotedFrame : Stated → Editing → Option (List ℕ) → List ℕ → Type 0
IsNotedFrame st e note bytes =
    (source : ℕ → ℕ → ℕ) → Agrees st source → EachCurrent e (IsStated st) → bytes ≡ noted_frame source e note

-- a frame with this note is made, or memory was refused, or the one read failed that is told; nothing but the sources
-- changes
pub record MakesNoted (note : Option (List ℕ)) (old : EditorValue Reading) (result : Result (Vec ℕ) FrameFault)
    (new : EditorValue Reading) : Type 0 where
  pub bytes : IfOk result (λ v. IsNotedFrame old.sources.stated old.editing note v.items)
  pub reads : ReadsToShow old.sources new.sources (current_cell old.editing) (current_len old.editing) result
  pub kept : new.editing ≡ old.editing

-- the frames of these states, one behind the other
abbrev pub watched_frames : (ℕ → ℕ → ℕ) → List Watched → List ℕ
watched_frames source ws = flat_map (watched_frame source) ws

-- P holds of the frames of these states, whatever bytes the sources have that agree with what they state, where each text
-- is stated
abbrev pub OfWatched : Stated → List Watched → (List ℕ → Type 0) → Type 0
OfWatched st ws P =
    (source : ℕ → ℕ → ℕ) → Agrees st source → All (λ w. EachCurrent w.editing (IsStated st)) ws
    → P (watched_frames source ws)

abbrev pub ShowsWatched : Stated → Option (List ℕ) → Option (List ℕ) → List Watched → Type 0
ShowsWatched st before now ws = OfWatched st ws (Appends before now)

abbrev pub ShowsWatchedPrefix : Stated → Option (List ℕ) → Option (List ℕ) → List Watched → Type 0
ShowsWatchedPrefix st before now ws = OfWatched st ws (AppendsPrefix before now)
