-- What is known of lines of the current text, and what a key leaves of that.
use Rattle.std.specs.Prelude.{◌≡◌, ℕ, ◌≤◌, [], take, drop, get_or, Ok, Option, Some, None}
use Rattle.rope_node.specs.Denotes.{text}
use Rattle.lazy_file.specs.SourceTexts.{Agrees, Stated}
use Rattle.lazy_file.specs.Readings.{Reading}
use Rattle.cord_position.specs.Fetched.{AreStated}
use Rattle.cord_search.specs.Stated.{OfText}
use Rattle.command_parts.specs.declared.edit.Edit.{Edit}
use Rattle.command_parts.specs.declared.edit.Edit.TheVariants.{Delete}
use Rattle.edit_commands.specs.Session.{HoldsHistory, SessionValue, cells_of, edit_of, session_table, texts_of}
use Rattle.screen_editor.specs.declared.cut_span.CutSpan.{CutSpan}
use Rattle.screen_editor.specs.declared.known.KnownText.{KnownText}
use Rattle.screen_editor.specs.declared.key.Key.{Key}
use Rattle.text_lines.specs.declared.known_lines.KnownLines.{KnownLines}
use Rattle.screen_editor.specs.Editing.{Editing, current_root, last_of, state_of}
use Rattle.text_lines.specs.Lines.{HasBreak}
use Rattle.text_lines.specs.KnownLines.{IsKnownIn}
use Rattle.screen_editor.specs.LineKeys.{Takes}
use Rattle.screen_editor.specs.Machine.{edit_by_key}
use Rattle.screen_editor.specs.State.{current}

-- what is known are lines of the current text, where each of its cells is stated
abbrev pub IsKnownLine : Stated → Editing → KnownLines → Type 0
IsKnownLine st e known = OfText (session_table e.session) st (current_root e) (IsKnownIn known)

-- No deletion that made a revision from this one on took out a line break, whatever bytes the sources have that agree
-- with what they state, where each cell of the text before it is stated.
abbrev pub TakeNoBreak : Stated → SessionValue → ℕ → Type 0
TakeNoBreak st v from =
    (k r p n : ℕ) → from ≤ k → edit_of v k ≡ Some (Delete r p n) → (source : ℕ → ℕ → ℕ) → Agrees st source
    → AreStated st (get_or (cells_of v) r []) → ¬ HasBreak (take n (drop p (text source (get_or (cells_of v) r []))))

-- these are such lines, and such a revision
abbrev pub IsKnownText : Stated → Editing → KnownText → Type 0
IsKnownText st e known = IsKnownLine st e known.lines × TakeNoBreak st e.session known.plain_from

-- where these lines were known before a key, those are known behind it, if the key is taken
abbrev pub LinesStay : Key → Editing → KnownLines → KnownLines → Type 0
LinesStay key old known later =
    (before now : Reading) (new : Editing) → Takes key before old (Ok tt) now new → HoldsHistory new.session
    → IsKnownLine before.stated old known → IsKnownLine before.stated new later

-- where lines and a revision were known before a key, those lines are known behind it, if the key is taken
abbrev pub LinesBehind : Key → Editing → KnownText → KnownLines → Type 0
LinesBehind key old known later =
    (before now : Reading) (new : Editing) → Takes key before old (Ok tt) now new → HoldsHistory new.session
    → IsKnownText before.stated old known → IsKnownLine before.stated new later

-- both are known behind it
abbrev pub StaysKnown : Key → Editing → KnownText → KnownText → Type 0
StaysKnown key old known later =
    (before now : Reading) (new : Editing) → Takes key before old (Ok tt) now new → HoldsHistory new.session
    → IsKnownText before.stated old known → IsKnownText before.stated new later

-- that revision is known behind it
abbrev pub PlainBehind : Key → Editing → KnownText → ℕ → Type 0
PlainBehind key old known later =
    (before now : Reading) (new : Editing) → Takes key before old (Ok tt) now new → HoldsHistory new.session
    → IsKnownText before.stated old known → TakeNoBreak before.stated new.session later

-- what a key takes out of the current text: these bytes, or none
abbrev pub TakesSpan : Key → Editing → Option CutSpan → Type 0
TakesSpan key e (Some out) =
    (out.revision ≡ last_of e) × ((a : ℕ) (source : ℕ → ℕ → ℕ)
    → edit_by_key a key (state_of source e) ≡ Some (Delete (last_of e) out.start out.len))
TakesSpan key e None =
    (a r p n : ℕ) (source : ℕ → ℕ → ℕ) → edit_by_key a key (state_of source e) ≡ Some (Delete r p n) → ⊥

-- the command of a revision that has the current text, and from which Undo goes back as from the last one
pub record IsMaker (e : Editing) (revision : ℕ) (edit : Edit) : Type 0 where
  pub is : edit_of e.session revision ≡ Some edit
  pub text : (source : ℕ → ℕ → ℕ) → get_or (texts_of source e.session) revision [] ≡ current (state_of source e)
  pub prior : get_or e.priors revision None ≡ get_or e.priors (last_of e) None
