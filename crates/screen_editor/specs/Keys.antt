-- What each byte from the keyboard asks for, and what each key does.
use Rattle.std.specs.Prelude.{ℕ, Bool, true, false, ◌&&◌, ◌==◌, nat_le, if◌then◌else◌, List, [], ◌∷◌}
use Rattle.screen_editor.specs.declared.key.Step.{Step}
use Rattle.screen_editor.specs.declared.key.LinePlace.TheVariants as LinePlace
use Rattle.screen_editor.specs.declared.key.Effect.{Effect}
use Rattle.screen_editor.specs.declared.key.Effect.TheVariants.{Looks, Moves, Edits, Ends}
use Rattle.screen_editor.specs.declared.key.Key.{Key}
use Rattle.screen_editor.specs.declared.key.Key.TheVariants.{Typed, EraseBefore, EraseAt, Left, Right, LineStart, LineEnd, Up, Down, Mark, Cut, Paste, DropCut, Undo, Balance, Save, Leave, Nothing}

-- the control bytes that are keys, each with its own
abbrev pub key_table : List (ℕ × Key)
key_table =
    (0x09, Typed 0x09)
    ∷ (0x0A, Typed 0x0A)
    ∷ (0x0D, Typed 0x0A)
    ∷ (0x08, EraseBefore)
    ∷ (0x7F, EraseBefore)
    ∷ (0x04, EraseAt)
    ∷ (0x02, Left)
    ∷ (0x06, Right)
    ∷ (0x01, LineStart)
    ∷ (0x05, LineEnd)
    ∷ (0x10, Up)
    ∷ (0x0E, Down)
    ∷ (0x00, Mark)
    ∷ (0x17, Cut)
    ∷ (0x19, Paste)
    ∷ (0x14, DropCut)
    ∷ (0x15, Undo)
    ∷ (0x0C, Balance)
    ∷ (0x18, Save)
    ∷ (0x03, Leave)
    ∷ []

-- the key of the first row with this byte; where there is none, nothing
abbrev pub key_in : List (ℕ × Key) → ℕ → Key
key_in [] b = Nothing
key_in (row ∷ rows) b = if b == row.0 then row.1 else key_in rows b

-- what a byte asks for; one that is no key asks for nothing
abbrev pub key_of : ℕ → Key
key_of b = if nat_le 0x20 b && nat_le b 0x7E then Typed b else key_in key_table b

-- whether a key looks for line breaks, edits, ends the run, or leaves the text as it is
abbrev pub effect_of : Key → Effect
effect_of (Typed b) = Edits
effect_of EraseBefore = Edits
effect_of EraseAt = Edits
effect_of Left = Moves
effect_of Right = Moves
effect_of LineStart = Looks LinePlace.Start
effect_of LineEnd = Looks LinePlace.End
effect_of Up = Looks LinePlace.Above
effect_of Down = Looks LinePlace.Below
effect_of Mark = Moves
effect_of Cut = Edits
effect_of Paste = Edits
effect_of DropCut = Moves
effect_of Undo = Edits
effect_of Balance = Edits
effect_of Save = Ends Step.Save
effect_of Leave = Ends Step.Leave
effect_of Nothing = Moves

-- whether it looks for line breaks
abbrev pub is_look : Effect → Bool
is_look (Looks place) = true
is_look _ = false

-- the keys that look for line breaks
abbrev pub looks_for_lines : Key → Bool
looks_for_lines key = is_look (effect_of key)

-- whether the editor goes on behind it
abbrev pub answer_by : Effect → Step
answer_by (Ends step) = step
answer_by _ = Step.Going

-- what a key answers
abbrev pub answer_to : Key → Step
answer_to key = answer_by (effect_of key)
