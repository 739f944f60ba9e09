-- What each key does.
use Rattle.std.specs.Prelude.{ℕ, ◌+◌, ◌-◌, ◌==◌, min, max, nat_lt, if◌then◌else◌, List, [], ◌∷◌, ◌++◌, length, take, drop, Option, Some, None}
use Rattle.std.specs.Option.{option_map}
use Rattle.command_parts.specs.declared.edit.Edit.{Edit}
use Rattle.command_parts.specs.declared.edit.Edit.TheVariants as Recorded
use Rattle.command_parts.specs.Commands.{replaced}
use Rattle.screen_editor.specs.declared.key.Key.{Key}
use Rattle.screen_editor.specs.declared.key.Key.TheVariants.{Typed, EraseBefore, EraseAt, Left, Right, LineStart, LineEnd, Up, Down, Mark, Cut, Paste, DropCut, Undo, Balance, Save, Leave, Nothing}
use Rattle.screen_editor.specs.declared.cut_span.CutSpan.{CutSpan}
use Rattle.screen_editor.specs.declared.cut_span.TheConstants.{MOST_CUTS}
use Rattle.text_lines.specs.Lines.{line_start, line_end, place_up, place_down}
use Rattle.screen_editor.specs.State.{EditorState, last_revision, text_of, prior_of, current}

abbrev pub moved : EditorState → ℕ → EditorState
moved s p = record s { place = p }

-- a new revision of this text and prior takes the mark away
abbrev pub revised : EditorState → List ℕ → Option ℕ → ℕ → EditorState
revised s t prior p = record s { texts = s.texts ++ t ∷ []; priors = s.priors ++ prior ∷ []; place = p; mark = None }

-- a new revision: the last one with its m bytes from p on replaced by x; the place is then q
abbrev pub edited : EditorState → ℕ → ℕ → List ℕ → ℕ → EditorState
edited s p m x q = revised s (replaced (current s) p m x) (Some (last_revision s)) q

-- the bytes from a up to b join the cut spans, the oldest of 16 falling out, and are deleted
abbrev pub cut_out : EditorState → ℕ → ℕ → EditorState
cut_out s a b =
    edited (record s {
      cuts = take MOST_CUTS (record {
        revision = last_revision s;
        start = a;
        len = b - a;
      } ∷ s.cuts);
    }) a (b - a) [] a

abbrev pub cut_to : Option ℕ → EditorState → EditorState
cut_to None s = s
cut_to (Some m) s = if m == s.place then s else cut_out s (min m s.place) (max m s.place)

abbrev pub pasted : List CutSpan → EditorState → EditorState
pasted [] s = s
pasted (c ∷ cs) s = edited s s.place 0 (take c.len (drop c.start (text_of s c.revision))) (s.place + c.len)

abbrev pub gone_back : Option ℕ → EditorState → EditorState
gone_back None s = s
gone_back (Some j) s = revised s (text_of s j) (prior_of s j) (min s.place (length (text_of s j)))

-- what a key does but for the message
abbrev pub done : Key → EditorState → EditorState
done (Typed b) s = edited s s.place 0 (b ∷ []) (s.place + 1)
done EraseBefore s = if nat_lt 0 s.place then edited s (s.place - 1) 1 [] (s.place - 1) else s
done EraseAt s = if nat_lt s.place (length (current s)) then edited s s.place 1 [] s.place else s
done Left s = if nat_lt 0 s.place then moved s (s.place - 1) else s
done Right s = if nat_lt s.place (length (current s)) then moved s (s.place + 1) else s
done LineStart s = moved s (line_start (current s) s.place)
done LineEnd s = moved s (line_end (current s) s.place)
done Up s = moved s (place_up (current s) s.place)
done Down s = moved s (place_down (current s) s.place)
done Mark s = record s { mark = Some s.place }
done Cut s = cut_to s.mark s
done Paste s = pasted s.cuts s
done DropCut s = record s { cuts = drop 1 s.cuts }
done Undo s = gone_back (prior_of s (last_revision s)) s
done Balance s = revised s (current s) (Some (last_revision s)) s.place
done Save s = s
done Leave s = s
done Nothing s = s

-- every key but Save and Leave clears the message
abbrev pub message_after : Key → Option (List ℕ) → Option (List ℕ)
message_after Save m = m
message_after Leave m = m
message_after _ m = None

abbrev pub step : Key → EditorState → EditorState
step key s = record (done key s) { message = message_after key s.message }

abbrev pub refused : List ℕ → EditorState → EditorState
refused code s = record s { message = Some code }

-- what takes away the bytes between mark and place, and what puts in the bytes that were cut last
abbrev pub cutting : Option ℕ → EditorState → Option Edit
cutting None s = None
cutting (Some m) s =
    if m == s.place then None else Some (Recorded.Delete (last_revision s) (min m s.place)
    (max m s.place - min m s.place))

abbrev pub pasting : List CutSpan → EditorState → Option Edit
pasting [] s = None
pasting (c ∷ cs) s = Some (Recorded.Paste (last_revision s) s.place c.revision c.start c.len)

-- the command by which a key makes a revision, where it makes one; bytes typed stand in the pool from a on
abbrev pub edit_by_key : ℕ → Key → EditorState → Option Edit
edit_by_key a (Typed b) s = Some (Recorded.Insert (last_revision s) s.place a 1)
edit_by_key a EraseBefore s =
    if nat_lt 0 s.place then Some (Recorded.Delete (last_revision s) (s.place - 1) 1) else None
edit_by_key a EraseAt s =
    if nat_lt s.place (length (current s)) then Some (Recorded.Delete (last_revision s) s.place 1) else None
edit_by_key a Cut s = cutting s.mark s
edit_by_key a Paste s = pasting s.cuts s
edit_by_key a Undo s = option_map Recorded.Back (prior_of s (last_revision s))
edit_by_key a Balance s = Some (Recorded.Balance (last_revision s))
edit_by_key a _ s = None
