-- The bytes that show a state on the screen.
use Rattle.std.specs.Prelude.{ℕ, List}
use Rattle.text_lines.specs.Screen.{screen_of}
use Rattle.screen_editor.specs.State.{EditorState, last_revision, current}

abbrev pub frame_of : EditorState → List ℕ
frame_of s = screen_of (current s) s.place (last_revision s) s.message
