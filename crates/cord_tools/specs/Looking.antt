-- The keys that make no revision.
use Rattle.std.specs.Prelude.{◌≡◌, ℕ, List, Bool, true, false, None, All}
use Rattle.screen_editor.specs.declared.key.Key.{Key}
use Rattle.screen_editor.specs.declared.key.Effect.{Effect}
use Rattle.screen_editor.specs.declared.key.Effect.TheVariants.{Looks, Moves}
use Rattle.screen_editor.specs.Keys.{effect_of, key_of}
use Rattle.screen_editor.specs.State.{EditorState}
use Rattle.screen_editor.specs.Machine.{edit_by_key}

-- whether what a key does leaves the text as it is, and goes on
abbrev pub leaves_the_text : Effect → Bool
leaves_the_text (Looks place) = true
leaves_the_text Moves = true
leaves_the_text _ = false

-- the keys that go somewhere, set the mark or drop a cut, and those that are none
abbrev pub only_looks : Key → Bool
only_looks key = leaves_the_text (effect_of key)

-- in no state does the key make a command
abbrev pub MakesNothing : Key → Type 0
MakesNothing key = (a : ℕ) (s : EditorState) → edit_by_key a key s ≡ None

abbrev pub AllMakeNothing : List ℕ → Type 0
AllMakeNothing keys = All (λ b. MakesNothing (key_of b)) keys
