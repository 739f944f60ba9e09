-- Keys typed one behind the other, and the size of a text that is edited.
use Rattle.std.specs.Prelude.{ℕ, List, [], ◌∷◌, None, false}
use Rattle.std.specs.List.{flat_map, range_with_len}
use Rattle.lazy_file.specs.SourceTexts.{Stated}
use Rattle.screen_editor.specs.Keys.{key_of}
use Rattle.screen_editor.specs.State.{EditorState}
use Rattle.screen_editor.specs.Machine.{step}

-- the state behind the keys of these bytes
abbrev pub typed : List ℕ → EditorState → EditorState
typed [] s = s
typed (b ∷ bs) s = typed bs (step (key_of b) s)

-- `a`, `b`, `c`, line start, mark, right, right, cut
abbrev pub cut_of_ab : List ℕ
cut_of_ab = 0x61 ∷ 0x62 ∷ 0x63 ∷ 0x01 ∷ 0x00 ∷ 0x06 ∷ 0x06 ∷ 0x17 ∷ []

-- seventeen times `a`, mark, left, cut
abbrev pub seventeen_cuts : List ℕ
seventeen_cuts = flat_map (λ _. 0x61 ∷ 0x00 ∷ 0x02 ∷ 0x17 ∷ []) (range_with_len 0 17)

-- one source of so many bytes, of which none is stated
abbrev pub stated_of_size : ℕ → Stated
stated_of_size n = record { sizes = n ∷ []; texts = None ∷ []; never_fails = false }
