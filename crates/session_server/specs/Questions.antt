-- What a line asks for.
use Rattle.std.specs.Prelude.{◌≡◌, ℕ, ◌-◌, ◌≤◌, List, [], ◌∷◌, get_or, codes, Option, Some, None}
use Rattle.edit_script.specs.Words.{Word, Name, Number, Quoted, HasWords, behind_blanks}
use Rattle.edit_script.specs.Commands.{Place, Revision, Text, Shape, IsNamedIn, only, shape_in}
use Rattle.edit_script.specs.Reading.{behind_front, front_word, named_in}
use Rattle.session_server.specs.declared.question.Question.{Question}
use Rattle.session_server.specs.declared.question.Question.TheVariants.{Last, Length, Bytes, Find, Sync, Save, Quit}

-- the words of a question; a search is for the pattern
abbrev pub asked_words : List ℕ → Question → List Word
asked_words pattern Last = Name (codes "last") ∷ []
asked_words pattern (Length r) = Name (codes "length") ∷ Number r ∷ []
asked_words pattern (Bytes r i n) = Name (codes "bytes") ∷ Number r ∷ Number i ∷ Number n ∷ []
asked_words pattern (Find r i) = Name (codes "find") ∷ Number r ∷ Number i ∷ Quoted pattern ∷ []
asked_words pattern Sync = Name (codes "sync") ∷ []
asked_words pattern Save = Name (codes "save") ∷ []
asked_words pattern Quit = Name (codes "quit") ∷ []

-- the names of questions, each with the shape of the words behind it
abbrev pub question_shapes : List (List ℕ × Shape)
question_shapes =
    (codes "last", only [])
    ∷ (codes "length", only (Revision ∷ []))
    ∷ (codes "bytes", only (Revision ∷ Place ∷ Place ∷ []))
    ∷ (codes "find", only (Revision ∷ Place ∷ Text ∷ []))
    ∷ (codes "sync", only [])
    ∷ (codes "save", only [])
    ∷ (codes "quit", only [])
    ∷ []

-- words that ask for something
abbrev pub IsQuestion : List Word → Type 0
IsQuestion words = IsNamedIn question_shapes words

-- these words stand in the line, and ask for something
pub record AsksBy (line : List ℕ) (words : List Word) : Type 0 where
  pub known : IsQuestion words
  pub stand : HasWords line words

-- no such words stand in it
abbrev pub AsksNothing : List ℕ → Type 0
AsksNothing line = (words : List Word) → IsQuestion words → HasWords line words → ⊥

-- ---- reading from left to right

-- the number of the question of this name, where there is one
abbrev pub IsNumbered : List ℕ → Option ℕ → Type 0
IsNumbered name None = shape_in question_shapes name ≡ None
IsNumbered name (Some number) =
    (1 ≤ number) × (number ≤ 7) × (name ≡ (get_or question_shapes (number - 1) ([], only [])).0)

-- the words by which a line asks for something
abbrev pub question_at : List ℕ → Option (List Word)
question_at line = named_in question_shapes (front_word (behind_blanks line)) (behind_front (behind_blanks line))
