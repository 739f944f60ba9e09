-- The words of each command.
use Rattle.std.specs.Prelude.{◌≡◌, ℕ, ◌+◌, ◌-◌, get_or, ◌^◌, ◌<◌, ◌≤◌, if◌then◌else◌, List, [], ◌∷◌, ◌++◌, take, drop, Option, Some, None, codes}
use Rattle.std.specs.List.{AllByRecursion}
use Rattle.std.specs.Str.{bytes_eq}
use Rattle.command_parts.specs.declared.codes.TheConstants.{MANY}
use Rattle.command_parts.specs.declared.edit.Splice.{Splice}
use Rattle.command_parts.specs.Commands.{FullEdit, New, Open, Insert, Delete, Replace, Paste, Join, Cut, Fill, Back, Balance, Many}
use Rattle.edit_script.specs.Words.{Word, Name, Number, Quoted}

-- the place, the length and the bytes of each splice
abbrev pub splice_words : List ℕ → List Splice → List Word
splice_words pool [] = []
splice_words pool (s ∷ splices) =
    Number s.p ∷ Number s.m ∷ Quoted (take s.n (drop s.a pool)) ∷ splice_words pool splices

-- its name and its numbers, in the order in which a session takes them
abbrev pub front_of : FullEdit → List Word
front_of New = Name (codes "new") ∷ []
front_of (Open s) = Name (codes "open") ∷ Number s ∷ []
front_of (Insert r p a n) = Name (codes "insert") ∷ Number r ∷ Number p ∷ []
front_of (Delete r p n) = Name (codes "delete") ∷ Number r ∷ Number p ∷ Number n ∷ []
front_of (Replace r p m a n) = Name (codes "replace") ∷ Number r ∷ Number p ∷ Number m ∷ []
front_of (Paste r p q i n) = Name (codes "paste") ∷ Number r ∷ Number p ∷ Number q ∷ Number i ∷ Number n ∷ []
front_of (Join r q) = Name (codes "join") ∷ Number r ∷ Number q ∷ []
front_of (Cut r i n) = Name (codes "cut") ∷ Number r ∷ Number i ∷ Number n ∷ []
front_of (Fill r p c n) = Name (codes "fill") ∷ Number r ∷ Number p ∷ Number c ∷ Number n ∷ []
front_of (Back r) = Name (codes "back") ∷ Number r ∷ []
front_of (Balance r) = Name (codes "balance") ∷ Number r ∷ []
front_of (Many r splices) = Name (codes "many") ∷ Number r ∷ []

-- in place of a place in the pool, the bytes that stand there
abbrev pub quoted_texts : List ℕ → FullEdit → List Word
quoted_texts pool (Insert r p a n) = Quoted (take n (drop a pool)) ∷ []
quoted_texts pool (Replace r p m a n) = Quoted (take n (drop a pool)) ∷ []
quoted_texts pool (Many r splices) = splice_words pool splices
quoted_texts pool _ = []

abbrev pub words_of : List ℕ → FullEdit → List Word
words_of pool edit = front_of edit ++ quoted_texts pool edit

-- the bytes that a command names stand in a pool of so many
abbrev pub StandsInside : ℕ → FullEdit → Type 0
StandsInside size (Insert r p a n) = a + n ≤ size
StandsInside size (Replace r p m a n) = a + n ≤ size
StandsInside size (Many r splices) = AllByRecursion (λ (s : Splice). s.a + s.n ≤ size) splices
StandsInside size edit = Unit {0}

-- what may stand behind a name: the number of a revision or a source, a place or length, a byte, bytes in quotes
pub data Kind : Type 0 where
  Revision : Kind
  Place : Kind
  Byte : Kind
  Text : Kind

-- the kinds of the words behind a name, and those of words that may follow them, again and again
pub record Shape : Type 0 where
  pub once : List Kind
  pub again : List Kind

abbrev pub only : List Kind → Shape
only kinds = record { once = kinds; again = [] }

-- a splice is a place, a length and bytes
abbrev pub splice_kinds : List Kind
splice_kinds = Place ∷ Place ∷ Text ∷ []

-- the names, each with the shape of the words behind it
abbrev pub shapes : List (List ℕ × Shape)
shapes =
    (codes "new", only [])
    ∷ (codes "open", only (Revision ∷ []))
    ∷ (codes "insert", only (Revision ∷ Place ∷ Text ∷ []))
    ∷ (codes "delete", only (Revision ∷ Place ∷ Place ∷ []))
    ∷ (codes "replace", only (Revision ∷ Place ∷ Place ∷ Text ∷ []))
    ∷ (codes "paste", only (Revision ∷ Place ∷ Revision ∷ Place ∷ Place ∷ []))
    ∷ (codes "join", only (Revision ∷ Revision ∷ []))
    ∷ (codes "cut", only (Revision ∷ Place ∷ Place ∷ []))
    ∷ (codes "fill", only (Revision ∷ Place ∷ Byte ∷ Place ∷ []))
    ∷ (codes "back", only (Revision ∷ []))
    ∷ (codes "balance", only (Revision ∷ []))
    ∷ (codes "many", record { once = Revision ∷ []; again = splice_kinds })
    ∷ []

abbrev pub shape_in : List (List ℕ × Shape) → List ℕ → Option Shape
shape_in [] name = None
shape_in (x ∷ xs) name = if bytes_eq name x.0 then Some x.1 else shape_in xs name

abbrev pub shape_of : List ℕ → Option Shape
shape_of name = shape_in shapes name

-- the code of the command of this name, where there is one
abbrev pub IsNamed : List ℕ → Option ℕ → Type 0
IsNamed name None = shape_of name ≡ None
IsNamed name (Some code) = (1 ≤ code) × (code ≤ MANY) × (name ≡ (get_or shapes (code - 1) ([], only [])).0)

abbrev pub Suits : Kind → Word → Type 0
Suits Revision (Number n) = n < 2 ^ 32
Suits Place (Number n) = n < 2 ^ 64
Suits Byte (Number n) = n < 256
Suits Text (Quoted bytes) = Unit {0}
Suits kind word = ⊥

-- words of these kinds, and then, any number of times, words of the kinds in again
abbrev pub HasKinds : List Kind → List Kind → List Word → Type 0
HasKinds again [] [] = Unit {0}
HasKinds again (k ∷ kinds) (w ∷ ws) = Suits k w × HasKinds again kinds ws
HasKinds (k ∷ again) [] (w ∷ ws) = Suits k w × HasKinds (k ∷ again) again ws
HasKinds again kinds ws = ⊥

-- a name of a table, and words of its shape
abbrev pub IsNamedIn : List (List ℕ × Shape) → List Word → Type 0
IsNamedIn table (Name name ∷ ws) =
    (shape : Shape) × (shape_in table name ≡ Some shape) × HasKinds shape.again shape.once ws
IsNamedIn table words = ⊥

-- no words at all, or a command's name and words of its shape
abbrev pub IsLine : List Word → Type 0
IsLine (Name name ∷ ws) = (shape : Shape) × (shape_of name ≡ Some shape) × HasKinds shape.again shape.once ws
IsLine words = words ≡ []

-- what stands in quotes are bytes
abbrev pub HasBytes : Word → Type 0
HasBytes (Quoted bytes) = AllByRecursion (λ b. b < 256) bytes
HasBytes word = Unit {0}

-- a command that has a line
pub record IsPrintable (ws : List Word) : Type 0 where
  pub command : IsLine ws
  pub bytes : AllByRecursion HasBytes ws
