-- The words of a line, and how each may be written.
use Rattle.std.specs.Prelude.{◌≡◌, ℕ, ◌+◌, ◌*◌, ◌/◌, ◌%◌, ◌<◌, Bool, not, ◌||◌, ◌&&◌, ◌==◌, nat_le, nat_lt, if◌then◌else◌, List, [], ◌∷◌, ◌++◌, Option, Some, None, codes}
use Rattle.std.specs.List.{flat_map}
use Rattle.std.specs.Fmt.{decimal, digit_glyph}
use Rattle.std.specs.Char.{digit_value}
use Rattle.std.specs.Str.Parse.{IsNumeral, digits_value}
use Rattle.std.specs.Prelude.{true, false}

-- a command's name, a number, or bytes in quotes
pub data Word : Type 0 where
  Name : List ℕ → Word
  Number : ℕ → Word
  Quoted : List ℕ → Word

-- ---- how words may stand in a line

-- a blank, a tab, and the return that some lines end with
abbrev pub is_blank : ℕ → Bool
is_blank b = (b == 32) || ((b == 9) || (b == 13))

-- a blank or the sign of a comment
abbrev pub ends_word : ℕ → Bool
ends_word b = is_blank b || (b == 35)

-- a line without the blanks that it begins with
abbrev pub behind_blanks : List ℕ → List ℕ
behind_blanks [] = []
behind_blanks (b ∷ bs) = if is_blank b then behind_blanks bs else b ∷ bs

-- what may stand right behind a word: nothing, a blank, a comment
abbrev pub IsBehindWord : List ℕ → Type 0
IsBehindWord [] = Unit {0}
IsBehindWord (b ∷ bs) = ends_word b ≡ true

-- nothing, or a comment
abbrev pub IsComment : List ℕ → Type 0
IsComment [] = Unit {0}
IsComment (b ∷ bs) = b ≡ 35

-- what stands for itself between quotes: a tab, and all from the blank on but the quote, the backslash and 127
abbrev pub is_plain : ℕ → Bool
is_plain b = (b == 9) || (nat_le 32 b && not ((b == 34) || ((b == 92) || (b == 127))))

-- the byte that a letter or sign behind a backslash stands for
abbrev pub escape_of : ℕ → Option ℕ
escape_of e =
    if e == 110 then Some 10
    else (if e == 116 then Some 9
    else (if e == 114 then Some 13
    else (if e == 92 then Some 92
    else (if e == 34 then Some 34
    else None))))

-- a byte between quotes: as it is, behind a backslash, or by two digits of base 16 behind `\x`
pub data SpellsByte (b : ℕ) (text : List ℕ) : Type 0 where
  plain : is_plain b ≡ true → text ≡ b ∷ [] → SpellsByte b text
  short : (e : ℕ) → escape_of e ≡ Some b → text ≡ 92 ∷ e ∷ [] → SpellsByte b text
  hex : (h l : ℕ) → digit_value h < 16 → digit_value l < 16 → b ≡ digit_value h * 16 + digit_value l
      → text ≡ 92 ∷ 120 ∷ h ∷ l ∷ [] → SpellsByte b text

-- bytes between quotes, one after the other
abbrev pub SpellsBytes : List ℕ → List ℕ → Type 0
SpellsBytes [] text = text ≡ []
SpellsBytes (b ∷ bs) text =
    (first : List ℕ) × (rest : List ℕ) × SpellsByte b first × SpellsBytes bs rest × (text ≡ first ++ rest)

-- a word as it may be written
abbrev pub Spells : Word → List ℕ → Type 0
Spells (Name name) text = text ≡ name
Spells (Number n) text = IsNumeral 10 text × (digits_value 10 text ≡ n)
Spells (Quoted bytes) text = (inner : List ℕ) × SpellsBytes bytes inner × (text ≡ 34 ∷ inner ++ 34 ∷ [])

-- behind its blanks the line begins with the word, and this is left
pub record BeginsWith (line : List ℕ) (word : Word) (rest : List ℕ) : Type 0 where
  pub text : List ℕ
  pub spelled : Spells word text
  pub parts : behind_blanks line ≡ text ++ rest
  pub ends : IsBehindWord rest

-- the line is these words, and then nothing or a comment
abbrev pub HasWords : List ℕ → List Word → Type 0
HasWords line [] = IsComment (behind_blanks line)
HasWords line (w ∷ ws) = (rest : List ℕ) × BeginsWith line w rest × HasWords rest ws

-- ---- the one way in which words are printed

abbrev pub is_printed_plain : ℕ → Bool
is_printed_plain b = nat_le 32 b && nat_lt b 127

abbrev pub escaped : ℕ → List ℕ
escaped b =
    if b == 10 then codes "\\n"
    else (if b == 9 then codes "\\t"
    else (if b == 13 then codes "\\r"
    else (if b == 92 then codes "\\\\"
    else (if b == 34 then codes "\\\""
    else (if is_printed_plain b then b ∷ []
    else 92 ∷ 120 ∷ digit_glyph false (b / 16) ∷ digit_glyph false (b % 16) ∷ [])))))

abbrev pub printed_word : Word → List ℕ
printed_word (Name name) = name
printed_word (Number n) = decimal n
printed_word (Quoted bytes) = 34 ∷ flat_map escaped bytes ++ 34 ∷ []

-- a blank and a word, for each of them
abbrev pub spelled_on : List Word → List ℕ
spelled_on [] = []
spelled_on (w ∷ ws) = 32 ∷ printed_word w ++ spelled_on ws

-- the same for numbers
abbrev pub numbers_on : List ℕ → List ℕ
numbers_on [] = []
numbers_on (n ∷ ns) = 32 ∷ decimal n ++ numbers_on ns

-- the words, a blank between two
abbrev pub line_of : List Word → List ℕ
line_of [] = []
line_of (w ∷ ws) = printed_word w ++ spelled_on ws

-- what may stand behind a printed line: nothing, or blanks and a comment
pub record IsTail (tail : List ℕ) : Type 0 where
  pub ends : IsBehindWord tail
  pub comment : IsComment (behind_blanks tail)
