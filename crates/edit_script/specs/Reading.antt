-- Reading a line from left to right.
use Rattle.std.specs.Prelude.{◌≡◌, ℕ, zero, suc, ◌+◌, ◌*◌, ◌^◌, Bool, true, ◌&&◌, ◌==◌, nat_lt, if◌then◌else◌, List, [], ◌∷◌, length, take, drop, Option, Some, None, Result, Ok, Err}
use Rattle.std.specs.List.{position_or_len}
use Rattle.std.specs.Char.{digit_value}
use Rattle.std.specs.Str.{all_ascii_digits}
use Rattle.std.specs.Str.Parse.{digits_value}
use Rattle.command_parts.specs.Commands.{◌>>=◌}
use Rattle.edit_script.specs.declared.fault.LineFault.{LineFault}
use Rattle.edit_script.specs.declared.fault.LineFault.TheVariants.{NoCommand, Memory}
use Rattle.edit_script.specs.Words.{Word, Name, Number, Quoted, ends_word, behind_blanks, is_plain, escape_of}
use Rattle.edit_script.specs.Commands.{Kind, Revision, Place, Byte, Text, Shape, shape_in, shapes}

-- what a function returned, seen by view, is what reading gives, unless memory ran out
abbrev pub Fails : {Y : Type 0} → LineFault → Option Y → Type 0
Fails NoCommand read = read ≡ None
Fails Memory read = Unit {0}

abbrev pub IsReadAs : {X Y : Type 0} → (X → Y) → Result X LineFault → Option Y → Type 0
IsReadAs view (Ok x) read = read ≡ Some (view x)
IsReadAs view (Err e) read = Fails e read

-- ---- numbers

-- the bytes before the first that ends a word, and those from it on
abbrev pub front_word : List ℕ → List ℕ
front_word t = take (position_or_len ends_word t) t

abbrev pub behind_front : List ℕ → List ℕ
behind_front t = drop (position_or_len ends_word t) t

abbrev pub is_numeral : List ℕ → Bool
is_numeral text = nat_lt 0 (length text) && all_ascii_digits text

-- the number that digits write, where it has 64 bits
abbrev pub numeral : List ℕ → Option ℕ
numeral text =
    if is_numeral text && nat_lt (digits_value 10 text) (2 ^ 64) then Some (digits_value 10 text) else None

abbrev pub number_at : List ℕ → Option (ℕ × List ℕ)
number_at line = do
  n ← numeral (front_word (behind_blanks line))
  Some (n, behind_front (behind_blanks line))

abbrev pub number_below : ℕ → List ℕ → Option (ℕ × List ℕ)
number_below limit line = do
  x ← number_at line
  if nat_lt x.0 limit then Some x else None

-- ---- bytes in quotes

abbrev pub hex_digit : ℕ → Option ℕ
hex_digit c = if nat_lt (digit_value c) 16 then Some (digit_value c) else None

abbrev pub hex_at : List ℕ → Option (ℕ × List ℕ)
hex_at [] = None
hex_at (h ∷ []) = None
hex_at (h ∷ l ∷ t) = do
  a ← hex_digit h
  b ← hex_digit l
  Some (a * 16 + b, t)

abbrev pub escape_at : List ℕ → Option (ℕ × List ℕ)
escape_at [] = None
escape_at (e ∷ t) =
    if e == 120 then hex_at t else (do
      b ← escape_of e
      Some (b, t))

-- the byte that is written at the front, and what follows
abbrev pub byte_at : List ℕ → Option (ℕ × List ℕ)
byte_at [] = None
byte_at (c ∷ t) = if c == 92 then escape_at t else (if is_plain c then Some (c, t) else None)

-- the bytes that are written up to a quote, and what follows it, where that takes no more steps than these
unfoldable pub unquoted : ℕ → List ℕ → Option (List ℕ × List ℕ)
unquoted zero t = None
unquoted (suc k) [] = None
unquoted (suc k) (c ∷ t) =
    if c == 34 then Some ([], t) else (do
      x ← byte_at (c ∷ t)
      y ← unquoted k x.1
      Some (x.0 ∷ y.0, y.1))

abbrev pub is_behind_word : List ℕ → Bool
is_behind_word [] = true
is_behind_word (b ∷ bs) = ends_word b

abbrev pub opened : List ℕ → Option (List ℕ × List ℕ)
opened [] = None
opened (b ∷ t) = if b == 34 then unquoted (length t) t else None

abbrev pub quoted_at : List ℕ → Option (List ℕ × List ℕ)
quoted_at line = do
  x ← opened (behind_blanks line)
  if is_behind_word x.1 then Some x else None

-- ---- whole lines

abbrev pub is_comment : List ℕ → Bool
is_comment [] = true
is_comment (b ∷ bs) = b == 35

abbrev pub word_at : Kind → List ℕ → Option (Word × List ℕ)
word_at Revision line = do
  x ← number_below (2 ^ 32) line
  Some (Number x.0, x.1)
word_at Place line = do
  x ← number_at line
  Some (Number x.0, x.1)
word_at Byte line = do
  x ← number_below 256 line
  Some (Number x.0, x.1)
word_at Text line = do
  x ← quoted_at line
  Some (Quoted x.0, x.1)

-- words of these kinds, and then what the tail reads
abbrev pub words_at : (List ℕ → Option (List Word)) → List Kind → List ℕ → Option (List Word)
words_at tail [] line = tail line
words_at tail (k ∷ kinds) line = do
  x ← word_at k line
  ws ← words_at tail kinds x.1
  Some (x.0 ∷ ws)

-- nothing or a comment
abbrev pub end_at : List ℕ → Option (List Word)
end_at line = if is_comment (behind_blanks line) then Some [] else None

-- words of these kinds, again and again up to the line's end, where that takes no more turns than these
unfoldable pub groups_at : ℕ → List Kind → List ℕ → Option (List Word)
groups_at zero kinds line = end_at line
groups_at (suc k) kinds line =
    if is_comment (behind_blanks line) then Some [] else words_at (groups_at k kinds) kinds line

-- words that may follow again and again
abbrev pub again_at : List Kind → List ℕ → Option (List Word)
again_at [] line = end_at line
again_at kinds line = groups_at (length line) kinds line

-- a name of a table, and the words behind it
abbrev pub named_in : List (List ℕ × Shape) → List ℕ → List ℕ → Option (List Word)
named_in table name line = do
  shape ← shape_in table name
  ws ← words_at (again_at shape.again) shape.once line
  Some (Name name ∷ ws)

-- a command's name, and the words behind it
abbrev pub named_at : List ℕ → List ℕ → Option (List Word)
named_at name line = named_in shapes name line

-- a place, a length and bytes, and what is left
abbrev pub change_at : List ℕ → Option (List Word × List ℕ)
change_at line = do
  p ← number_at line
  m ← number_at p.1
  x ← quoted_at m.1
  Some (Number p.0 ∷ Number m.0 ∷ Quoted x.0 ∷ [], x.1)

-- the words of a line
abbrev pub line_at : List ℕ → Option (List Word)
line_at line =
    if is_comment (behind_blanks line) then Some []
    else named_at (front_word (behind_blanks line)) (behind_front (behind_blanks line))
