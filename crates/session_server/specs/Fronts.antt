-- What a journal of lines begins with.
use Rattle.std.specs.Prelude.{ℕ, ◌/◌, ◌%◌, false, List, [], ◌∷◌, ◌++◌, codes}
use Rattle.std.specs.Fmt.{digit_glyph}
use Rattle.std.specs.List.{flat_map}
use Rattle.edit_script.specs.Words.{Word}
use Rattle.edit_script.specs.Applied.{lines_of}
use Rattle.edit_script.specs.Scripts.{ReadsScript}

-- a byte by two digits of base 16
abbrev pub hex_pair : ℕ → List ℕ
hex_pair b = digit_glyph false (b / 16) ∷ digit_glyph false (b % 16) ∷ []

-- a comment that holds a header by its digits, with its end
abbrev pub lines_front : List ℕ → List ℕ
lines_front header = (codes "# cordkit lines " ++ flat_map hex_pair header) ++ 10 ∷ []

-- behind such a front a text says as a script what it says alone
abbrev pub SaysBehindFront : List ℕ → List ℕ → Type 0
SaysBehindFront header text =
    (commands : List (List Word)) → ReadsScript (lines_of text) commands → ReadsScript (lines_of (lines_front header ++ text)) commands
