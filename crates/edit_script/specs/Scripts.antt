-- The commands of a script, and the script that a log is.
use Rattle.std.specs.Prelude.{◌++◌, ◌==◌, not, true, Bool, if◌then◌else◌, codes, ◌≡◌, ◌⊎◌, ℕ, ◌<◌, List, [], ◌∷◌, length, map}
use Rattle.std.specs.List.{AllByRecursion, list_all}
use Rattle.std.specs.Fmt.{decimal}
use Rattle.edit_commands.specs.Session.{SessionValue, commands_of}
use Rattle.edit_script.specs.declared.comment.Note.{Note}
use Rattle.edit_script.specs.Words.{Word, HasWords, IsTail, line_of}
use Rattle.edit_script.specs.Commands.{IsLine, IsPrintable, StandsInside, words_of}

-- the first of these commands stands in the line, and these are the others
pub record SaysFirst (line : List ℕ) (commands others : List (List Word)) : Type 0 where
  pub first : List Word
  pub some : 0 < length first
  pub known : IsLine first
  pub words : HasWords line first
  pub all : commands ≡ first ∷ others

-- Each line has no words, or is the next command.
abbrev pub ReadsScript : List (List ℕ) → List (List Word) → Type 0
ReadsScript [] commands = commands ≡ []
ReadsScript (line ∷ lines) commands =
    (HasWords line [] × ReadsScript lines commands)
    ⊎ ((others : List (List Word)) × SaysFirst line commands others × ReadsScript lines others)

-- Each line is the next command, and behind them stands a last line without words.
abbrev pub SaysEach : List (List ℕ) → List (List Word) → Type 0
SaysEach [] commands = ⊥
SaysEach (line ∷ lines) [] = HasWords line [] × (lines ≡ [])
SaysEach (line ∷ lines) (ws ∷ commands) = SaysFirst line (ws ∷ commands) commands × SaysEach lines commands

-- what a session's revisions say
abbrev pub words_held : SessionValue → List (List Word)
words_held v = map (words_of v.held.pool.bytes) (commands_of v.revisions)

-- the bytes that each revision's command names stand in the pool
abbrev pub AreInside : SessionValue → Type 0
AreInside v = AllByRecursion (StandsInside (length v.held.pool.bytes)) (commands_of v.revisions)

-- no line ends in it
abbrev pub IsOneLine : List ℕ → Type 0
IsOneLine t = list_all (λ b. not (b == 10)) t ≡ true

-- a line to be printed: a command's words, and what stands behind them
abbrev pub Printed : Type 0
Printed = List Word × List ℕ

-- lines, each with its end
abbrev pub script_of : List Printed → List ℕ
script_of [] = []
script_of (x ∷ xs) = (line_of x.0 ++ x.1) ++ 10 ∷ script_of xs

-- a command, with nothing or a comment behind it
pub record IsPrinted (x : Printed) : Type 0 where
  pub command : IsPrintable x.0
  pub some : 0 < length x.0
  pub tail : IsTail x.1
  pub one : IsOneLine x.1

-- what is known of a revision: its number, its text's length, its rope's depth, whether it is marked as balanced, its rows
pub record Noted : Type 0 where
  pub number : ℕ
  pub len : ℕ
  pub depth : ℕ
  pub mark : Bool
  pub rows : ℕ

-- what a note says
abbrev pub noted_in : Note → Noted
noted_in note = record {
  number = note.number;
  len = note.len;
  depth = note.depth;
  mark = note.mark;
  rows = note.rows;
}

-- as ` # 2: 7 bytes, depth 1, balanced, 3 rows`
abbrev pub comment_of : Noted → List ℕ
comment_of x =
    codes " # " ++ (decimal x.number ++ (codes ": " ++ (decimal x.len ++ (codes " bytes, depth " ++ (decimal x.depth
    ++ ((if x.mark then codes ", balanced" else []) ++ (codes ", " ++ (decimal x.rows ++ codes " rows"))))))))
