-- A log is read as the commands that it prints.
use Rattle.std.proofs.Common.{◌≡◌, ℕ, ◌<◌, ◌^◌, Bool, true, false, not, cond, eqb, Some, List, [], ◌∷◌, ◌++◌, length, map, refl, sym, ap, subst, ◌∙◌, arith, inl, inr}
use Rattle.std.specs.Prelude.{codes}
use Rattle.std.specs.List.{onto_first, list_all, flat_map, AllByRecursion}
use Rattle.std.specs.Int.{IsInRange}
use Rattle.std.specs.Fmt.{decimal}
use Rattle.std.specs.Str.Parse.{AllDigits}
use Rattle.std.proofs.lemmas.Bool.{and_parts, and_from, not_from_false, not-true, ne_eqb, agree_below_at}
use Rattle.std.proofs.lemmas.Fmt.{decimal_is_IsNumeral}
use Rattle.std.proofs.lemmas.List.Concat.{flat_map-cons}
use Rattle.std.proofs.lemmas.List.Folds.{list_all-append}
use Rattle.std.proofs.lemmas.List.Splits.{slice_split-cons_no}
use Rattle.std.proofs.lemmas.Str.Parse.{digit_from_value}
use Rattle.std.proofs.lemmas.Slice.Eq.{bytes_eq-Decides}
use Rattle.std.specs.Str.{bytes_eq}
use Rattle.edit_script.specs.Words.{Word, Name, Number, Quoted, IsTail, escaped, printed_word, spelled_on, line_of}
use Rattle.edit_script.specs.Commands.{Kind, Revision, Place, Byte, Text, shapes, shape_in, Shape, Suits, HasKinds, HasBytes, IsPrintable}
use Rattle.edit_script.specs.Applied.{lines_of}
use Rattle.edit_script.specs.Scripts.{ReadsScript, SaysEach, SaysFirst, IsOneLine, Printed, IsPrinted, script_of, Noted, comment_of}
use Rattle.edit_script.proofs.Choices.{chosen}
use Rattle.edit_script.proofs.Printed.{line_printed}

abbrev is_inside : ℕ → Bool
is_inside b = not (eqb b 10)

one_append : (a b : List ℕ) → IsOneLine a → IsOneLine b → IsOneLine (a ++ b)
one_append a b h k = list_all-append is_inside a b ∙ and_from (list_all is_inside a) (list_all is_inside b) h k

line_split : (t rest : List ℕ) → IsOneLine t → lines_of (t ++ 10 ∷ rest) ≡ t ∷ lines_of rest
line_split [] rest h = refl
line_split (c ∷ t) rest h =
    let p = and_parts (is_inside c) (list_all is_inside t) h in
    slice_split-cons_no (λ b. eqb b 10) c (t ++ 10 ∷ rest) (not-true (eqb c 10) p.0) ∙ ap (onto_first c) (line_split t rest p.1)

digit_is_inside : (c : ℕ) → IsInRange 48 57 c → eqb c 10 ≡ false
digit_is_inside c r = ne_eqb c 10 (λ e. omega arith)

digits_one : (t : List ℕ) → AllDigits 10 t → IsOneLine t
digits_one [] h = refl
digits_one (c ∷ t) h = and_from (is_inside c) (list_all is_inside t) (not_from_false _ (digit_is_inside c (digit_from_value c h.0))) (digits_one t h.1)

decimal_one : (n : ℕ) → n < 2 ^ 64 → IsOneLine (decimal n)
decimal_one n small = digits_one (decimal n) (decimal_is_IsNumeral n small).0.1

escaped_one : (b : ℕ) → b < 256 → IsOneLine (escaped b)
escaped_one b small = agree_below_at (λ c. list_all is_inside (escaped c)) (λ c. true) 256 b refl small

bytes_one : (bytes : List ℕ) → AllByRecursion (λ b. b < 256) bytes → IsOneLine (flat_map escaped bytes)
bytes_one [] h = refl
bytes_one (b ∷ bytes) h = rw flat_map-cons (one_append (escaped b) (flat_map escaped bytes) (escaped_one b h.0) (bytes_one bytes h.1))

word_one : (k : Kind) (w : Word) → Suits k w → HasBytes w → IsOneLine (printed_word w)
word_one Revision (Number n) s h = decimal_one n (omega (arith, s))
word_one Revision (Name t) s h = absurd s
word_one Revision (Quoted t) s h = absurd s
word_one Place (Number n) s h = decimal_one n s
word_one Place (Name t) s h = absurd s
word_one Place (Quoted t) s h = absurd s
word_one Byte (Number n) s h = decimal_one n (omega (arith, s))
word_one Byte (Name t) s h = absurd s
word_one Byte (Quoted t) s h = absurd s
word_one Text (Number n) s h = absurd s
word_one Text (Name t) s h = absurd s
word_one Text (Quoted t) s h = one_append (flat_map escaped t) (34 ∷ []) (bytes_one t h) refl

words_one : (again kinds : List Kind) (ws : List Word) → HasKinds again kinds ws → AllByRecursion HasBytes ws → IsOneLine (spelled_on ws)
words_one again [] [] s h = refl
words_one [] [] (w ∷ ws) s h = absurd s
words_one (k ∷ again) [] (w ∷ ws) s h = one_append (printed_word w) (spelled_on ws) (word_one k w s.0 h.0) (words_one (k ∷ again) again ws s.1 h.1)
words_one again (k ∷ kinds) [] s h = absurd s
words_one again (k ∷ kinds) (w ∷ ws) s h = one_append (printed_word w) (spelled_on ws) (word_one k w s.0 h.0) (words_one again kinds ws s.1 h.1)

names_one : (table : List (List ℕ × Shape)) (name : List ℕ) (shape : Shape) → list_all (λ (x : List ℕ × Shape). list_all is_inside x.0) table ≡ true → shape_in table name ≡ Some shape → IsOneLine name
names_one [] name shape h e = absurd cc
names_one (x ∷ table) name shape h e =
    let p = and_parts (list_all is_inside x.0) (list_all (λ (y : List ℕ × Shape). list_all is_inside y.0) table) h in
    elim (chosen (bytes_eq name x.0) (Some x.1) (shape_in table name) (Some shape) e) [
      | inl q ↦ subst IsOneLine (sym ((bytes_eq-Decides name x.0).0 q.0)) p.0
      | inr q ↦ names_one table name shape p.1 q.1
    ]

line_one : (ws : List Word) → IsPrintable ws → IsOneLine (line_of ws)
line_one [] p = refl
line_one (Number n ∷ ws) p = let no : Number n ∷ ws ≡ [] = p.command in absurd cc
line_one (Quoted bytes ∷ ws) p = let no : Quoted bytes ∷ ws ≡ [] = p.command in absurd cc
line_one (Name name ∷ ws) p =
    one_append name (spelled_on ws) (names_one shapes name p.command.0 refl p.command.1) (words_one p.command.0.again p.command.0.once ws p.command.2 p.bytes.1)

-- each line of printed commands is the next of them
pub log_says_each : (xs : List Printed) → AllByRecursion IsPrinted xs → SaysEach (lines_of (script_of xs)) (map (λ (x : Printed). x.0) xs)
log_says_each [] h = (tt, refl)
log_says_each (x ∷ xs) h =
    let commands = map (λ (y : Printed). y.0) (x ∷ xs) in
    let line = line_of x.0 ++ x.1 in
    let split : lines_of (script_of (x ∷ xs)) ≡ line ∷ lines_of (script_of xs) = line_split line (script_of xs) (one_append (line_of x.0) x.1 (line_one x.0 h.0.command) h.0.one) in
    let first : SaysFirst line commands (map (λ (y : Printed). y.0) xs) = record { first = x.0; some = h.0.some; known = h.0.command.command; words = line_printed x.0 x.1 h.0.command h.0.tail; all = refl } in
    subst (λ (lines : List (List ℕ)). SaysEach lines commands) (sym split) (first, log_says_each xs h.1)

-- lines that are commands are read as these
pub reads_each : (lines : List (List ℕ)) (commands : List (List Word)) → SaysEach lines commands → ReadsScript lines commands
reads_each [] commands says = absurd says
reads_each (line ∷ lines) [] says = inl (says.0, subst (λ (ls : List (List ℕ)). ReadsScript ls []) (sym says.1) refl)
reads_each (line ∷ lines) (ws ∷ commands) says = inr (commands, says.0, reads_each lines commands says.1)

-- a note's numbers have 64 bits
pub record FitsNote (x : Noted) : Type 0 where
  pub number : x.number < 2 ^ 64
  pub len : x.len < 2 ^ 64
  pub depth : x.depth < 2 ^ 64
  pub rows : x.rows < 2 ^ 64

mark_one : (mark : Bool) → IsOneLine (cond mark (codes ", balanced") [])
mark_one true = refl
mark_one false = refl

comment_one : (x : Noted) → FitsNote x → IsOneLine (comment_of x)
comment_one x h =
    let t1 = decimal x.rows ++ codes " rows" in
    let h1 = one_append (decimal x.rows) (codes " rows") (decimal_one x.rows h.rows) refl in
    let t2 = codes ", " ++ t1 in
    let h2 = one_append (codes ", ") t1 refl h1 in
    let t3 = cond x.mark (codes ", balanced") [] ++ t2 in
    let h3 = one_append (cond x.mark (codes ", balanced") []) t2 (mark_one x.mark) h2 in
    let t4 = decimal x.depth ++ t3 in
    let h4 = one_append (decimal x.depth) t3 (decimal_one x.depth h.depth) h3 in
    let t5 = codes " bytes, depth " ++ t4 in
    let h5 = one_append (codes " bytes, depth ") t4 refl h4 in
    let t6 = decimal x.len ++ t5 in
    let h6 = one_append (decimal x.len) t5 (decimal_one x.len h.len) h5 in
    let t7 = codes ": " ++ t6 in
    let h7 = one_append (codes ": ") t6 refl h6 in
    let t8 = decimal x.number ++ t7 in
    let h8 = one_append (decimal x.number) t7 (decimal_one x.number h.number) h7 in
    one_append (codes " # ") t8 refl h8

comment_tail : (x : Noted) → IsTail (comment_of x)
comment_tail x = record { ends = refl; comment = refl }

pub note_printed : (ws : List Word) (x : Noted) → IsPrintable ws → 0 < length ws → FitsNote x → IsPrinted (ws, comment_of x)
note_printed ws x p some h = record { command = p; some = some; tail = comment_tail x; one = comment_one x h }
