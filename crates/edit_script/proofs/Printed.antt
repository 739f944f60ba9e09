-- What is printed stands in the line that it is printed as.
use Rattle.std.proofs.Common.{◌≡◌, ℕ, ◌/◌, ◌%◌, ◌<◌, ◌^◌, true, false, not, ltb, leb, eqb, List, [], ◌∷◌, ◌++◌, length, refl, sym, ap, subst, ◌∙◌, append_assoc, arith, inl, inr}
use Rattle.std.specs.List.{flat_map, list_all, AllByRecursion}
use Rattle.std.specs.Char.{digit_value}
use Rattle.std.specs.Fmt.{decimal, digit_glyph}
use Rattle.std.specs.Str.Parse.{IsNumeral}
use Rattle.std.proofs.lemmas.Bool.{cases_Bool, cases_eq, and_parts, and_from, or_right, or_from, or_parts, not_from_false, not-true, eqb-true, ne_eqb, ltb-true, agree_below_at}
use Rattle.std.proofs.lemmas.Fmt.{decimal_is_IsNumeral}
use Rattle.std.proofs.lemmas.List.Concat.{flat_map-cons}
use Rattle.std.proofs.lemmas.Str.Parse.{digit_from_value}
use Rattle.edit_script.specs.Words.{Word, Name, Number, Quoted, HasWords, IsBehindWord, IsTail, SpellsByte, plain, short, hex, SpellsBytes, Spells, is_plain, is_printed_plain, is_blank, ends_word, behind_blanks, escaped, printed_word, spelled_on, line_of}
use Rattle.edit_script.specs.Commands.{Kind, Revision, Place, Byte, Text, Suits, HasKinds, HasBytes, IsPrintable}
use Rattle.edit_script.proofs.Fronts.{digit_is_no_end}
use Rattle.edit_script.proofs.Laws.{is_name, name_is}

-- ---- bytes

glyph_value : (d : ℕ) → d < 16 → digit_value (digit_glyph false d) ≡ d
glyph_value d small = eqb-true _ d (agree_below_at (λ e. eqb (digit_value (digit_glyph false e)) e) (λ e. true) 16 d refl small)

plain_if_printed : (b : ℕ) → eqb b 34 ≡ false → eqb b 92 ≡ false → is_printed_plain b ≡ true → is_plain b ≡ true
plain_if_printed b no_quote no_backslash printed =
    let p = and_parts (leb 32 b) (ltb b 127) printed in
    let below = ltb-true b 127 p.1 in
    let no_delete : eqb b 127 ≡ false = ne_eqb b 127 (λ e. omega arith) in
    or_right (eqb b 9) _ (and_from (leb 32 b) _ p.0 (not_from_false _ (or_from (eqb b 34) _ no_quote (or_from (eqb b 92) (eqb b 127) no_backslash no_delete))))

abbrev IsSpelled : ℕ → Type 0
IsSpelled b = SpellsByte b (escaped b)

spells_byte : (b : ℕ) → b < 256 → IsSpelled b
spells_byte b small =
    elim (cases_eq b 10) [
      | inl e ↦ subst IsSpelled (sym e) (short 110 refl refl)
      | inr n10 ↦
          elim (cases_eq b 9) [
            | inl e ↦ subst IsSpelled (sym e) (short 116 refl refl)
            | inr n9 ↦
                elim (cases_eq b 13) [
                  | inl e ↦ subst IsSpelled (sym e) (short 114 refl refl)
                  | inr n13 ↦
                      elim (cases_eq b 92) [
                        | inl e ↦ subst IsSpelled (sym e) (short 92 refl refl)
                        | inr n92 ↦
                            elim (cases_eq b 34) [
                              | inl e ↦ subst IsSpelled (sym e) (short 34 refl refl)
                              | inr n34 ↦
                                  elim (cases_Bool (is_printed_plain b)) [
                                    | inl p ↦
                                        let is : escaped b ≡ b ∷ [] = rw (ne_eqb b 10 n10, ne_eqb b 9 n9, ne_eqb b 13 n13, ne_eqb b 92 n92, ne_eqb b 34 n34, p) refl in
                                        plain (plain_if_printed b (ne_eqb b 34 n34) (ne_eqb b 92 n92) p) is
                                    | inr q ↦
                                        let is : escaped b ≡ 92 ∷ 120 ∷ digit_glyph false (b / 16) ∷ digit_glyph false (b % 16) ∷ [] = rw (ne_eqb b 10 n10, ne_eqb b 9 n9, ne_eqb b 13 n13, ne_eqb b 92 n92, ne_eqb b 34 n34, q) refl in
                                        let high : b / 16 < 16 = omega arith in
                                        let low : b % 16 < 16 = omega arith in
                                        let high_is = glyph_value (b / 16) high in
                                        let low_is = glyph_value (b % 16) low in
                                        hex (digit_glyph false (b / 16)) (digit_glyph false (b % 16)) (rw high_is high) (rw low_is low) (rw (high_is, low_is) (omega arith)) is
                                  ]
                            ]
                      ]
                ]
          ]
    ]

spells_bytes : (bytes : List ℕ) → AllByRecursion (λ b. b < 256) bytes → SpellsBytes bytes (flat_map escaped bytes)
spells_bytes [] h = refl
spells_bytes (b ∷ bytes) h = (escaped b, flat_map escaped bytes, spells_byte b h.0, spells_bytes bytes h.1, flat_map-cons escaped b bytes)

-- ---- words

abbrev BeginsPlain : List ℕ → Type 0
BeginsPlain [] = ⊥
BeginsPlain (b ∷ t) = is_blank b ≡ false

no_blanks : (t rest : List ℕ) → BeginsPlain t → behind_blanks (t ++ rest) ≡ t ++ rest
no_blanks [] rest h = absurd h
no_blanks (b ∷ t) rest h = rw h refl

numeral_begins : (t : List ℕ) → IsNumeral 10 t → BeginsPlain t
numeral_begins [] h = absurd (omega (arith, h.0))
numeral_begins (b ∷ t) h = (or_parts (is_blank b) (eqb b 35) (digit_is_no_end b (digit_from_value b h.1.0))).0

name_begins : (t : List ℕ) → is_name t ≡ true → BeginsPlain t
name_begins [] h = absurd cc
name_begins (b ∷ t) h =
    let p = and_parts (not (ends_word b)) (list_all (λ b. not (ends_word b)) t) (and_parts (ltb 0 (length (b ∷ t))) _ h).1 in
    (or_parts (is_blank b) (eqb b 35) (not-true (ends_word b) p.0)).0

abbrev IsPrinted : Word → Type 0
IsPrinted w = Spells w (printed_word w) × BeginsPlain (printed_word w)

number_printed : (n : ℕ) → n < 2 ^ 64 → IsPrinted (Number n)
number_printed n small = let d = decimal_is_IsNumeral n small in ((d.0, d.1), numeral_begins (decimal n) d.0)

word_printed : (k : Kind) (w : Word) → Suits k w → HasBytes w → IsPrinted w
word_printed Revision (Number n) s h = number_printed n (omega (arith, s))
word_printed Revision (Name t) s h = absurd s
word_printed Revision (Quoted t) s h = absurd s
word_printed Place (Number n) s h = number_printed n s
word_printed Place (Name t) s h = absurd s
word_printed Place (Quoted t) s h = absurd s
word_printed Byte (Number n) s h = number_printed n (omega (arith, s))
word_printed Byte (Name t) s h = absurd s
word_printed Byte (Quoted t) s h = absurd s
word_printed Text (Number n) s h = absurd s
word_printed Text (Name t) s h = absurd s
word_printed Text (Quoted t) s h = ((flat_map escaped t, spells_bytes t h, refl), refl)

-- ---- lines

ends_behind : (ws : List Word) (tail : List ℕ) → IsTail tail → IsBehindWord (spelled_on ws ++ tail)
ends_behind [] tail t = t.ends
ends_behind (w ∷ ws) tail t = refl

one_more : (k : Kind) (w : Word) (ws : List Word) (tail : List ℕ) → Suits k w → HasBytes w → IsTail tail → HasWords (spelled_on ws ++ tail) ws → HasWords (spelled_on (w ∷ ws) ++ tail) (w ∷ ws)
one_more k w ws tail s h t others =
    let rest = spelled_on ws ++ tail in
    let p = word_printed k w s h in
    let parts : behind_blanks (spelled_on (w ∷ ws) ++ tail) ≡ printed_word w ++ rest =
    ap behind_blanks (append_assoc (printed_word w) (spelled_on ws) tail) ∙ no_blanks (printed_word w) rest p.1 in
    (rest, record { text = printed_word w; spelled = p.0; parts = parts; ends = ends_behind ws tail t }, others)

words_printed : (again kinds : List Kind) (ws : List Word) (tail : List ℕ) → HasKinds again kinds ws → AllByRecursion HasBytes ws → IsTail tail → HasWords (spelled_on ws ++ tail) ws
words_printed again [] [] tail s h t = t.comment
words_printed [] [] (w ∷ ws) tail s h t = absurd s
words_printed (k ∷ again) [] (w ∷ ws) tail s h t =
    one_more k w ws tail s.0 h.0 t (words_printed (k ∷ again) again ws tail s.1 h.1 t)
words_printed again (k ∷ kinds) [] tail s h t = absurd s
words_printed again (k ∷ kinds) (w ∷ ws) tail s h t =
    one_more k w ws tail s.0 h.0 t (words_printed again kinds ws tail s.1 h.1 t)

-- a command stands in its line, whatever comment follows
pub line_printed : (ws : List Word) (tail : List ℕ) → IsPrintable ws → IsTail tail → HasWords (line_of ws ++ tail) ws
line_printed [] tail p t = t.comment
line_printed (Number n ∷ ws) tail p t = let no : Number n ∷ ws ≡ [] = p.command in absurd cc
line_printed (Quoted bytes ∷ ws) tail p t = let no : Quoted bytes ∷ ws ≡ [] = p.command in absurd cc
line_printed (Name name ∷ ws) tail p t =
    let shape = p.command.0 in
    let rest = spelled_on ws ++ tail in
    let parts : behind_blanks (line_of (Name name ∷ ws) ++ tail) ≡ name ++ rest =
    ap behind_blanks (append_assoc name (spelled_on ws) tail) ∙ no_blanks name rest (name_begins name (name_is name shape p.command.1)) in
    (rest, record { text = name; spelled = refl; parts = parts; ends = ends_behind ws tail t }, words_printed shape.again shape.once ws tail p.command.2 p.bytes.1 t)
