-- A line of a text, and what it is where a byte is put into the text or goes out of it.
use Rattle.std.proofs.Common.{◌≡◌, ℕ, ◌+◌, ◌-◌, ◌<◌, ◌≤◌, List, ◌++◌, length, take, drop, get_or, ap, ◌∙◌, arith, true, false, sym}
use Rattle.std.proofs.lemmas.List.{get_or-append_right, get_or-drop, get_or-take, get_or_append_left, length-append, length-drop, length-take, length-take-le}
use Rattle.std.proofs.lemmas.List.Elements.{All-contains}
use Rattle.command_parts.specs.Commands.{replaced}
use Rattle.text_lines.specs.declared.known.KnownLine.{KnownLine}
use Rattle.text_lines.specs.declared.known_lines.KnownLines.{KnownLines}
use Rattle.text_lines.specs.KnownLines.{HoldsPart, IsKnownIn, IsLineOf, known_lines}
use Rattle.text_lines.specs.Lines.{HasBreak, is_break, line_start, line_end}
use Rattle.text_lines.specs.Rows.{IsLineStart}
use Rattle.text_lines.proofs.LineLaws.{break_at_end, end_inside, ends_at, plain_to_end, starts_at}

-- ---- a line tells where the line of each of its places begins and ends

pub tells_start : (t : List ℕ) (line : KnownLine) (p : ℕ) → IsLineOf t line → line.start ≤ p → p ≤ line.end → line.start ≡ line_start t p
tells_start t line p h from to = starts_at t p line.start from (omega (arith, to, h.inside)) (λ k above below. h.plain k above (omega (arith, below, to))) h.begins

pub tells_end : (t : List ℕ) (line : KnownLine) (p : ℕ) → IsLineOf t line → line.start ≤ p → p ≤ line.end → line.end ≡ line_end t p
tells_end t line p h from to = ends_at t p line.end to h.inside (λ k above below. h.plain k (omega (arith, from, above)) below) h.ends

-- ---- a line that was found

pub line_found : (t : List ℕ) (s e : ℕ) → IsLineStart t s → s ≤ length t → e ≡ line_end t s → IsLineOf t (record { start = s; end = e })
line_found t s e begins inside is = record {
  order = omega (arith, is);
  inside = omega (arith, is, end_inside t s inside);
  begins = begins;
  plain = λ k from below. plain_to_end t s k from (omega (arith, is, below));
  ends = break_at_end t s e is;
}

-- the next one begins behind it
pub next_begins : (t : List ℕ) (s e : ℕ) → e ≡ line_end t s → e < length t → IsLineStart t (e + 1)
next_begins t s e is lt some =
    let back : e + 1 - 1 ≡ e = omega arith in
    rw back (break_at_end t s e is lt)

-- ---- the bytes of a text of which some were replaced

pub length-replaced : (t : List ℕ) (p m : ℕ) (x : List ℕ) → p + m ≤ length t → length (replaced t p m x) ≡ (length t - m) + length x
length-replaced t p m x fits = omega (arith, fits, length-append (take p t ++ x) (drop (p + m) t), length-append (take p t) x, length-take p t, length-drop (p + m) t)

pub before_replaced : (t : List ℕ) (p m : ℕ) (x : List ℕ) (k : ℕ) → p ≤ length t → k < p → get_or (replaced t p m x) k 0 ≡ get_or t k 0
before_replaced t p m x k inside lt =
    let front = length-take-le p t inside in
    get_or_append_left (take p t ++ x) (drop (p + m) t) 0 k (omega (arith, front, lt, length-append (take p t) x))
    ∙ get_or_append_left (take p t) x 0 k (omega (arith, front, lt))
    ∙ get_or-take p t k 0 lt

pub behind_replaced : (t : List ℕ) (p m : ℕ) (x : List ℕ) (k j : ℕ) → p ≤ length t → p + length x ≤ k → j + (p + length x) ≡ k + (p + m) → get_or (replaced t p m x) k 0 ≡ get_or t j 0
behind_replaced t p m x k j inside from at =
    let front = length-take-le p t inside in
    let n = p + length x in
    let place : p + m + (k - n) ≡ j = omega (arith, from, at) in
    get_or-append_right (take p t ++ x) (drop (p + m) t) n k 0 (omega (arith, front, length-append (take p t) x)) from
    ∙ get_or-drop (p + m) t (k - n) 0
    ∙ ap (λ i. get_or t i 0) place

-- ---- a line that is known and holds the place, or more bytes

pub known_start : (t : List ℕ) (known : KnownLines) (place : ℕ) (line : KnownLine) → HoldsPart known place 0 line → IsKnownIn known t → line.start ≡ line_start t place
known_start t known place line h is = tells_start t line place (All-contains (IsLineOf t) (known_lines known) line is.each h.0) h.1.from (omega (arith, h.1.to))

pub known_end : (t : List ℕ) (known : KnownLines) (place : ℕ) (line : KnownLine) → HoldsPart known place 0 line → IsKnownIn known t → (line.end ≡ line_end t place) × (line.end ≤ length t)
known_end t known place line h is =
    let there : IsLineOf t line = All-contains (IsLineOf t) (known_lines known) line is.each h.0 in
    (tells_end t line place there h.1.from (omega (arith, h.1.to)), there.inside)

pub plain_part : (t : List ℕ) (known : KnownLines) (place count : ℕ) (line : KnownLine) → HoldsPart known place count line → IsKnownIn known t → ¬ HasBreak (take count (drop place t))
plain_part t known place count line h is has =
    let there : IsLineOf t line = All-contains (IsLineOf t) (known_lines known) line is.each h.0 in
    let few : has.0 < count = omega (arith, has.1, length-take count (drop place t)) in
    let broken : is_break (get_or t (place + has.0) 0) ≡ true = ap is_break (sym (get_or-take count (drop place t) has.0 0 few ∙ get_or-drop place t has.0 0)) ∙ has.2 in
    let plain = there.plain (place + has.0) (omega (arith, h.1.from)) (omega (arith, few, h.1.to)) in
    absurd (let same : true ≡ false = sym broken ∙ plain in cc)
