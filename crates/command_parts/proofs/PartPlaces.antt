-- Places of parts joined: where they begin, how they go on, and what the part is that holds one.
use Rattle.std.proofs.Common.{◌≡◌, ℕ, ◌+◌, ◌-◌, ◌<◌, ◌≤◌, ltb, List, [], ◌∷◌, ◌++◌, Option, Some, None, refl, sym, ap, ◌∙◌, arith, append_assoc, zero-add, add-zero}
use Rattle.std.specs.Prelude.{◌↔◌, MatchOption, false}
use Rattle.std.proofs.lemmas.Bool.{lt-ltb, le-ltb, cond-true, cond-false}
use Rattle.std.proofs.lemmas.List.Sums.{sum_by-cons, sum_by-append}
use Rattle.rope_node.specs.Table.{Table}
use Rattle.command_parts.specs.declared.part.Part.{Part}
use Rattle.command_parts.specs.Parts.{part_len, parts_len, part_at, IsPart, AreParts}
use Rattle.command_parts.specs.Places.{AreNonempty, len_here, held, IsAt}

pub parts_nonempty : (t : Table) (parts : List Part) → AreParts t parts → AreNonempty parts
parts_nonempty t [] are = tt
parts_nonempty t (x ∷ xs) are = (are.0.0, parts_nonempty t xs are.1)

-- what a call for the next part leaves
abbrev pub IsNextPart : List Part → Option Part → List Part → Type 0
IsNextPart parts next rest = MatchOption next ((parts ≡ []) × (rest ≡ [])) (λ part. parts ≡ part ∷ rest)

behind : (before parts : List Part) (place : ℕ) (next : Option Part) (rest : List Part) → AreNonempty (before ++ parts) → place ≡ parts_len before → IsNextPart parts next rest → IsAt (before ++ parts) place next 0 rest
behind before parts place None rest each stands next = record {
  before = before;
  whole = ap (λ (ps : List Part). before ++ ps) next.0;
  stands = stands ∙ sym (add-zero (parts_len before));
  holding = (refl, next.1);
  each = each;
}
behind before parts place (Some part) rest each stands next = record {
  before = before;
  whole = ap (λ (ps : List Part). before ++ ps) next;
  stands = stands ∙ sym (add-zero (parts_len before));
  holding = first before parts each next;
  each = each;
}
  where
    first : (before parts : List Part) → AreNonempty (before ++ parts) → parts ≡ part ∷ rest → 0 < part_len part
    first [] parts each is = let each' : AreNonempty (part ∷ rest) = rw is at each in omega (arith, each'.0)
    first (x ∷ before) parts each is = first before parts each.1 is

pub at_start : (parts : List Part) (next : Option Part) (rest : List Part) → AreNonempty parts → IsNextPart parts next rest → IsAt parts 0 next 0 rest
at_start parts next rest each is = behind [] parts 0 next rest each refl is

-- further inside the part
pub at_inside : (parts : List Part) (place : ℕ) (part : Part) (off n : ℕ) (rest : List Part) → off + n < part_len part → IsAt parts place (Some part) off rest → IsAt parts (place + n) (Some part) (off + n) rest
at_inside parts place part off n rest inside at = record {
  before = at.before;
  whole = at.whole;
  stands = omega (arith, at.stands);
  holding = inside;
  each = at.each;
}

-- at its end, and so at the next one's first byte
pub at_next : (parts : List Part) (place : ℕ) (part : Part) (off n : ℕ) (rest : List Part) (next : Option Part) (rest' : List Part) → off + n ≡ part_len part → IsNextPart rest next rest' → IsAt parts place (Some part) off rest → IsAt parts (place + n) next 0 rest'
at_next parts place part off n rest next rest' end is at =
    let all : parts ≡ (at.before ++ part ∷ []) ++ rest = at.whole ∙ sym (append_assoc at.before (part ∷ []) rest) in
    let each : AreNonempty ((at.before ++ part ∷ []) ++ rest) = rw all at at.each in
    let len : parts_len (at.before ++ part ∷ []) ≡ parts_len at.before + part_len part = sum_by-append part_len at.before (part ∷ []) ∙ omega arith in
    rw all (behind (at.before ++ part ∷ []) rest (place + n) next rest' each (omega (arith, at.stands, end, len)) is)

-- behind the last one nothing is left to skip
pub at_end : (parts : List Part) (place off n : ℕ) (rest : List Part) (next : Option Part) (rest' : List Part) → off + n ≤ 0 → IsNextPart rest next rest' → IsAt parts place None off rest → IsAt parts (place + n) next 0 rest'
at_end parts place off n rest None rest' none is at = record {
  before = at.before;
  whole = at.whole;
  stands = omega (arith, at.stands, none);
  holding = (refl, is.1);
  each = at.each;
}
at_end parts place off n rest (Some part) rest' none is at = let bad : ◌≡◌ {A = List Part} [] (part ∷ rest') = sym at.holding.1 ∙ is in absurd cc

-- what was skipped reached the end of the part, or there was none
pub at_passed : (part : Option Part) (off n end : ℕ) (rest : List Part) (next : Option Part) (rest' : List Part) → end ≡ len_here part → end ≤ off + n → off + n ≤ len_here part → IsNextPart rest next rest'
    → (parts : List Part) (place : ℕ) → IsAt parts place part off rest → IsAt parts (place + n) next 0 rest'
at_passed None off n end rest next rest' len past inside is parts place at = at_end parts place off n rest next rest' inside is at
at_passed (Some part) off n end rest next rest' len past inside is parts place at = at_next parts place part off n rest next rest' (omega (arith, len, past, inside)) is at

-- ---- the part that holds a place

part_at_behind : (before parts : List Part) (off : ℕ) → part_at (before ++ parts) (parts_len before + off) ≡ part_at parts off
part_at_behind [] parts off = ap (part_at parts) (zero-add off)
part_at_behind (x ∷ before) parts off =
    let len : parts_len (x ∷ before) ≡ part_len x + parts_len before = sum_by-cons part_len x before in
    let past : ltb (parts_len (x ∷ before) + off) (part_len x) ≡ false = le-ltb (parts_len (x ∷ before) + off) (part_len x) (omega (arith, len)) in
    cond-false (ltb (parts_len (x ∷ before) + off) (part_len x)) (Some (x, parts_len (x ∷ before) + off)) (part_at (before ++ parts) ((parts_len (x ∷ before) + off) - part_len x)) past
    ∙ ap (part_at (before ++ parts)) (omega (arith, len))
    ∙ part_at_behind before parts off

pub at_part : (parts : List Part) (place : ℕ) (part : Option Part) (off : ℕ) (rest : List Part) → IsAt parts place part off rest → part_at parts place ≡ held part off
at_part parts place None off rest at =
    rw (at.whole, at.stands) (part_at_behind at.before [] off)
at_part parts place (Some part) off rest at =
    rw (at.whole, at.stands) (part_at_behind at.before (part ∷ rest) off ∙ cond-true (ltb off (part_len part)) (Some (part, off)) (part_at rest (off - part_len part)) (lt-ltb off (part_len part) at.holding))

-- and where it is
pub at_inside_parts : (parts : List Part) (place : ℕ) (part : Option Part) (off n : ℕ) (rest : List Part) → off + n ≤ len_here part → IsAt parts place part off rest → place + n ≤ parts_len parts
at_inside_parts parts place None off n rest fits at =
    let len : parts_len parts ≡ parts_len at.before + 0 = ap parts_len at.whole ∙ sum_by-append part_len at.before [] in
    omega (arith, at.stands, fits, len)
at_inside_parts parts place (Some part) off n rest fits at =
    let len : parts_len parts ≡ parts_len at.before + parts_len (part ∷ rest) = ap parts_len at.whole ∙ sum_by-append part_len at.before (part ∷ rest) in
    omega (arith, at.stands, fits, len, sum_by-cons part_len part rest)

-- no part holds it exactly where it is the end
pub at_whole : (parts : List Part) (place : ℕ) (part : Option Part) (off : ℕ) (rest : List Part) → IsAt parts place part off rest → (part ≡ None) ↔ (place ≡ parts_len parts)
at_whole parts place None off rest at =
    let len : parts_len parts ≡ parts_len at.before + 0 = ap parts_len at.whole ∙ sum_by-append part_len at.before [] in
    (λ _. omega (arith, at.stands, at.holding.0, len), λ _. refl)
at_whole parts place (Some part) off rest at =
    let len : parts_len parts ≡ parts_len at.before + parts_len (part ∷ rest) = ap parts_len at.whole ∙ sum_by-append part_len at.before (part ∷ rest) in
    (λ e. absurd cc, λ e. absurd (omega (arith, at.stands, at.holding, len, sum_by-cons part_len part rest, e)))

-- it is a part of a command, where they all are
pub at_is_part : (t : Table) (parts : List Part) (place : ℕ) (part : Part) (off : ℕ) (rest : List Part) → AreParts t parts → IsAt parts place (Some part) off rest → IsPart t part × (off < part_len part)
at_is_part t parts place part off rest are at = (of at.before (rw at.whole at are), at.holding)
  where
    of : (before : List Part) → AreParts t (before ++ part ∷ rest) → IsPart t part
    of [] are = are.0
    of (x ∷ before) are = of before are.1
