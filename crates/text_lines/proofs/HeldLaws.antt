-- Bytes of a text that are held, and the line breaks among them.
use Rattle.std.proofs.Common.{◌≡◌, ℕ, ◌+◌, ◌-◌, ◌<◌, ◌≤◌, true, false, Option, Some, None, List, All, [], ◌∷◌, ◌++◌, length, take, drop, get_or, inl, inr, ◌⊎◌, IfSome, Result, Ok, Err, IfOk, refl, sym, ap, subst, ◌∙◌, arith, ◌↔◌, IsSome}
use Rattle.std.proofs.lemmas.Bool.{cases_lt, false_from_ne_true, lt-ltb, le-ltb}
use Rattle.std.proofs.lemmas.List.{take-take, drop_all, drop-take, drop-drop, get_or-drop, get_or-take, length-take, length-drop, length-append, length-take-le}
use Rattle.std.proofs.Math.Seq.{drop-append_seam, take-add}
use Rattle.rope_node.specs.declared.node.NodeId.{NodeId}
use Rattle.rope_node.specs.Table.{Table}
use Rattle.rope_node.specs.Denotes.{rope_cells}
use Rattle.lazy_file.specs.Readings.{Reading}
use Rattle.cord_search.proofs.Fetches.{text_length}
use Rattle.text_lines.specs.HeldBytes.{HeldPart, held_up_to, held_starting_at, AreHeld, HoldsText, TellsStart}
use Rattle.text_lines.specs.declared.known.KnownLine.{KnownLine}
use Rattle.text_lines.specs.declared.known_lines.KnownLines.{KnownLines}
use Rattle.text_lines.specs.KnownLines.{IsKnownIn, IsLineOf, known_lines, learnt}
use Rattle.text_lines.specs.Lines.{HasBreak, is_break, line_start, line_end, next_line}
use Rattle.text_lines.specs.Rows.{IsLineStart}
use Rattle.text_lines.proofs.KnownLaws.{line_found, next_begins}
use Rattle.text_lines.proofs.LearntLines.{all_learnt}
use Rattle.text_lines.proofs.LineLaws.{break_at_end, end_inside, ends_at, plain_to_end, stands_tells, starts_at}
use Rattle.cord_search.specs.Places.{StandsAt}
use borrow.Rule.Slice.PartMut.{Post-is, put_mid}

-- ---- more bytes

pub none_held : (t : Table) (sources : Reading) (rope : Option NodeId) (h : HeldPart) (place len : ℕ) → len ≡ length (rope_cells t rope) → place ≤ len → HoldsText t sources rope h → HoldsText t sources rope (record h { from = place; bytes = [] })
none_held t sources rope h place len cells inside holds = record {
  told = λ source agrees stated.
      let held = holds.told source agrees stated in
      record { inside = omega (arith, text_length t rope source, cells, inside); bytes = refl; begun = held.begun; known = held.known };
}

-- those that stand one behind the other in the text are held together
pub held_together : (t : List ℕ) (h : HeldPart) (a b : List ℕ) (from : ℕ) → AreHeld (record h { from = from; bytes = a }) t → AreHeld (record h { from = from + length a; bytes = b }) t → AreHeld (record h { from = from; bytes = a ++ b }) t
held_together t h a b from front back =
    let both : length (a ++ b) ≡ length a + length b = length-append a b in
    let rest : take (length b) (drop (length a) (drop from t)) ≡ b = ap (take (length b)) (drop-drop (length a) from t) ∙ sym back.bytes in
    record {
      inside = omega (arith, both, back.inside);
      bytes = sym (ap (λ (m : ℕ). take m (drop from t)) both ∙ take-add (length a) (length b) (drop from t) ∙ ap (λ (xs : List ℕ). take (length a) (drop from t) ++ xs) rest ∙ ap (λ (xs : List ℕ). xs ++ b) (sym front.bytes));
      begun = front.begun;
      known = front.known;
    }

-- what is written before those in the array is held with them
written_before : (arr near : List ℕ) (first start : ℕ) → first ≤ start → start ≤ length arr → drop first (put_mid first (start - first) arr near) ≡ near ++ drop start arr
written_before arr near first start before inside =
    let pre = take first arr in
    let rest = drop start arr in
    let front : length pre ≡ first = length-take-le first arr (omega (arith, before, inside)) in
    ap (λ (xs : List ℕ). drop first (pre ++ (near ++ xs))) (Post-is first start arr before)
    ∙ ap (λ (k : ℕ). drop k (pre ++ (near ++ rest))) (sym front) ∙ drop-append_seam pre (near ++ rest)

pub more_before : (t near arr : List ℕ) (h : HeldPart) (from first start : ℕ) → first ≤ start → start ≤ length arr → start - first ≤ from → length near ≡ start - first
    → AreHeld (record h { from = from; bytes = drop start arr }) t → near ≡ take (length near) (drop (from - (start - first)) t)
    → AreHeld (record h { from = from - (start - first); bytes = drop first (put_mid first (start - first) arr near) }) t
more_before t near arr h from first start before inside few long held is =
    let n = start - first in
    let at : from - n + length near ≡ from = omega (arith, few, long) in
    let old : List ℕ = drop start arr in
    let front : AreHeld (record h { from = from - n; bytes = near }) t = record { inside = omega (arith, held.inside, at); bytes = is; begun = held.begun; known = held.known } in
    rw (written_before arr near first start before inside) (held_together t h near old (from - n) front (subst (λ (p : ℕ). AreHeld (record h { from = p; bytes = old }) t) (sym at) held))

-- ---- bytes that are held are those of the text

byte_held : (t : List ℕ) (h : HeldPart) (j : ℕ) → AreHeld h t → j < length h.bytes → get_or h.bytes j 0 ≡ get_or t (h.from + j) 0
byte_held t h j held lt = ap (λ (xs : List ℕ). get_or xs j 0) held.bytes ∙ get_or-take (length h.bytes) (drop h.from t) j 0 lt ∙ get_or-drop h.from t j 0

-- those from a place on
held_from : (t : List ℕ) (h : HeldPart) (place : ℕ) → AreHeld h t → held_starting_at h place ≡ take (length (held_starting_at h place)) (drop place t)
held_from t h place held =
    elim (cases_lt place h.from) [
      | inl before ↦ rw (lt-ltb place h.from before) refl
      | inr from ↦
          let k = place - h.from in
          let n = length h.bytes in
          let at : h.from + k ≡ place = omega (arith, from) in
          let near = drop k h.bytes in
          rw (le-ltb place h.from from) (elim (cases_lt n k) [
            | inl past ↦
                let none : near ≡ [] = drop_all k h.bytes (omega (arith, past)) in
                rw none refl
            | inr inside ↦
                let sum : n ≡ k + (n - k) = omega (arith, inside) in
                let same : near ≡ take (n - k) (drop place t) =
                ap (drop k) held.bytes ∙ ap (λ (m : ℕ). drop k (take m (drop h.from t))) sum ∙ drop-take k (n - k) (drop h.from t) ∙ ap (take (n - k)) (drop-drop k h.from t) ∙ ap (λ (p : ℕ). take (n - k) (drop p t)) at in
                same ∙ ap (λ (m : ℕ). take m (drop place t)) (sym (length-drop k h.bytes))
          ])
    ]

-- so are the first of them
pub first_held : (t : List ℕ) (h : HeldPart) (place n : ℕ) → AreHeld h t → n ≤ length (held_starting_at h place) → take n (held_starting_at h place) ≡ take n (drop place t)
first_held t h place n held few = ap (take n) (held_from t h place held) ∙ take-take n (length (held_starting_at h place)) (drop place t) few

-- ---- the first break behind a place

-- the first break among them is where the line ends
pub end_told : (t near : List ℕ) (h : HeldPart) (place w : ℕ) → AreHeld h t → near ≡ held_starting_at h place → w < length near → ((j : ℕ) → j < w → is_break (get_or near j 0) ≡ false) → is_break (get_or near w 0) ≡ true
    → place + w ≡ line_end t place
end_told t near h place w held is lt plain broken =
    let front : near ≡ take (length near) (drop place t) = rw is (held_from t h place held) in
    let long : length near ≤ length t - place = omega (arith, ap length front, length-take (length near) (drop place t), length-drop place t) in
    let at : (j : ℕ) → j < length near → get_or near j 0 ≡ get_or t (place + j) 0 = λ j lt. ap (λ (xs : List ℕ). get_or xs j 0) front ∙ get_or-take (length near) (drop place t) j 0 lt ∙ get_or-drop place t j 0 in
    ends_at t place (place + w) (omega arith) (omega (arith, lt, long))
    (λ k from below.
    let back : place + (k - place) ≡ k = omega (arith, from) in
    ap (λ i. is_break (get_or t i 0)) (sym back) ∙ ap is_break (sym (at (k - place) (omega (arith, below, from, lt)))) ∙ plain (k - place) (omega (arith, below, from)))
    (λ _. ap is_break (sym (at w lt)) ∙ broken)

-- where none of them is one, the line ends where it ends from behind them on
pub end_behind : (t : List ℕ) (h : HeldPart) (place n : ℕ) → AreHeld h t → h.from ≤ place → place + n ≤ h.from + length h.bytes → ¬ HasBreak (held_starting_at h place) → line_end t (place + n) ≡ line_end t place
end_behind t h place n held first last none =
    let d = place - h.from in
    let here : held_starting_at h place ≡ drop d h.bytes = rw (le-ltb place h.from first) refl in
    let inside : place + n ≤ length t = omega (arith, last, held.inside) in
    let missing : (k : ℕ) → place ≤ k → k < place + n → is_break (get_or t k 0) ≡ false = λ k from below.
    let at : h.from + (k - h.from) ≡ k = omega (arith, from, first) in
    let j : d + (k - place) ≡ k - h.from = omega (arith, from, first) in
    let same : get_or (held_starting_at h place) (k - place) 0 ≡ get_or t k 0 =
    ap (λ (xs : List ℕ). get_or xs (k - place) 0) here ∙ get_or-drop d h.bytes (k - place) 0 ∙ ap (λ i. get_or h.bytes i 0) j
    ∙ byte_held t h (k - h.from) held (omega (arith, below, from, first, last)) ∙ ap (λ i. get_or t i 0) at in
    false_from_ne_true (is_break (get_or t k 0)) (λ yes. none (k - place, omega (arith, ap length here, length-drop d h.bytes, below, from, first, last), ap is_break same ∙ yes)) in
    ends_at t place (line_end t (place + n)) (omega arith) (end_inside t (place + n) inside)
    (λ k from below. elim (cases_lt k (place + n)) [ inl near ↦ missing k from near | inr far ↦ plain_to_end t (place + n) k far below ])
    (break_at_end t (place + n) (line_end t (place + n)) refl)

-- ---- the last break before a place

-- how many are held before it, and which
few_before : (h : HeldPart) (place : ℕ) → length (held_up_to h place) ≤ place
few_before h place =
    elim (cases_lt (h.from + length h.bytes) place) [
      | inl past ↦ rw (lt-ltb (h.from + length h.bytes) place past) (omega arith)
      | inr inside ↦ rw (le-ltb (h.from + length h.bytes) place inside) (omega (arith, length-take (place - h.from) h.bytes))
    ]

byte_before : (t : List ℕ) (h : HeldPart) (place j k : ℕ) → AreHeld h t → j < length (held_up_to h place) → k + length (held_up_to h place) ≡ place + j → get_or (held_up_to h place) j 0 ≡ get_or t k 0
byte_before t h place j k held lt at =
    elim (cases_lt (h.from + length h.bytes) place) [
      | inl past ↦ let none : length (held_up_to h place) ≡ 0 = rw (lt-ltb (h.from + length h.bytes) place past) refl in absurd (omega (arith, lt, none))
      | inr inside ↦
          let n = place - h.from in
          let here : held_up_to h place ≡ take n h.bytes = rw (le-ltb (h.from + length h.bytes) place inside) refl in
          let long : length (held_up_to h place) ≡ n = ap length here ∙ length-take-le n h.bytes (omega (arith, inside)) in
          let there : h.from + j ≡ k = omega (arith, at, long, lt) in
          ap (λ (xs : List ℕ). get_or xs j 0) here ∙ get_or-take n h.bytes j 0 (omega (arith, lt, long)) ∙ byte_held t h j held (omega (arith, lt, long, inside)) ∙ ap (λ i. get_or t i 0) there
    ]

-- where there are some, or all of the text's, the place is one of the text
pub held_inside : (t : List ℕ) (h : HeldPart) (place : ℕ) → AreHeld h t → (1 ≤ length (held_up_to h place)) ⊎ (length (held_up_to h place) ≡ place) → place ≤ length t
held_inside t h place held some =
    elim (cases_lt (h.from + length h.bytes) place) [
      | inl past ↦
          let none : length (held_up_to h place) ≡ 0 = rw (lt-ltb (h.from + length h.bytes) place past) refl in
          absurd (elim some [ inl more ↦ omega (arith, more, none) | inr all ↦ omega (arith, all, none, past) ])
      | inr inside ↦ omega (arith, inside, held.inside)
    ]

-- the line begins behind the last break among them, or with them, where they are all of the text's
pub start_told : (t near : List ℕ) (h : HeldPart) (place w : ℕ) → AreHeld h t → place ≤ length t → near ≡ held_up_to h place → w ≤ length near → ((j : ℕ) → w ≤ j → j < length near → is_break (get_or near j 0) ≡ false)
    → (1 ≤ w → is_break (get_or near (w - 1) 0) ≡ true) → (w ≡ 0 → length near ≡ place) → place - (length near - w) ≡ line_start t place
start_told t near h place w held inside is few plain broken all =
    let n = length near in
    let long : n ≡ length (held_up_to h place) = ap length is in
    let most : n ≤ place = omega (arith, long, few_before h place) in
    let at : (j k : ℕ) → j < n → k + n ≡ place + j → is_break (get_or t k 0) ≡ is_break (get_or near j 0) = λ j k lt same.
    ap is_break (sym (ap (λ (xs : List ℕ). get_or xs j 0) is ∙ byte_before t h place j k held (omega (arith, lt, long)) (omega (arith, same, long)))) in
    starts_at t place (place - (n - w)) (omega arith) inside
    (λ k from below. at (k + n - place) k (omega (arith, below)) (omega (arith, from, few, most)) ∙ plain (k + n - place) (omega (arith, from, few, most)) (omega (arith, below)))
    (λ some. elim (cases_lt 0 w) [
      | inl one ↦ at (w - 1) (place - (n - w) - 1) (omega (arith, one, few)) (omega (arith, one, few, most)) ∙ broken one
      | inr none ↦ absurd (omega (arith, some, none, all (omega (arith, none))))
    ])

-- what was not told does not hold
pub not_told : {P : Type 0} (found : Option ℕ) → (IsSome found ↔ P) → found ≡ None → ¬ P
not_told None told none holds = absurd (let some = told.1 holds in cc)
not_told (Some place) told none holds = absurd cc

-- where they do not tell where the line begins, none of them is a break
pub none_before : (t : List ℕ) (h : HeldPart) (place from k : ℕ) → AreHeld h t → h.from ≤ from → place ≤ h.from + length h.bytes → ¬ TellsStart (held_up_to h place) place → from ≤ k → k < place → ¬ StandsAt (0x0A ∷ []) t k
none_before t h place from k held first last untold above below stands =
    let n = place - h.from in
    let j = k - h.from in
    let here : held_up_to h place ≡ take n h.bytes = rw (le-ltb (h.from + length h.bytes) place last) refl in
    let long : length (held_up_to h place) ≡ n = ap length here ∙ length-take-le n h.bytes (omega (arith, last)) in
    let lt : j < length (held_up_to h place) = omega (arith, above, below, first, long) in
    untold (inl (j, lt, ap is_break (byte_before t h place j k held lt (omega (arith, above, below, first, long)) ∙ stands_tells t k 10 stands)))

-- ---- a line that was passed

-- the line that was known to begin is known now, or only what was known before; where the text goes on, the next line
-- begins behind it
pub line_passed : (t : List ℕ) (h : HeldPart) (start end len : ℕ) (begun : Option ℕ) (known : KnownLines) → AreHeld h t → h.begun ≡ Some start → start ≤ length t → end ≡ line_end t start → len ≡ length t
    → (known_lines known ≡ learnt (record { start = start; end = end }) (known_lines h.known)) ⊎ (known ≡ h.known) → begun ≡ next_line end len → AreHeld (record h { begun = begun; known = known }) t
line_passed t h start end len begun known held is inside ends long knows next =
    let begins : IsLineStart t start = subst (λ (o : Option ℕ). IfSome o (IsLineStart t)) is held.begun in
    record {
      inside = held.inside;
      bytes = held.bytes;
      begun = subst (λ (o : Option ℕ). IfSome o (IsLineStart t)) (sym next) (elim (cases_lt end len) [
        | inl before ↦ rw (lt-ltb end len before) (next_begins t start end ends (omega (arith, before, long)))
        | inr past ↦ rw (le-ltb end len past) tt
      ]);
      known = elim knows [
        | inl new ↦ record { each = subst (λ (xs : List KnownLine). All (IsLineOf t) xs) (sym new) (all_learnt t (record { start = start; end = end }) (known_lines h.known) (line_found t start end begins inside ends) held.known.each) }
        | inr old ↦ subst (λ (o : KnownLines). IsKnownIn o t) (sym old) held.known
      ];
    }

-- a line begins there
pub line_begun : (t : List ℕ) (h : HeldPart) (place : ℕ) → AreHeld h t → IsLineStart t place → AreHeld (record h { begun = Some place }) t
line_begun t h place held begins = record { inside = held.inside; bytes = held.bytes; begun = begins; known = held.known }

-- none are held, and these lines are known
pub known_held : (t : List ℕ) (known : KnownLines) → IsKnownIn known t → AreHeld (record { from = 0; bytes = []; begun = None; known = known }) t
known_held t known is = record { inside = omega arith; bytes = refl; begun = tt; known = is }

-- what is so in any case
pub ok_any : {X E : Type 0} (P : Type 0) (result : Result X E) → P → IfOk result (λ x. P)
ok_any P (Ok x) p = p
ok_any P (Err e) p = tt
