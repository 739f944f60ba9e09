-- Changes that were handed in: what the tests tell of them, the splices that stand for them, and the terms that they give.
use Rattle.std.proofs.Common.{◌≡◌, ℕ, suc, ◌+◌, ◌-◌, ◌<◌, ◌≤◌, Bool, true, false, List, [], ◌∷◌, ◌++◌, length, map, take, drop, Option, refl, sym, ap, subst, ◌∙◌, arith, inl, inr, Bor}
use Rattle.std.specs.Prelude.{get_or, nat_le, nat_lt, not, ◌&&◌, ◌||◌, ◌==◌}
use Rattle.std.specs.List.{list_any, list_all, sum_by, AllByRecursion}
use Rattle.std.proofs.lemmas.Bool.{ltb-false, lt-ltb, le-leb, leb-true, cases_lt, and_parts, or_parts}
use Rattle.std.proofs.lemmas.List.{length-append, length-take, length-take-le, length-drop, length-map}
use Rattle.std.proofs.lemmas.List.Sums.{sum_by-cons}
use Rattle.std.proofs.Math.Seq.{drop-cons}
use Rattle.leaf_buffer.specs.declared.block.TheConstants.{BLOCK_SIZE}
use Rattle.rope_node.specs.declared.node.NodeId.{NodeId}
use Rattle.rope_node.specs.Table.{Table}
use Rattle.rope_node.specs.Denotes.{Cell, Byte, rope_cells, IsRope}
use Rattle.rope_node.proofs.Parts.{span-map}
use Rattle.command_parts.specs.declared.edit.Splice.{Splice}
use Rattle.command_parts.specs.declared.edit.TheConstants.{MOST_SPLICES}
use Rattle.command_parts.specs.Commands.{is_splice, stands_before, are_apart, can_splice}
use Rattle.command_parts.specs.Parts.{Follow, parts_cells, pieces}
use Rattle.edit_commands.specs.declared.command.Change.{Change}
use Rattle.edit_commands.specs.Building.{ArePutAt, StandEach, placed_changes}
use Rattle.edit_commands.specs.Refusals.{changes_nothing, is_out_of_range, unplaced}
use Rattle.edit_commands.specs.declared.command.Command.TheVariants.{Many}
use Rattle.edit_commands.specs.Session.{SessionValue, length_at}
use Rattle.edit_commands.specs.Terms.{changed_terms, handed, next_place, terms_cells, AreInOrder, AreTerms, CanChange, EndInside}
use Rattle.edit_commands.proofs.BuildSteps.{stand_inside}
use Rattle.std.specs.Cmp.Derive.{both_true}

-- ---- what the tests tell

pub end_inside : (len : ℕ) (changes : List Change) → list_any (λ (c : Change). nat_lt len (c.p + c.m)) changes ≡ false → EndInside len changes
end_inside len [] none = tt
end_inside len (c ∷ changes) none =
    let each = or_parts (nat_lt len (c.p + c.m)) (list_any (λ (d : Change). nat_lt len (d.p + d.m)) changes) none in
    (ltb-false len (c.p + c.m) each.0, end_inside len changes each.1)

begin_behind : (len : ℕ) (c : Change) (changes : List Change) → c.p + c.m ≤ len → stands_before (unplaced c) (map unplaced changes) ≡ true → c.p + c.m ≤ next_place len changes
begin_behind len c [] inside h = inside
begin_behind len c (d ∷ changes) inside h = leb-true (c.p + c.m) d.p (and_parts (nat_lt c.p d.p) (nat_le (c.p + c.m) d.p) h).1

pub changes_follow : (len k : ℕ) (changes : List Change) → EndInside len changes → are_apart (map unplaced changes) ≡ true → k ≤ next_place len changes → Follow len k (map unplaced changes)
changes_follow len k [] inside apart begins = begins
changes_follow len k (c ∷ changes) inside apart begins =
    let order = and_parts (stands_before (unplaced c) (map unplaced changes)) (are_apart (map unplaced changes)) apart in
    (begins, changes_follow len (c.p + c.m) changes inside.1 order.1 (begin_behind len c changes inside.0 order.0))

-- what they take away lies one behind the other
pub changes_sum : (len k : ℕ) (changes : List Change) → Follow len k (map unplaced changes) → k + sum_by (λ (c : Change). c.m) changes ≤ len
changes_sum len k [] f = omega (arith, f)
changes_sum len k (c ∷ changes) f =
    let later = changes_sum len (c.p + c.m) changes f.1 in
    rw (sum_by-cons (λ (d : Change). d.m) c changes) (omega (arith, later, f.0))

-- ---- in order

-- the next change stands inside the text
pub follow_next : (len k : ℕ) (changes : List Change) → Follow len k (map unplaced changes) → (k ≤ next_place len changes) × (next_place len changes ≤ len)
follow_next len k [] f = (f, omega arith)
follow_next len k (c ∷ changes) f = let later = follow_next len (c.p + c.m) changes f.1 in (f.0, omega (arith, later.0, later.1))

pub in_order : (len k : ℕ) (changes : List Change) → Follow len k (map unplaced changes) → AreInOrder len changes
in_order len k [] f = tt
in_order len k (c ∷ changes) f = ((follow_next len (c.p + c.m) changes f.1).0, in_order len (c.p + c.m) changes f.1)

pub can_follow : (len : ℕ) (changes : List Change) (bytes : List ℕ) → CanChange len changes bytes → Follow len 0 (map unplaced changes)
can_follow len changes bytes can = changes_follow len 0 changes can.inside can.apart (omega arith)

-- ---- the splices

-- where bytes stand that were put into a pool
pub put_inside : (old pool bytes : List ℕ) (a : ℕ) → ArePutAt old pool bytes a → a + length bytes ≤ length pool
put_inside old pool bytes a put =
    elim (cases_lt 0 (length bytes)) [
      | inl some ↦ stand_inside pool a bytes some (put.some some).1
      | inr none ↦ let zero_place = put.none (omega (arith, none)) in omega (arith, none, zero_place)
    ]

pub put_bytes : (old pool bytes : List ℕ) (a n : ℕ) → n ≡ length bytes → ArePutAt old pool bytes a → take n (drop a (map Byte pool)) ≡ map Byte bytes
put_bytes old pool [] a n len put = rw len refl
put_bytes old pool (b ∷ bytes) a n len put =
    let stands = (put.some (omega arith)).1 in
    let many : (a + length (b ∷ bytes)) - a ≡ n = omega (arith, len) in
    span-map Byte n a pool ∙ ap (map Byte) (ap (λ (j : ℕ). take j (drop a pool)) (sym many) ∙ stands)

le_zero : (n : ℕ) → n ≤ 0 → n ≡ 0
le_zero n h = omega arith

-- the bytes of the changes stand at these places
module _ (old pool : List ℕ) (rope : Option NodeId) (len : ℕ) where
  pub placed_count : (changes : List Change) (bytes places : List ℕ) → StandEach old pool (handed (changed_terms rope len changes bytes)) places → length (placed_changes changes places) ≡ length changes
  placed_count [] bytes places stand = refl
  placed_count (c ∷ changes) bytes [] stand = absurd stand
  placed_count (c ∷ changes) bytes (a ∷ places) stand = let tail = placed_count changes (drop c.n bytes) places stand.1 in omega (arith, tail)

  placed_before : (c : Change) (a : ℕ) (changes : List Change) (bytes places : List ℕ) → StandEach old pool (handed (changed_terms rope len changes bytes)) places
      → stands_before (record { p = c.p; m = c.m; a = a; n = c.n }) (placed_changes changes places) ≡ stands_before (unplaced c) (map unplaced changes)
  placed_before c a [] bytes places stand = refl
  placed_before c a (d ∷ changes) bytes [] stand = absurd stand
  placed_before c a (d ∷ changes) bytes (b ∷ places) stand = refl

  placed_apart : (changes : List Change) (bytes places : List ℕ) → StandEach old pool (handed (changed_terms rope len changes bytes)) places → are_apart (placed_changes changes places) ≡ are_apart (map unplaced changes)
  placed_apart [] bytes places stand = refl
  placed_apart (c ∷ changes) bytes [] stand = absurd stand
  placed_apart (c ∷ changes) bytes (a ∷ places) stand = rw (placed_before c a changes (drop c.n bytes) places stand.1, placed_apart changes (drop c.n bytes) places stand.1) refl

  pub placed_sums : (changes : List Change) (bytes places : List ℕ) → StandEach old pool (handed (changed_terms rope len changes bytes)) places
      → (sum_by (λ (s : Splice). s.m) (placed_changes changes places) ≡ sum_by (λ (c : Change). c.m) changes) × (sum_by (λ (s : Splice). s.n) (placed_changes changes places) ≡ sum_by (λ (c : Change). c.n) changes)
  placed_sums [] bytes places stand = (refl, refl)
  placed_sums (c ∷ changes) bytes [] stand = absurd stand
  placed_sums (c ∷ changes) bytes (a ∷ places) stand =
      let s : Splice = record { p = c.p; m = c.m; a = a; n = c.n } in
      let tail = placed_sums changes (drop c.n bytes) places stand.1 in (
        rw (sum_by-cons (λ (u : Splice). u.m) s (placed_changes changes places), sum_by-cons (λ (d : Change). d.m) c changes) (omega (arith, tail.0)),
        rw (sum_by-cons (λ (u : Splice). u.n) s (placed_changes changes places), sum_by-cons (λ (d : Change). d.n) c changes) (omega (arith, tail.1)),
      )

  -- a change with its place passes the test
  passes_one : (bytes : List ℕ) (text_len : ℕ) (c : Change) (a : ℕ) → ArePutAt old pool (take c.n bytes) a → c.n ≤ length bytes → c.p + c.m ≤ text_len → changes_nothing c ≡ false → is_splice (length pool) text_len (record { p = c.p; m = c.m; a = a; n = c.n }) ≡ true
  passes_one bytes text_len c a put enough inside something =
      let whole : length (take c.n bytes) ≡ c.n = length-take-le c.n bytes enough in
      let pooled = put_inside old pool (take c.n bytes) a put in
      let some : 1 ≤ c.m + c.n = of_some c.m c.n something in
      both_true (both_true (both_true (le-leb (c.p + c.m) text_len inside) (le-leb (a + c.n) (length pool) (omega (arith, pooled, whole)))) (le-leb 1 (c.m + c.n) some))
      (elim (cases_lt 0 c.n) [
        | inl more ↦ rw (le-leb 1 c.n more) refl
        | inr none ↦ let zero_place : a ≡ 0 = put.none (omega (arith, none, whole)) in or_zero (nat_le 1 c.n) a zero_place
      ])
    where
      or_zero : (b : Bool) (a : ℕ) → a ≡ 0 → (b || a == 0) ≡ true
      or_zero true a e = refl
      or_zero false a e = rw e refl

      of_some : (m n : ℕ) → (m == 0 && n == 0) ≡ false → 1 ≤ m + n
      of_some m n h =
          elim (cases_lt 0 m) [
            | inl more ↦ omega (arith, more)
            | inr none ↦ elim (cases_lt 0 n) [
              | inl more ↦ omega (arith, more)
              | inr none' ↦ let e : (0 == 0 && 0 == 0) ≡ false = subst (λ (j : ℕ). (0 == 0 && j == 0) ≡ false) (le_zero n none') (subst (λ (i : ℕ). (i == 0 && n == 0) ≡ false) (le_zero m none) h) in absurd cc
            ]
          ]

  passes_all : (text_len : ℕ) (changes : List Change) (bytes places : List ℕ) → StandEach old pool (handed (changed_terms rope len changes bytes)) places → sum_by (λ (c : Change). c.n) changes ≤ length bytes → EndInside text_len changes → list_any changes_nothing changes ≡ false
      → list_all (is_splice (length pool) text_len) (placed_changes changes places) ≡ true
  passes_all text_len [] bytes places stand enough inside something = refl
  passes_all text_len (c ∷ changes) bytes [] stand enough inside something = absurd stand
  passes_all text_len (c ∷ changes) bytes (a ∷ places) stand enough inside something =
      let each = or_parts (changes_nothing c) (list_any changes_nothing changes) something in
      let sum = sum_by-cons (λ (d : Change). d.n) c changes in
      both_true (passes_one bytes text_len c a stand.0 (omega (arith, enough, sum)) inside.0 each.0)
      (passes_all text_len changes (drop c.n bytes) places stand.1 (omega (arith, enough, sum, length-drop c.n bytes)) inside.1 each.1)

  -- changes that can be made are splices that can
  pub can_splice_changes : (text_len : ℕ) (changes : List Change) (bytes places : List ℕ) → StandEach old pool (handed (changed_terms rope len changes bytes)) places → CanChange text_len changes bytes → can_splice (length pool) text_len (placed_changes changes places) ≡ true
  can_splice_changes text_len changes bytes places stand can =
      let same = placed_count changes bytes places stand in
      both_true (both_true (both_true (le-leb 1 (length (placed_changes changes places)) (omega (arith, can.some, same))) (le-leb (length (placed_changes changes places)) MOST_SPLICES (omega (arith, can.few, same))))
      (passes_all text_len changes bytes places stand (omega (arith, can.takes)) can.inside can.something))
      (placed_apart changes bytes places stand ∙ can.apart)

-- ---- the terms

-- each hands in few bytes, or is taken from the rope
pub changed_are : (t : Table) (rope : Option NodeId) (len : ℕ) (changes : List Change) (bytes : List ℕ) → IsRope t rope → AllByRecursion (λ (c : Change). c.n ≤ BLOCK_SIZE) changes → AreTerms t (changed_terms rope len changes bytes)
changed_are t rope len [] bytes there each = tt
changed_are t rope len (c ∷ changes) bytes there each = (omega (arith, each.0, length-take c.n bytes), (there, changed_are t rope len changes (drop c.n bytes) there each.1))

-- how long they are together
pub changed_length : (t : Table) (rope : Option NodeId) (len k : ℕ) (changes : List Change) (bytes : List ℕ) → length (rope_cells t rope) ≡ len → Follow len k (map unplaced changes) → sum_by (λ (c : Change). c.n) changes ≤ length bytes
    → length (terms_cells t (changed_terms rope len changes bytes)) + sum_by (λ (c : Change). c.m) changes + next_place len changes ≡ len + sum_by (λ (c : Change). c.n) changes
changed_length t rope len k [] bytes whole f enough = omega arith
changed_length t rope len k (c ∷ changes) bytes whole f enough =
    let text = rope_cells t rope in
    let others = terms_cells t (changed_terms rope len changes (drop c.n bytes)) in
    let e = c.p + c.m in
    let sum_n = sum_by-cons (λ (d : Change). d.n) c changes in
    let sum_m = sum_by-cons (λ (d : Change). d.m) c changes in
    let after = follow_next len e changes f.1 in
    let tail = changed_length t rope len e changes (drop c.n bytes) whole f.1 (omega (arith, enough, sum_n, length-drop c.n bytes)) in
    let own : length (map Byte (take c.n bytes)) ≡ c.n = length-map (take c.n bytes) Byte ∙ length-take-le c.n bytes (omega (arith, enough, sum_n)) in
    let piece : length (take (next_place len changes - e) (drop e text)) ≡ next_place len changes - e = length-take-le (next_place len changes - e) (drop e text) (omega (arith, length-drop e text, whole, after.1)) in
    omega (
      arith,
      tail,
      own,
      piece,
      sum_n,
      sum_m,
      after.0,
      length-append (map Byte (take c.n bytes)) (take (next_place len changes - e) (drop e text) ++ others),
      length-append (take (next_place len changes - e) (drop e text)) others,
    )

-- their cells are those of the pieces that the splices leave of a rope with these cells, the bytes standing in the pool
pub changed_pieces : (t u : Table) (old : List ℕ) (rope : Option NodeId) (len k : ℕ) (changes : List Change) (bytes places : List ℕ) → rope_cells u rope ≡ rope_cells t rope → StandEach old u.pool (handed (changed_terms rope len changes bytes)) places → sum_by (λ (c : Change). c.n) changes ≤ length bytes
    → take (next_place len changes - k) (drop k (rope_cells t rope)) ++ terms_cells t (changed_terms rope len changes bytes) ≡ parts_cells u (pieces rope len k (placed_changes changes places))
changed_pieces t u old rope len k [] bytes places same stand enough = ap (λ (cs : List Cell). take (len - k) (drop k cs) ++ []) (sym same)
changed_pieces t u old rope len k (c ∷ changes) bytes [] same stand enough = absurd stand
changed_pieces t u old rope len k (c ∷ changes) bytes (a ∷ places) same stand enough =
    let sum = sum_by-cons (λ (d : Change). d.n) c changes in
    let e = c.p + c.m in
    let put : map Byte (take c.n bytes) ≡ map Byte (take c.n (drop a u.pool)) =
    sym (put_bytes old u.pool (take c.n bytes) a c.n (sym (length-take-le c.n bytes (omega (arith, enough, sum)))) stand.0) ∙ span-map Byte c.n a u.pool in
    let later = changed_pieces t u old rope len e changes (drop c.n bytes) places same stand.1 (omega (arith, enough, sum, length-drop c.n bytes)) in
    ap (λ (cs : List Cell). take (c.p - k) (drop k cs) ++ (map Byte (take c.n bytes) ++ (take (next_place len changes - e) (drop e (rope_cells t rope)) ++ terms_cells t (changed_terms rope len changes (drop c.n bytes))))) (sym same)
    ∙ ap (λ (cs : List Cell). take (c.p - k) (drop k (rope_cells u rope)) ++ (cs ++ (take (next_place len changes - e) (drop e (rope_cells t rope)) ++ terms_cells t (changed_terms rope len changes (drop c.n bytes))))) put
    ∙ ap (λ (cs : List Cell). take (c.p - k) (drop k (rope_cells u rope)) ++ (map Byte (take c.n (drop a u.pool)) ++ cs)) later

-- ---- what the tests tell of all

pub not_wrong : (n : ℕ) → (n == 0 || nat_lt MOST_SPLICES n) ≡ false → (1 ≤ n) × (n ≤ MOST_SPLICES)
not_wrong n h =
    let each = or_parts (n == 0) (nat_lt MOST_SPLICES n) h in
    let few = ltb-false MOST_SPLICES n each.1 in
    elim (cases_lt 0 n) [
      | inl more ↦ (more, few)
      | inr none ↦ let zero : n ≡ 0 = omega arith in let e : (0 == 0) ≡ false = subst (λ (i : ℕ). (i == 0) ≡ false) zero each.0 in absurd cc
    ]

-- changes that are not misplaced
pub record AreFine (len : ℕ) (changes : List Change) : Type 0 where
  pub inside : EndInside len changes
  pub apart : are_apart (map unplaced changes) ≡ true
  pub follow : Follow len 0 (map unplaced changes)
  pub sum : sum_by (λ (c : Change). c.m) changes ≤ len

not_false : (b : Bool) → not b ≡ false → b ≡ true
not_false true h = refl
not_false false h = absurd cc

pub are_fine : (len : ℕ) (changes : List Change) → (list_any (λ (c : Change). nat_lt len (c.p + c.m)) changes || not (are_apart (map unplaced changes))) ≡ false → AreFine len changes
are_fine len changes h =
    let each = or_parts (list_any (λ (c : Change). nat_lt len (c.p + c.m)) changes) (not (are_apart (map unplaced changes))) h in
    let inside = end_inside len changes each.0 in
    let apart = not_false (are_apart (map unplaced changes)) each.1 in
    let follow = changes_follow len 0 changes inside apart (omega arith) in
    record { inside = inside; apart = apart; follow = follow; sum = omega (arith, changes_sum len 0 changes follow) }

-- a command in range has none misplaced
pub misplaced_none : (v : SessionValue) (r : ℕ) (changes : Bor (List Change)) (bytes : Bor (List ℕ)) → is_out_of_range v (Many r changes bytes) ≡ false
    → (list_any (λ (c : Change). nat_lt (length_at v r) (c.p + c.m)) changes.now || not (are_apart (map unplaced changes.now))) ≡ false
misplaced_none v r changes bytes h = (or_parts (nat_lt (length_at v r) 0 || false) _ h).1

-- ---- changes tested one behind the other

at_two : (changes : List Change) (j : ℕ) → 1 ≤ j → j < length changes → (before here : Change) → get_or changes (j - 1) (record { p = 0; m = 0; n = 0 }) ≡ before → get_or changes j (record { p = 0; m = 0; n = 0 }) ≡ here
    → drop (j - 1) changes ≡ before ∷ here ∷ drop (suc j) changes
at_two changes j some lt before here is is' =
    let d : Change = record { p = 0; m = 0; n = 0 } in
    let next : suc (j - 1) ≡ j = omega arith in
    drop-cons changes (j - 1) d (omega arith)
    ∙ ap (λ (c : Change). c ∷ drop (suc (j - 1)) changes) is
    ∙ ap (λ (k : ℕ). before ∷ drop k changes) next
    ∙ ap (λ (cs : List Change). before ∷ cs) (drop-cons changes j d lt ∙ ap (λ (c : Change). c ∷ drop (suc j) changes) is')

pub apart_on : (changes : List Change) (j : ℕ) → 1 ≤ j → j < length changes → (before here : Change) → get_or changes (j - 1) (record { p = 0; m = 0; n = 0 }) ≡ before → get_or changes j (record { p = 0; m = 0; n = 0 }) ≡ here → before.p < here.p → before.p + before.m ≤ here.p
    → are_apart (map unplaced (drop (j - 1) changes)) ≡ are_apart (map unplaced (drop ((j + 1) - 1) changes))
apart_on changes j some lt before here is is' above behind =
    let d : Change = record { p = 0; m = 0; n = 0 } in
    let later : drop ((j + 1) - 1) changes ≡ here ∷ drop (suc j) changes =
    ap (λ (k : ℕ). drop k changes) (omega arith) ∙ drop-cons changes j d lt ∙ ap (λ (c : Change). c ∷ drop (suc j) changes) is' in
    rw (at_two changes j some lt before here is is', later, lt-ltb before.p here.p above, le-leb (before.p + before.m) here.p behind) refl

short_apart : (changes : List Change) → length changes ≤ 1 → are_apart (map unplaced changes) ≡ true
short_apart [] few = refl
short_apart (c ∷ []) few = refl
short_apart (c ∷ d ∷ changes) few = absurd (omega arith)

pub apart_end : (changes : List Change) (j : ℕ) → 1 ≤ j → length changes ≤ j → are_apart (map unplaced (drop (j - 1) changes)) ≡ true
apart_end changes j some past = short_apart (drop (j - 1) changes) (omega (arith, length-drop (j - 1) changes, some, past))
