-- The next command of an accepted image, handed to a session that says what those before it say, is refused at a limit
-- alone.
use Rattle.std.proofs.Common.{◌≡◌, ℕ, zero, suc, ◌+◌, ◌<◌, ◌≤◌, ◌⊎◌, inl, inr, Bool, true, false, List, [], ◌∷◌, length, map, take, drop, get_or, Option, Some, None, Err, refl, sym, ap, subst, ◌∙◌, arith}
use Rattle.std.specs.Prelude.{IsTrue, nat_le, nat_lt, ◌&&◌, ◌||◌, ◌==◌, slice_get}
use Rattle.std.specs.List.{list_any, list_all, sum_by, AllByRecursion}
use Rattle.std.proofs.lemmas.Bool.{and_parts, and_from, and_left, and_right, or_cases, or_from, or_right, cases_eq, le-ltb, leb-true, le-leb, lt-leb, ne_eqb, not_from_true}
use Rattle.std.proofs.lemmas.List.{length-map, length-take, length-take-le, take-map, get_or-map}
use Rattle.std.proofs.lemmas.List.Elements.{recursion_from_All}
use Rattle.std.proofs.lemmas.List.Sums.{sum_by-cons, sum_by-le-sum_by, sum_by_more_le}
use Rattle.std.proofs.lemmas.Option.{get_or_from_slice_get, slice_get_within}
use Rattle.function_leaf.specs.declared.coded.Coded.{Coded}
use Rattle.leaf_buffer.specs.declared.block.TheConstants.{BLOCK_SIZE}
use Rattle.rope_node.specs.declared.limits.TheConstants.{TEXT_LIMIT}
use Rattle.rope_node.specs.declared.node.NodeId.{NodeId}
use Rattle.rope_node.specs.Table.{Table}
use Rattle.rope_node.specs.Denotes.{rope_len}
use Rattle.rope_node.proofs.Ropes.{rope_short}
use Rattle.node_table.specs.declared.fault.NodeFault.TheVariants as NodeFault
use Rattle.node_table.specs.Held.{Held}
use Rattle.command_parts.specs.declared.edit.Edit.{Edit}
use Rattle.command_parts.specs.declared.edit.Edit.TheVariants as E
use Rattle.command_parts.specs.declared.edit.Splice.{Splice}
use Rattle.command_parts.specs.declared.edit.TheConstants.{MOST_REVISIONS, MOST_SPLICES, SPLICES_LIMIT}
use Rattle.command_parts.specs.Commands.{FullEdit, are_apart, can_splice, full_edit, is_splice, stands_before, with_splices}
use Rattle.command_parts.specs.Commands as F
use Rattle.command_parts.specs.Fields.{splices_of}
use Rattle.command_parts.specs.Parts.{len_of, parts_len, parts_of, root_at, IsInRange}
use Rattle.command_parts.proofs.SplicedTexts.{are_splices}
use Rattle.edit_commands.specs.declared.command.Change.{Change}
use Rattle.edit_commands.specs.declared.command.Command.{Command}
use Rattle.edit_commands.specs.declared.command.Command.TheVariants.{New, Open, Insert, Delete, Replace, Paste, Join, Cut, Fill, Back, Balance, Many}
use Rattle.edit_commands.specs.declared.fault.EditFault.{EditFault}
use Rattle.edit_commands.specs.declared.fault.EditFault.TheVariants.{NoRevision, NoSource, Range, EmptyText, TooManyRevisions, TooManyRows, Node, TooManyPieces, SpliceCount, TooManySplices, Memory}
use Rattle.edit_commands.specs.declared.revision.Revision as Kept
use Rattle.edit_commands.specs.Applying.{AppliesOrNot, IsLaterFault}
use Rattle.edit_commands.specs.Refusals.{TakesAll, bytes_of, changes_of, changes_nothing, first_that_holds, is_empty, is_full, is_full_of_splices, is_long_text, is_out_of_range, is_too_long, is_wrong_count, names_no_revision, names_no_source, refusal_of, result_len, unplaced}
use Rattle.edit_commands.specs.Session.{SessionValue, IsSession, NamesThese, command_of, commands_of, length_at, roots_of, session_table, splices_held}
use Rattle.edit_commands.proofs.HandedChanges.{changes_sum}
use Rattle.edit_script.specs.Commands.{StandsInside, words_of}
use Rattle.image_reader.specs.declared.revision.Revision.{Revision}
use Rattle.image_reader.specs.Value.{ImageValue, IsImage, image_table}
use Rattle.image_reader.specs.Accepted.{command_at, no_revision, revision_at, roots_before}
use Rattle.session_checker.specs.Faithful.{EachRevision, HasTrueRecordsOf, commands}
use Rattle.session_checker.proofs.EarlierRevisions.{earlier_ropes}
use Rattle.script_tools.specs.Refused.{IsNextOf, MeetsLimit, hands_in_long}
use Rattle.script_tools.proofs.AcceptedImages.{all_inside}
use Rattle.script_tools.proofs.CommandLengths.{AreMeasured, lens_at, measured, same_lengths, sum_map}
use Rattle.script_tools.proofs.UnplacedCommands.{as_handed, same_as_handed, same_commands, with_no_place, with_no_places}

-- ---- in range without places

splice_unplaced : (pool_len len : ℕ) (s : Splice) → is_splice pool_len len s ≡ true → is_splice pool_len len (with_no_place s) ≡ true
splice_unplaced pool_len len s h =
    let some = and_parts (nat_le (s.p + s.m) len && nat_le (s.a + s.n) pool_len && nat_le 1 (s.m + s.n)) (nat_le 1 s.n || s.a == 0) h in
    let given = and_parts (nat_le (s.p + s.m) len && nat_le (s.a + s.n) pool_len) (nat_le 1 (s.m + s.n)) some.0 in
    let inside = and_parts (nat_le (s.p + s.m) len) (nat_le (s.a + s.n) pool_len) given.0 in
    let pooled : s.a + s.n ≤ pool_len = leb-true _ _ inside.1 in
    and_from _ _ (and_from _ _ (and_from _ _ inside.0 (le-leb (0 + s.n) pool_len (omega (arith, pooled)))) given.1) (or_right (nat_le 1 s.n) (0 == 0) refl)

splices_unplaced : (pool_len len : ℕ) (splices : List Splice) → list_all (is_splice pool_len len) splices ≡ true → list_all (is_splice pool_len len) (map with_no_place splices) ≡ true
splices_unplaced pool_len len [] h = refl
splices_unplaced pool_len len (s ∷ splices) h =
    let each = and_parts (is_splice pool_len len s) (list_all (is_splice pool_len len) splices) h in
    and_from _ _ (splice_unplaced pool_len len s each.0) (splices_unplaced pool_len len splices each.1)

before_unplaced : (s : Splice) (splices : List Splice) → stands_before (with_no_place s) (map with_no_place splices) ≡ stands_before s splices
before_unplaced s [] = refl
before_unplaced s (u ∷ splices) = refl

apart_unplaced : (splices : List Splice) → are_apart (map with_no_place splices) ≡ are_apart splices
apart_unplaced [] = refl
apart_unplaced (s ∷ splices) = rw (before_unplaced s splices, apart_unplaced splices) refl

can_unplaced : (pool_len len : ℕ) (splices : List Splice) → IsTrue (can_splice pool_len len splices) → IsTrue (can_splice pool_len len (map with_no_place splices))
can_unplaced pool_len len splices h =
    let apart = and_parts (nat_le 1 (length splices) && nat_le (length splices) MOST_SPLICES && list_all (is_splice pool_len len) splices) (are_apart splices) h in
    let fit = and_parts (nat_le 1 (length splices) && nat_le (length splices) MOST_SPLICES) (list_all (is_splice pool_len len) splices) apart.0 in
    let many = length-map splices with_no_place in
    and_from _ _ (and_from _ _ (subst (λ (n : ℕ). (nat_le 1 n && nat_le n MOST_SPLICES) ≡ true) (sym many) fit.0) (splices_unplaced pool_len len splices fit.1)) (apart_unplaced splices ∙ apart.1)

range_unplaced : (t : Table) (roots : List (Option NodeId)) (e : FullEdit) → IsInRange t roots e → IsInRange t roots (with_no_places e)
range_unplaced t roots (F.Insert r p a n) range = (range.0, range.1, range.2, omega (arith, range.3), range.4)
range_unplaced t roots (F.Replace r p m a n) range = (range.0, range.1, range.2, omega (arith, range.3), range.4)
range_unplaced t roots (F.Many r splices) range =
    let taken : sum_by (λ (s : Splice). s.m) (map with_no_place splices) ≡ sum_by (λ (s : Splice). s.m) splices = sum_map (λ (s : Splice). s.m) with_no_place splices in
    let put : sum_by (λ (s : Splice). s.n) (map with_no_place splices) ≡ sum_by (λ (s : Splice). s.n) splices = sum_map (λ (s : Splice). s.n) with_no_place splices in
    (range.0, can_unplaced (length t.pool) (len_of t roots r) splices range.1, omega (arith, range.2, taken, put))
range_unplaced t roots e range = range

-- ---- changes that can be made

not_nothing : (m n : ℕ) → 1 ≤ m + n → (m == 0 && n == 0) ≡ false
not_nothing m n some =
    elim (cases_eq m 0) [
      | inl e ↦ and_right (m == 0) (n == 0) (ne_eqb n 0 (λ z. omega (arith, some, e, z)))
      | inr ne ↦ and_left (m == 0) (n == 0) (ne_eqb m 0 ne)
    ]

changes_fine : (pool_len len : ℕ) (changes : List Change) → list_all (is_splice pool_len len) (map unplaced changes) ≡ true
    → (list_any (λ (c : Change). nat_lt len (c.p + c.m)) changes ≡ false) × (list_any changes_nothing changes ≡ false)
changes_fine pool_len len [] h = (refl, refl)
changes_fine pool_len len (c ∷ changes) h =
    let each = and_parts (is_splice pool_len len (unplaced c)) (list_all (is_splice pool_len len) (map unplaced changes)) h in
    let some = and_parts (nat_le (c.p + c.m) len && nat_le (0 + c.n) pool_len && nat_le 1 (c.m + c.n)) (nat_le 1 c.n || 0 == 0) each.0 in
    let given = and_parts (nat_le (c.p + c.m) len && nat_le (0 + c.n) pool_len) (nat_le 1 (c.m + c.n)) some.0 in
    let inside = and_parts (nat_le (c.p + c.m) len) (nat_le (0 + c.n) pool_len) given.0 in
    let others = changes_fine pool_len len changes each.1 in (
      or_from _ _ (le-ltb len (c.p + c.m) (leb-true _ _ inside.0)) others.0,
      or_from _ _ (not_nothing c.m c.n (leb-true _ _ given.1)) others.1,
    )

record CanBeMade (len : ℕ) (changes : List Change) : Type 0 where
  some : 1 ≤ length changes
  few : length changes ≤ MOST_SPLICES
  inside : list_any (λ (c : Change). nat_lt len (c.p + c.m)) changes ≡ false
  apart : are_apart (map unplaced changes) ≡ true
  something : list_any changes_nothing changes ≡ false
  sum : sum_by (λ (c : Change). c.m) changes ≤ len

can_be_made : (pool_len len : ℕ) (changes : List Change) → IsTrue (can_splice pool_len len (map unplaced changes)) → CanBeMade len changes
can_be_made pool_len len changes h =
    let splices = map unplaced changes in
    let apart = and_parts (nat_le 1 (length splices) && nat_le (length splices) MOST_SPLICES && list_all (is_splice pool_len len) splices) (are_apart splices) h in
    let fit = and_parts (nat_le 1 (length splices) && nat_le (length splices) MOST_SPLICES) (list_all (is_splice pool_len len) splices) apart.0 in
    let are = are_splices pool_len len splices h in
    let fine = changes_fine pool_len len changes fit.1 in
    let many = length-map changes unplaced in
    record {
      some = omega (arith, are.some, many);
      few = omega (arith, are.few, many);
      inside = fine.0;
      apart = apart.1;
      something = fine.1;
      sum = omega (arith, changes_sum len 0 changes are.follow);
    }

-- ---- the tests of a command in range over a table that has the session's lengths

abbrev is_long_change : Change → Bool
is_long_change c = nat_lt BLOCK_SIZE c.n

module _ (v : SessionValue) (t : Table) (roots : List (Option NodeId)) (count : length roots ≡ length v.revisions) (lens : (r : ℕ) → len_of t roots r ≡ length_at v r) (sources : t.sources ≡ v.held.sources) where
  there : (r : ℕ) (rest : Bool) → r < length roots → rest ≡ false → (nat_le (length v.revisions) r || rest) ≡ false
  there r rest lt none = or_from (nat_le (length v.revisions) r) rest (lt-leb (length v.revisions) r (omega (arith, lt, count))) none

  named : (command : Command) → IsInRange t roots (as_handed command) → names_no_revision v command ≡ false
  named New range = refl
  named (Open s) range = refl
  named (Insert r p bytes) range = there r false range.0 refl
  named (Delete r p n) range = there r false range.0 refl
  named (Replace r p m bytes) range = there r false range.0 refl
  named (Paste r p q i n) range = there r _ range.0 (there q false range.2 refl)
  named (Join r q) range = there r _ range.0 (there q false range.1 refl)
  named (Cut r i n) range = there r false range.0 refl
  named (Fill r p c n) range = there r false range.0 refl
  named (Back r) range = there r false range refl
  named (Balance r) range = there r false range refl
  named (Many r changes bytes) range = there r false range.0 refl

  counted : (command : Command) → IsInRange t roots (as_handed command) → is_wrong_count command ≡ false
  counted (Many r changes bytes) range =
      let can = can_be_made (length t.pool) (len_of t roots r) changes.now range.1 in
      or_from _ _ (ne_eqb (length changes.now) 0 (λ z. omega (arith, z, can.some))) (le-ltb MOST_SPLICES (length changes.now) can.few)
  counted _ range = refl

  sourced : (command : Command) → IsInRange t roots (as_handed command) → names_no_source v command ≡ false
  sourced (Open s) range = lt-leb (length v.held.sources) s (omega (arith, range, ap length sources))
  sourced _ range = refl

  reached : (r end : ℕ) (rest : Bool) → end ≤ len_of t roots r → rest ≡ false → (nat_lt (length_at v r) end || rest) ≡ false
  reached r end rest le none = or_from (nat_lt (length_at v r) end) rest (le-ltb (length_at v r) end (omega (arith, le, lens r))) none

  at_start : (r : ℕ) (rest : Bool) → rest ≡ false → (nat_lt (length_at v r) 0 || rest) ≡ false
  at_start r rest none = reached r 0 rest (omega arith) none

  placed : (command : Command) → IsInRange t roots (as_handed command) → is_out_of_range v command ≡ false
  placed New range = refl
  placed (Open s) range = refl
  placed (Insert r p bytes) range = or_from _ _ (reached r p false range.1 refl) refl
  placed (Delete r p n) range = or_from _ _ (reached r (p + n) false range.1 refl) refl
  placed (Replace r p m bytes) range = or_from _ _ (reached r (p + m) false range.1 refl) refl
  placed (Paste r p q i n) range = or_from _ _ (reached r p _ range.1 (reached q (i + n) false range.3 refl)) refl
  placed (Join r q) range = or_from _ _ (at_start r _ (at_start q false refl)) refl
  placed (Cut r i n) range = or_from _ _ (reached r (i + n) false range.1 refl) refl
  placed (Fill r p c n) range = or_from _ _ (reached r p false range.1 refl) refl
  placed (Back r) range = or_from _ _ (at_start r false refl) refl
  placed (Balance r) range = or_from _ _ (at_start r false refl) refl
  placed (Many r changes bytes) range =
      let can = can_be_made (length t.pool) (len_of t roots r) changes.now range.1 in
      let inside : list_any (λ (c : Change). nat_lt (length_at v r) (c.p + c.m)) changes.now ≡ false =
      subst (λ (n : ℕ). list_any (λ (c : Change). nat_lt n (c.p + c.m)) changes.now ≡ false) (lens r) can.inside in
      or_from _ _ (at_start r false refl) (or_from _ _ inside (not_from_true _ can.apart))

  some_bytes : (bytes : List ℕ) → 1 ≤ length bytes → (length bytes == 0) ≡ false
  some_bytes bytes some = ne_eqb (length bytes) 0 (λ z. omega (arith, z, some))

  something : (command : Command) → IsInRange t roots (as_handed command) → is_empty command ≡ false
  something (Insert r p bytes) range = or_from _ _ (some_bytes bytes.now range.2) refl
  something (Replace r p m bytes) range = or_from _ _ (some_bytes bytes.now range.2) refl
  something (Many r changes bytes) range = (can_be_made (length t.pool) (len_of t roots r) changes.now range.1).something
  something _ range = refl

  module _ (roots_short : (r : ℕ) → r < length roots → len_of t roots r < TEXT_LIMIT) (sources_short : (s : ℕ) → get_or t.sources s 0 < TEXT_LIMIT) where
    short : (command : Command) → TakesAll command → IsInRange t roots (as_handed command) → result_len v command < TEXT_LIMIT
    short New takes range = omega arith
    short (Open s) takes range = subst (λ (ns : List ℕ). get_or ns s 0 < TEXT_LIMIT) sources (sources_short s)
    short (Insert r p bytes) takes range = omega (arith, range.4, lens r)
    short (Delete r p n) takes range = omega (arith, roots_short r range.0, lens r)
    short (Replace r p m bytes) takes range = omega (arith, range.1, range.4, lens r)
    short (Paste r p q i n) takes range = omega (arith, range.4, lens r)
    short (Join r q) takes range = omega (arith, range.2, lens r, lens q)
    short (Cut r i n) takes range = omega (arith, range.1, roots_short r range.0)
    short (Fill r p c n) takes range = omega (arith, range.3, lens r)
    short (Back r) takes range = omega (arith, roots_short r range, lens r)
    short (Balance r) takes range = omega (arith, roots_short r range, lens r)
    short (Many r changes bytes) takes range =
        let can = can_be_made (length t.pool) (len_of t roots r) changes.now range.1 in
        let taken : sum_by (λ (s : Splice). s.m) (map unplaced changes.now) ≡ sum_by (λ (c : Change). c.m) changes.now = sum_map (λ (s : Splice). s.m) unplaced changes.now in
        let put : sum_by (λ (s : Splice). s.n) (map unplaced changes.now) ≡ sum_by (λ (c : Change). c.n) changes.now = sum_map (λ (s : Splice). s.n) unplaced changes.now in
        omega (arith, range.2, can.sum, taken, put, takes, lens r)

-- ---- bytes handed in

any_map : {X Y : Type 0} (p : Y → Bool) (f : X → Y) (xs : List X) → list_any p (map f xs) ≡ list_any (λ (x : X). p (f x)) xs
any_map p f [] = refl
any_map p f (x ∷ xs) = ap (λ (b : Bool). p (f x) || b) (any_map p f xs)

long_unplaced : (e : FullEdit) → hands_in_long (with_no_places e) ≡ hands_in_long e
long_unplaced (F.Many r splices) = any_map (λ (s : Splice). nat_lt BLOCK_SIZE s.n) with_no_place splices
long_unplaced e = refl

long_handed : (command : Command) → (is_long_text (bytes_of command) ≡ true) ⊎ (list_any is_long_change (changes_of command) ≡ true) → hands_in_long (as_handed command) ≡ true
long_handed (Insert r p bytes) (inl long) = long
long_handed (Insert r p bytes) (inr long) = absurd cc
long_handed (Replace r p m bytes) (inl long) = long
long_handed (Replace r p m bytes) (inr long) = absurd cc
long_handed (Many r changes bytes) (inl long) = absurd cc
long_handed (Many r changes bytes) (inr long) = any_map (λ (s : Splice). nat_lt BLOCK_SIZE s.n) unplaced changes.now ∙ long
long_handed _ (inl long) = absurd cc
long_handed _ (inr long) = absurd cc

-- a text that is not too long is refused as such for the bytes handed in alone
handed_long : (v : SessionValue) (command : Command) → result_len v command < TEXT_LIMIT → is_too_long v command ≡ true → hands_in_long (as_handed command) ≡ true
handed_long v command short long =
    let beyond = nat_le TEXT_LIMIT (result_len v command) in
    let text = is_long_text (bytes_of command) in
    let change = list_any is_long_change (changes_of command) in
    elim (or_cases (beyond || text) change long) [
      | inl first ↦ elim (or_cases beyond text first) [
        | inl over ↦ absurd (omega (arith, short, leb-true TEXT_LIMIT (result_len v command) over))
        | inr long_text ↦ long_handed command (inl long_text)
      ]
      | inr long_change ↦ long_handed command (inr long_change)
    ]

-- ---- the first reason

passed_by : (b : Bool) (g f : EditFault) (rest : List (Bool × EditFault)) → b ≡ false → first_that_holds ((b, g) ∷ rest) ≡ Some f → first_that_holds rest ≡ Some f
passed_by true g f rest none is = absurd cc
passed_by false g f rest none is = is

last_is : (b : Bool) (g f : EditFault) → first_that_holds ((b, g) ∷ []) ≡ Some f → (b ≡ true) × (f ≡ g)
last_is true g f is = (refl, cc)
last_is false g f is = absurd cc

-- what is left of the reasons, where all but the length do not hold
only_long : (v : SessionValue) (command : Command) (f : EditFault) → names_no_revision v command ≡ false → is_wrong_count command ≡ false → names_no_source v command ≡ false
    → is_out_of_range v command ≡ false → is_empty command ≡ false → is_full v ≡ false → is_full_of_splices v command ≡ false
    → refusal_of v command ≡ Some f → (is_too_long v command ≡ true) × (f ≡ Node NodeFault.TooLong)
only_long v command f named counted sourced placed something room splices is =
    let long : List (Bool × EditFault) = (is_too_long v command, Node NodeFault.TooLong) ∷ [] in
    let many : List (Bool × EditFault) = (is_full_of_splices v command, TooManySplices) ∷ long in
    let full : List (Bool × EditFault) = (is_full v, TooManyRevisions) ∷ many in
    let empty : List (Bool × EditFault) = (is_empty command, EmptyText) ∷ full in
    let past : List (Bool × EditFault) = (is_out_of_range v command, Range) ∷ empty in
    let no_source : List (Bool × EditFault) = (names_no_source v command, NoSource) ∷ past in
    let count : List (Bool × EditFault) = (is_wrong_count command, SpliceCount) ∷ no_source in
    let first = passed_by (names_no_revision v command) NoRevision f count named is in
    let second = passed_by (is_wrong_count command) SpliceCount f no_source counted first in
    let third = passed_by (names_no_source v command) NoSource f past sourced second in
    let fourth = passed_by (is_out_of_range v command) Range f empty placed third in
    let fifth = passed_by (is_empty command) EmptyText f full something fourth in
    let sixth = passed_by (is_full v) TooManyRevisions f many room fifth in
    let last = passed_by (is_full_of_splices v command) TooManySplices f long splices sixth in
    last_is (is_too_long v command) (Node NodeFault.TooLong) f last

-- ---- splices

abbrev splices_named : FullEdit → ℕ
splices_named (F.Many r splices) = length splices
splices_named e = 0

named_count : (first : ℕ) (splices : List Splice) (edit : Edit) → NamesThese first splices edit → length splices ≡ splices_named (with_no_places (with_splices splices edit))
named_count first splices (E.Many r from count) names = sym (length-map splices with_no_place)
named_count first splices E.New names = ap length names
named_count first splices (E.Open s) names = ap length names
named_count first splices (E.Insert r p a n) names = ap length names
named_count first splices (E.Delete r p n) names = ap length names
named_count first splices (E.Replace r p m a n) names = ap length names
named_count first splices (E.Paste r p q i n) names = ap length names
named_count first splices (E.Join r q) names = ap length names
named_count first splices (E.Cut r i n) names = ap length names
named_count first splices (E.Fill r p c n) names = ap length names
named_count first splices (E.Back r) names = ap length names
named_count first splices (E.Balance r) names = ap length names

-- a recorded command has at most as many as it says
few_named : (all : List Splice) (edit : Edit) → splices_named (with_no_places (full_edit all edit)) ≤ splices_of edit
few_named all (E.Many r first count) = omega (arith, length-map (take count (drop first all)) with_no_place, length-take count (drop first all))
few_named all _ = omega arith

handed_count : (command : Command) → length (changes_of command) ≡ splices_named (as_handed command)
handed_count (Many r changes bytes) = sym (length-map changes.now unplaced)
handed_count _ = refl

held_count : (revisions : List Kept.Revision) → ((k : ℕ) (r : Kept.Revision) → slice_get revisions k ≡ Some r → length r.splices.items ≡ splices_named (with_no_places (command_of r)))
    → splices_held revisions ≡ sum_by splices_named (map with_no_places (commands_of revisions))
held_count [] each = refl
held_count (r ∷ revisions) each =
    let here = each 0 r refl in
    let others = held_count revisions (λ k. each (suc k)) in
    sum_by-cons (λ (x : Kept.Revision). length x.splices.items) r revisions
    ∙ omega (arith, here, others)
    ∙ sym (sum_by-cons splices_named (with_no_places (command_of r)) (map with_no_places (commands_of revisions)))

-- ---- the image's commands and the session's

recursion_take : {X : Type 0} (P : X → Type 0) (xs : List X) (k : ℕ) → AllByRecursion P xs → AllByRecursion P (take k xs)
recursion_take P xs zero all = tt
recursion_take P [] (suc k) all = tt
recursion_take P (x ∷ xs) (suc k) all = (all.0, recursion_take P xs k all.1)

abbrev said_at : ImageValue → Revision → FullEdit
said_at w r = full_edit w.splices r.edit

image_measured : (w : ImageValue) → HasTrueRecordsOf w → AreMeasured w.sources (map with_no_places (commands w)) (map (rope_len (image_table w)) (map (λ (r : Revision). r.root) w.revisions))
image_measured w records =
    let t = image_table w in
    let root : Revision → Option NodeId = λ (r : Revision). r.root in
    measured t root (said_at w) w.revisions (λ k r is.
    let rules = records.rules k (slice_get_within w.revisions k r is) in
    let same : revision_at w k ≡ r = get_or_from_slice_get w.revisions k r no_revision is in
    subst (λ (x : Revision). IsInRange t (map root (take k w.revisions)) (said_at w x) × (rope_len t x.root ≡ parts_len (parts_of t (map root (take k w.revisions)) (said_at w x)))) same
    (rules.command, rules.root.1))

session_measured : (v : SessionValue) → IsSession v → AreMeasured v.held.sources (map with_no_places (commands_of v.revisions)) (map (rope_len (session_table v)) (roots_of v.revisions))
session_measured v is =
    let t = session_table v in
    measured t (λ (r : Kept.Revision). r.root) command_of v.revisions (λ k r at.
    let c = (is.each k r at).certified in
    let covers = c.rows (λ s p. 0) in
    (c.range, sym covers.whole_root ∙ covers.whole_parts))

module _ (w : ImageValue) (v : SessionValue) (command : Command) (image : IsImage w) (records : HasTrueRecordsOf w) (inside : EachRevision w (λ k. StandsInside (length w.pool) (command_at w k))) (next : IsNextOf w v command) where
  -- the session's commands are the image's first ones
  first_commands : map with_no_places (commands_of v.revisions) ≡ take (length v.revisions) (map with_no_places (commands w))
  first_commands =
      let n = length v.revisions in
      let words : map (words_of v.held.pool.bytes) (commands_of v.revisions) ≡ map (words_of w.pool) (take n (commands w)) = next.earlier ∙ take-map (words_of w.pool) n (commands w) in
      let all = recursion_from_All (StandsInside (length w.pool)) (commands w) (all_inside w inside) in
      same_commands v.held.pool.bytes w.pool (commands_of v.revisions) (take n (commands w)) next.inside (recursion_take (StandsInside (length w.pool)) (commands w) n all) words
      ∙ sym (take-map with_no_places n (commands w))

  as_many : length (map with_no_places (commands_of v.revisions)) ≡ length v.revisions
  as_many = length-map (commands_of v.revisions) with_no_places ∙ length-map v.revisions command_of

  -- so their texts are as long
  same_lens : map (rope_len (image_table w)) (roots_before w (length v.revisions)) ≡ map (rope_len (session_table v)) (roots_of v.revisions)
  same_lens =
      let n = length v.revisions in
      let t = image_table w in
      let root : Revision → Option NodeId = λ (r : Revision). r.root in
      let es = map with_no_places (commands w) in
      let fs = map with_no_places (commands_of v.revisions) in
      let xs = map (rope_len t) (map root w.revisions) in
      let ys = map (rope_len (session_table v)) (roots_of v.revisions) in
      let first : fs ≡ take (length fs) es = first_commands ∙ ap (λ (m : ℕ). take m es) (sym as_many) in
      let right : AreMeasured w.sources fs ys = subst (λ (ns : List ℕ). AreMeasured ns fs ys) next.sources (session_measured v next.session) in
      sym (take-map (rope_len t) n (map root w.revisions) ∙ ap (map (rope_len t)) (take-map root n w.revisions))
      ∙ ap (λ (m : ℕ). take m xs) (sym as_many)
      ∙ same_lengths w.sources es fs xs ys first (image_measured w records) right

  same_len : (r : ℕ) → len_of (image_table w) (roots_before w (length v.revisions)) r ≡ length_at v r
  same_len r =
      sym (lens_at (image_table w) (roots_before w (length v.revisions)) r) ∙ ap (λ (lens : List ℕ). get_or lens r 0) same_lens
      ∙ lens_at (session_table v) (roots_of v.revisions) r

  -- the command is the image's, and in range
  same_command : with_no_places (command_at w (length v.revisions)) ≡ as_handed command
  same_command = same_as_handed w.pool (command_at w (length v.revisions)) command (inside (length v.revisions) next.there) next.takes next.words

  range : IsInRange (image_table w) (roots_before w (length v.revisions)) (as_handed command)
  range =
      let n = length v.revisions in
      subst (IsInRange (image_table w) (roots_before w n)) same_command (range_unplaced (image_table w) (roots_before w n) (command_at w n) (records.rules n next.there).command)

  roots_count : length (roots_before w (length v.revisions)) ≡ length v.revisions
  roots_count =
      let n = length v.revisions in
      length-map (take n w.revisions) (λ (r : Revision). r.root) ∙ length-take-le n w.revisions (omega (arith, next.there))

  roots_short : (r : ℕ) → r < length (roots_before w (length v.revisions)) → len_of (image_table w) (roots_before w (length v.revisions)) r < TEXT_LIMIT
  roots_short r lt =
      let n = length v.revisions in
      let ropes = earlier_ropes w n (λ c before. records.roots c (omega (arith, before, next.there))) in
      rope_short (image_table w) records.sound (root_at (roots_before w n) r) (ropes r lt)

  -- there is room for its splices
  splices_fit : is_full_of_splices v command ≡ false
  splices_fit =
      let n = length v.revisions in
      let es = map with_no_places (commands w) in
      let named : Revision → ℕ = λ (r : Revision). splices_named (with_no_places (said_at w r)) in
      let lt : n < length (commands w) = omega (arith, next.there, length-map w.revisions (said_at w)) in
      let at : get_or es n F.New ≡ as_handed command =
      get_or-map with_no_places (commands w) n F.New F.New lt
      ∙ ap with_no_places (get_or-map (said_at w) w.revisions n no_revision F.New next.there) ∙ same_command in
      let held = held_count v.revisions (λ j r is. named_count (splices_held (take j v.revisions)) r.splices.items r.edit (next.session.each j r is).certified.names) in
      let before : splices_held v.revisions ≡ sum_by splices_named (take n es) = held ∙ ap (sum_by splices_named) first_commands in
      let own : length (changes_of command) ≡ splices_named (get_or es n F.New) = handed_count command ∙ ap splices_named (sym at) in
      let within = sum_by_more_le splices_named es n F.New (omega (arith, lt, length-map (commands w) with_no_places)) in
      let all : sum_by splices_named es ≡ sum_by named w.revisions =
      sum_map splices_named with_no_places (commands w) ∙ sum_map (λ (e : FullEdit). splices_named (with_no_places e)) (said_at w) w.revisions in
      let few = sum_by-le-sum_by named (λ (r : Revision). splices_of r.edit) w.revisions (λ r. few_named w.splices r.edit) in
      le-ltb SPLICES_LIMIT (splices_held v.revisions + length (changes_of command)) (omega (arith, before, own, within, all, few, image.splices_counted, image.few_splices))

  -- what refuses it before any change
  next_refusal : (f : EditFault) → refusal_of v command ≡ Some f → MeetsLimit (command_at w (length v.revisions)) f
  next_refusal f is =
      let n = length v.revisions in
      let t = image_table w in
      let roots = roots_before w n in
      let sources : t.sources ≡ v.held.sources = sym next.sources in
      let full : is_full v ≡ false = lt-leb MOST_REVISIONS n (omega (arith, next.there, image.few_revisions)) in
      let left = only_long v command f (named v t roots roots_count same_len sources command range) (counted v t roots roots_count same_len sources command range)
      (sourced v t roots roots_count same_len sources command range) (placed v t roots roots_count same_len sources command range)
      (something v t roots roots_count same_len sources command range) full splices_fit is in
      let shorter = short v t roots roots_count same_len sources roots_short records.sound.sources command next.takes range in
      let long : hands_in_long (command_at w n) ≡ true =
      sym (long_unplaced (command_at w n)) ∙ ap hands_in_long same_command ∙ handed_long v command shorter left.0 in
      subst (MeetsLimit (command_at w n)) (sym left.1) long

-- what is met on the way
pub later_meets : (e : FullEdit) (old : Held Coded) (revisions : List Kept.Revision) (command : Command) (f : EditFault) (new : Held Coded) → IsLaterFault old revisions command f new → MeetsLimit e f
later_meets e old revisions command (Node NodeFault.TableFull) new later = tt
later_meets e old revisions command (Node NodeFault.PoolFull) new later = tt
later_meets e old revisions command (Node NodeFault.TooLong) new later = absurd later
later_meets e old revisions command (Node NodeFault.TooDeep) new later = absurd later
later_meets e old revisions command (Node NodeFault.BadSpan) new later = absurd later
later_meets e old revisions command (Node NodeFault.TooManySources) new later = absurd later
later_meets e old revisions command (Node NodeFault.Memory) new later = absurd later
later_meets e old revisions command TooManyPieces new later = tt
later_meets e old revisions command TooManyRows new later = tt
later_meets e old revisions command Memory new later = tt
later_meets e old revisions command NoRevision new later = absurd later
later_meets e old revisions command NoSource new later = absurd later
later_meets e old revisions command Range new later = absurd later
later_meets e old revisions command EmptyText new later = absurd later
later_meets e old revisions command TooManyRevisions new later = absurd later
later_meets e old revisions command SpliceCount new later = absurd later
later_meets e old revisions command TooManySplices new later = absurd later

none_or_some : {X : Type 0} (o : Option X) → (o ≡ None) ⊎ ((x : X) × (o ≡ Some x))
none_or_some None = inl refl
none_or_some (Some x) = inr (x, refl)

-- a refusal changes nothing, or meets a limit
pub unchanged_or_met : (v after : SessionValue) (command : Command) (fault : EditFault) → AppliesOrNot v command (Err fault) after → (after ≡ v) ⊎ ((e : FullEdit) → MeetsLimit e fault)
unchanged_or_met v after command fault a =
    elim (none_or_some (refusal_of v command)) [
      | inl none ↦ inr (λ e. later_meets e v.held v.revisions command fault after.held (a.later none))
      | inr (f, is) ↦ inl (a.refused f is).1
    ]

pub next_meets : (w : ImageValue) (v after : SessionValue) (command : Command) (fault : EditFault) → IsImage w → HasTrueRecordsOf w
    → EachRevision w (λ k. StandsInside (length w.pool) (command_at w k)) → IsNextOf w v command → AppliesOrNot v command (Err fault) after
    → MeetsLimit (command_at w (length v.revisions)) fault
next_meets w v after command fault image records inside next a =
    let e = command_at w (length v.revisions) in
    elim (none_or_some (refusal_of v command)) [
      | inl none ↦ later_meets e v.held v.revisions command fault after.held (a.later none)
      | inr (f, is) ↦
          let refused = (a.refused f is).0 in
          let same : f ≡ fault = cc in
          subst (MeetsLimit e) same (next_refusal w v command image records inside next f is)
    ]
