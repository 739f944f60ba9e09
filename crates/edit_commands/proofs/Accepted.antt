-- A command that is not refused is in range, and its terms joined are what it gives.
use Rattle.std.proofs.Common.{◌≡◌, ℕ, ◌+◌, ◌-◌, ◌<◌, ◌≤◌, Bool, true, false, List, [], ◌∷◌, ◌++◌, length, map, take, drop, Option, Some, None, refl, sym, ap, subst, ◌∙◌, arith, append-nil}
use Rattle.std.specs.Prelude.{IsTrue, get_or, replicate, nat_le, nat_lt, ◌||◌, ◌==◌}
use Rattle.std.specs.List.{list_any, AllByRecursion, range_with_len}
use Rattle.std.proofs.lemmas.Bool.{ltb-false, leb-false, or_parts}
use Rattle.std.proofs.lemmas.List.{length-append, length-map, length-take, length-replicate, take_all}
use Rattle.std.proofs.lemmas.List.FromFn.{length-range_with_len}
use Rattle.function_leaf.specs.declared.coded.Coded.{Coded}
use Rattle.function_leaf.specs.Coded.{coded_byte}
use Rattle.leaf_buffer.specs.declared.block.TheConstants.{BLOCK_SIZE}
use Rattle.rope_node.specs.declared.limits.TheConstants.{TEXT_LIMIT}
use Rattle.rope_node.specs.declared.node.NodeId.{NodeId}
use Rattle.rope_node.specs.Table.{Table, IsSound, HasTrueRecords}
use Rattle.rope_node.specs.Denotes.{Cell, Byte, Place, rope_cells, rope_len, IsRope}
use Rattle.rope_node.proofs.Ropes.{rope_length, rope_short, rope_cells_kept}
use Rattle.node_table.specs.declared.fault.NodeFault.TheVariants as NodeFault
use Rattle.node_table.specs.Held.{Held, table_of}
use Rattle.rebalance.specs.AnyForms.{StandInPool}
use Rattle.rebalance.proofs.AnyCalls.{IsRight}
use Rattle.command_parts.specs.declared.part.Part.{Part}
use Rattle.command_parts.specs.Commands.{can_splice, result_of}
use Rattle.command_parts.specs.Parts.{root_at, len_of, part_cells, parts_cells, pieces, givens_of, AreRopes, IsInRange}
use Rattle.command_parts.specs.Parts as Parts
use Rattle.command_parts.proofs.Joined.{terms_joined}
use Rattle.span_certificate.proofs.Kept.{all_cells_kept, are_ropes_kept, rope_len_kept}
use Rattle.edit_commands.specs.declared.command.Change.{Change}
use Rattle.edit_commands.specs.declared.command.Command.{Command}
use Rattle.edit_commands.specs.declared.command.Command.TheVariants.{New, Open, Insert, Delete, Replace, Paste, Join, Cut, Fill, Back, Balance, Many}
use Rattle.edit_commands.specs.declared.fault.EditFault.{EditFault}
use Rattle.edit_commands.specs.declared.fault.EditFault.TheVariants.{NoRevision, NoSource, Range, EmptyText, TooManyRevisions, Node, SpliceCount, TooManySplices}
use Rattle.edit_commands.specs.declared.revision.Revision.{Revision}
use Rattle.edit_commands.specs.Building.{GoesOn, StandEach, command_with, placed_changes}
use Rattle.edit_commands.specs.Refusals.{TakesAll, bytes_of, changes_of, changes_nothing, ends_of, names_no_revision, is_wrong_count, names_no_source, are_misplaced, is_out_of_range, is_empty_text, is_empty, is_full, is_full_of_splices, is_long_text, is_too_long, result_len, first_that_holds, refusal_of}
use Rattle.edit_commands.specs.Session.{SessionValue, length_at, roots_of}
use Rattle.edit_commands.specs.Terms.{changed_terms, handed, next_place, command_terms, terms_cells, AreTerms, FillsBytes, IsCommandInRange}
use Rattle.edit_commands.proofs.BuildSteps.{stand_inside}
use Rattle.edit_commands.proofs.HandedChanges.{are_fine, can_follow, can_splice_changes, changed_are, changed_length, changed_pieces, follow_next, not_wrong, placed_sums}

-- ---- the tests, none of which holds

none_of : (b : Bool) (f : EditFault) (rest : List (Bool × EditFault)) → first_that_holds ((b, f) ∷ rest) ≡ None → (b ≡ false) × (first_that_holds rest ≡ None)
none_of true f rest none = absurd cc
none_of false f rest none = (refl, none)

pub record Passes (v : SessionValue) (command : Command) : Type 0 where
  pub named : names_no_revision v command ≡ false
  pub count : is_wrong_count command ≡ false
  pub sourced : names_no_source v command ≡ false
  pub inside : list_any (λ (e : ℕ × ℕ). nat_lt (length_at v e.0) e.1) (ends_of command) ≡ false
  pub placed : are_misplaced v command ≡ false
  pub some : is_empty_text (bytes_of command) ≡ false
  pub something : list_any changes_nothing (changes_of command) ≡ false
  pub room : is_full v ≡ false
  pub splices : is_full_of_splices v command ≡ false
  pub short : (nat_le TEXT_LIMIT (result_len v command) || is_long_text (bytes_of command)) ≡ false
  pub each_short : list_any (λ (c : Change). nat_lt BLOCK_SIZE c.n) (changes_of command) ≡ false

pub passes : (v : SessionValue) (command : Command) → refusal_of v command ≡ None → Passes v command
passes v command none =
    let long : List (Bool × EditFault) = (is_too_long v command, Node NodeFault.TooLong) ∷ [] in
    let many : List (Bool × EditFault) = (is_full_of_splices v command, TooManySplices) ∷ long in
    let full : List (Bool × EditFault) = (is_full v, TooManyRevisions) ∷ many in
    let empty : List (Bool × EditFault) = (is_empty command, EmptyText) ∷ full in
    let past : List (Bool × EditFault) = (is_out_of_range v command, Range) ∷ empty in
    let no_source : List (Bool × EditFault) = (names_no_source v command, NoSource) ∷ past in
    let count : List (Bool × EditFault) = (is_wrong_count command, SpliceCount) ∷ no_source in
    let first = none_of (names_no_revision v command) NoRevision count none in
    let second = none_of (is_wrong_count command) SpliceCount no_source first.1 in
    let third = none_of (names_no_source v command) NoSource past second.1 in
    let fourth = none_of (is_out_of_range v command) Range empty third.1 in
    let fifth = none_of (is_empty command) EmptyText full fourth.1 in
    let sixth = none_of (is_full v) TooManyRevisions many fifth.1 in
    let seventh = none_of (is_full_of_splices v command) TooManySplices long sixth.1 in
    let last = none_of (is_too_long v command) (Node NodeFault.TooLong) [] seventh.1 in
    let range = or_parts (list_any (λ (e : ℕ × ℕ). nat_lt (length_at v e.0) e.1) (ends_of command)) (are_misplaced v command) fourth.0 in
    let text = or_parts (is_empty_text (bytes_of command)) (list_any changes_nothing (changes_of command)) fifth.0 in
    let short = or_parts (nat_le TEXT_LIMIT (result_len v command) || is_long_text (bytes_of command)) (list_any (λ (c : Change). nat_lt BLOCK_SIZE c.n) (changes_of command)) last.0 in
    record {
      named = first.0;
      count = second.0;
      sourced = third.0;
      inside = range.0;
      placed = range.1;
      some = text.0;
      something = text.1;
      room = sixth.0;
      splices = seventh.0;
      short = short.0;
      each_short = short.1;
    }

-- a number that a list of one or two is tested for
below : (n r : ℕ) (rest : Bool) → (nat_le n r || rest) ≡ false → (r < n) × (rest ≡ false)
below n r rest none = let both = or_parts (nat_le n r) rest none in (leb-false n r both.0, both.1)

reached : (n end : ℕ) (rest : Bool) → (nat_lt n end || rest) ≡ false → (end ≤ n) × (rest ≡ false)
reached n end rest none = let both = or_parts (nat_lt n end) rest none in (ltb-false n end both.0, both.1)

some_bytes : (bytes : List ℕ) → (length bytes == 0) ≡ false → 1 ≤ length bytes
some_bytes [] none = absurd cc
some_bytes (b ∷ bs) none = omega arith

-- ---- in range

each_few : (changes : List Change) → list_any (λ (c : Change). nat_lt BLOCK_SIZE c.n) changes ≡ false → AllByRecursion (λ (c : Change). c.n ≤ BLOCK_SIZE) changes
each_few [] none = tt
each_few (c ∷ changes) none =
    let each = or_parts (nat_lt BLOCK_SIZE c.n) (list_any (λ (d : Change). nat_lt BLOCK_SIZE d.n) changes) none in
    (ltb-false BLOCK_SIZE c.n each.0, each_few changes each.1)

pub in_range : (old : Held Coded) (revisions : List Revision) (command : Command) → refusal_of (record { held = old; revisions = revisions }) command ≡ None → TakesAll command → IsCommandInRange (table_of coded_byte old) (roots_of revisions) command
in_range old revisions New accepted takes = tt
in_range old revisions (Open s) accepted takes =
    let ok = passes (record { held = old; revisions = revisions }) (Open s) accepted in
    leb-false (length old.sources) s ok.sourced
in_range old revisions (Insert r p bytes) accepted takes =
    let v : SessionValue = record { held = old; revisions = revisions } in
    let ok = passes v (Insert r p bytes) accepted in
    let named = (below (length revisions) r false ok.named).0 in
    let inside = (reached (length_at v r) p false ok.inside).0 in
    let long = or_parts _ _ ok.short in
    let short = leb-false TEXT_LIMIT (result_len v (Insert r p bytes)) long.0 in
    (omega (arith, named, length-map revisions (λ (w : Revision). w.root)), inside, some_bytes bytes.now ok.some, ltb-false BLOCK_SIZE (length bytes.now) long.1, short)
in_range old revisions (Delete r p n) accepted takes =
    let v : SessionValue = record { held = old; revisions = revisions } in
    let ok = passes v (Delete r p n) accepted in
    let named = (below (length revisions) r false ok.named).0 in
    (omega (arith, named, length-map revisions (λ (w : Revision). w.root)), (reached (length_at v r) (p + n) false ok.inside).0)
in_range old revisions (Replace r p m bytes) accepted takes =
    let v : SessionValue = record { held = old; revisions = revisions } in
    let ok = passes v (Replace r p m bytes) accepted in
    let named = (below (length revisions) r false ok.named).0 in
    let inside = (reached (length_at v r) (p + m) false ok.inside).0 in
    let long = or_parts _ _ ok.short in
    let short = leb-false TEXT_LIMIT (result_len v (Replace r p m bytes)) long.0 in
    (omega (arith, named, length-map revisions (λ (w : Revision). w.root)), inside, some_bytes bytes.now ok.some, ltb-false BLOCK_SIZE (length bytes.now) long.1, omega (arith, short, inside))
in_range old revisions (Paste r p q i n) accepted takes =
    let v : SessionValue = record { held = old; revisions = revisions } in
    let ok = passes v (Paste r p q i n) accepted in
    let first = below (length revisions) r _ ok.named in
    let other = (below (length revisions) q false first.1).0 in
    let ends = reached (length_at v r) p _ ok.inside in
    let short = leb-false TEXT_LIMIT (result_len v (Paste r p q i n)) (or_parts _ _ ok.short).0 in
    let count = length-map revisions (λ (w : Revision). w.root) in
    (omega (arith, first.0, count), ends.0, omega (arith, other, count), (reached (length_at v q) (i + n) false ends.1).0, short)
in_range old revisions (Join r q) accepted takes =
    let v : SessionValue = record { held = old; revisions = revisions } in
    let ok = passes v (Join r q) accepted in
    let first = below (length revisions) r _ ok.named in
    let other = (below (length revisions) q false first.1).0 in
    let count = length-map revisions (λ (w : Revision). w.root) in
    (omega (arith, first.0, count), omega (arith, other, count), leb-false TEXT_LIMIT (result_len v (Join r q)) (or_parts _ _ ok.short).0)
in_range old revisions (Cut r i n) accepted takes =
    let v : SessionValue = record { held = old; revisions = revisions } in
    let ok = passes v (Cut r i n) accepted in
    let named = (below (length revisions) r false ok.named).0 in
    (omega (arith, named, length-map revisions (λ (w : Revision). w.root)), (reached (length_at v r) (i + n) false ok.inside).0)
in_range old revisions (Fill r p c n) accepted takes =
    let v : SessionValue = record { held = old; revisions = revisions } in
    let ok = passes v (Fill r p c n) accepted in
    let named = (below (length revisions) r false ok.named).0 in
    let inside = (reached (length_at v r) p false ok.inside).0 in
    (omega (arith, named, length-map revisions (λ (w : Revision). w.root)), inside, leb-false TEXT_LIMIT (result_len v (Fill r p c n)) (or_parts _ _ ok.short).0)
in_range old revisions (Back r) accepted takes =
    let ok = passes (record { held = old; revisions = revisions }) (Back r) accepted in
    omega (arith, (below (length revisions) r false ok.named).0, length-map revisions (λ (w : Revision). w.root))
in_range old revisions (Balance r) accepted takes =
    let ok = passes (record { held = old; revisions = revisions }) (Balance r) accepted in
    omega (arith, (below (length revisions) r false ok.named).0, length-map revisions (λ (w : Revision). w.root))
in_range old revisions (Many r changes bytes) accepted takes =
    let v : SessionValue = record { held = old; revisions = revisions } in
    let ok = passes v (Many r changes bytes) accepted in
    let named = (below (length revisions) r false ok.named).0 in
    let count = not_wrong (length changes.now) ok.count in
    let fine = are_fine (length_at v r) changes.now ok.placed in
    let short = leb-false TEXT_LIMIT (result_len v (Many r changes bytes)) (or_parts _ _ ok.short).0 in (
      omega (arith, named, length-map revisions (λ (w : Revision). w.root)),
      record {
        some = count.0;
        few = count.1;
        inside = fine.inside;
        apart = fine.apart;
        something = ok.something;
        takes = takes;
        each = each_few changes.now ok.each_short;
        short = omega (arith, short, fine.sum);
      },
    )

-- ---- its terms

-- one, two and three terms, joined
abbrev one : List Cell → List Cell
one a = a ++ []

abbrev two : List Cell → List Cell → List Cell
two a b = a ++ one b

abbrev three : List Cell → List Cell → List Cell → List Cell
three a b c = a ++ two b c

one_len : (a : List Cell) → length (one a) ≡ length a
one_len a = ap length (append-nil a)

two_len : (a b : List Cell) → length (two a b) ≡ length a + length b
two_len a b = omega (arith, length-append a (one b), one_len b)

three_len : (a b c : List Cell) → length (three a b c) ≡ length a + length b + length c
three_len a b c = omega (arith, length-append a (two b c), two_len b c)

two_same : {a a' b b' : List Cell} → a ≡ a' → b ≡ b' → two a b ≡ two a' b'
two_same {a} {a'} {b} x y = ap (λ cs. two cs b) x ∙ ap (λ cs. two a' cs) y

three_same : {a a' b b' c c' : List Cell} → a ≡ a' → b ≡ b' → c ≡ c' → three a b c ≡ three a' b' c'
three_same {a} {a'} {b} {b'} {c} x y z = ap (λ cs. three cs b c) x ∙ ap (λ cs. a' ++ cs) (two_same y z)

module _ (t : Table) (s : IsSound t) (h : HasTrueRecords t) (roots : List (Option NodeId)) (ropes : AreRopes t roots) where
  pub terms_are : (command : Command) → IsCommandInRange t roots command → AreTerms t (command_terms t roots command)
  terms_are New is = tt
  terms_are (Open k) is = (is, tt)
  terms_are (Insert r p bytes) is = (ropes r is.0, (is.3, (ropes r is.0, tt)))
  terms_are (Delete r p n) is = (ropes r is.0, (ropes r is.0, tt))
  terms_are (Replace r p m bytes) is = (ropes r is.0, (is.3, (ropes r is.0, tt)))
  terms_are (Paste r p q i n) is = (ropes r is.0, (ropes q is.2, (ropes r is.0, tt)))
  terms_are (Join r q) is = (ropes r is.0, (ropes q is.1, tt))
  terms_are (Cut r i n) is = (ropes r is.0, tt)
  terms_are (Fill r p c n) is = (ropes r is.0, (tt, (ropes r is.0, tt)))
  terms_are (Back r) is = (ropes r is, tt)
  terms_are (Balance r) is = (ropes r is, tt)
  terms_are (Many r changes bytes) is = (ropes r is.0, changed_are t (root_at roots r) (len_of t roots r) changes.now bytes.now (ropes r is.0) is.1.each)

  span_len : (rope : Option NodeId) (i n : ℕ) → length (take n (drop i (rope_cells t rope))) ≤ n
  span_len rope i n = omega (arith, length-take n (drop i (rope_cells t rope)))

  around_short : (r p q k : ℕ) (middle : List Cell) → r < length roots → length middle ≤ k → p ≤ q → q ≤ len_of t roots r → (len_of t roots r - (q - p)) + k < TEXT_LIMIT
      → length (three (take p (drop 0 (rope_cells t (root_at roots r)))) middle (take (len_of t roots r - q) (drop q (rope_cells t (root_at roots r))))) < TEXT_LIMIT
  around_short r p q k middle lt few le inside short =
      let rope = root_at roots r in
      omega (arith, few, le, inside, short, span_len rope 0 p, span_len rope q (len_of t roots r - q), three_len (take p (drop 0 (rope_cells t rope))) middle (take (len_of t roots r - q) (drop q (rope_cells t rope))))

  pub terms_short : (command : Command) → IsCommandInRange t roots command → length (terms_cells t (command_terms t roots command)) < TEXT_LIMIT
  terms_short New is = omega arith
  terms_short (Open k) is = omega (arith, s.sources k, one_len (map (Place k) (range_with_len 0 (get_or t.sources k 0))), length-map (range_with_len 0 (get_or t.sources k 0)) (Place k), length-range_with_len 0 (get_or t.sources k 0))
  terms_short (Insert r p bytes) is = around_short r p p (length bytes.now) (map Byte bytes.now) is.0 (omega (arith, length-map bytes.now Byte)) (omega arith) is.1 (omega (arith, is.4))
  terms_short (Delete r p n) is =
      let rope = root_at roots r in
      omega (arith, is.1, rope_short t s rope (ropes r is.0), span_len rope 0 p, span_len rope (p + n) (len_of t roots r - (p + n)), two_len (take p (drop 0 (rope_cells t rope))) (take (len_of t roots r - (p + n)) (drop (p + n) (rope_cells t rope))))
  terms_short (Replace r p m bytes) is = around_short r p (p + m) (length bytes.now) (map Byte bytes.now) is.0 (omega (arith, length-map bytes.now Byte)) (omega arith) is.1 (omega (arith, is.1, is.4))
  terms_short (Paste r p q i n) is = around_short r p p n (take n (drop i (rope_cells t (root_at roots q)))) is.0 (span_len (root_at roots q) i n) (omega arith) is.1 (omega (arith, is.4))
  terms_short (Join r q) is =
      omega (arith, is.2, rope_length t s h (root_at roots r) (ropes r is.0), rope_length t s h (root_at roots q) (ropes q is.1), two_len (rope_cells t (root_at roots r)) (rope_cells t (root_at roots q)))
  terms_short (Cut r i n) is = omega (arith, is.1, rope_short t s (root_at roots r) (ropes r is.0), span_len (root_at roots r) i n, one_len (take n (drop i (rope_cells t (root_at roots r)))))
  terms_short (Fill r p c n) is = around_short r p p n (replicate n (Byte c)) is.0 (omega (arith, length-replicate n (Byte c))) (omega arith) is.1 (omega (arith, is.2))
  terms_short (Back r) is = omega (arith, rope_short t s (root_at roots r) (ropes r is), rope_length t s h (root_at roots r) (ropes r is), one_len (rope_cells t (root_at roots r)))
  terms_short (Balance r) is = omega (arith, rope_short t s (root_at roots r) (ropes r is), rope_length t s h (root_at roots r) (ropes r is), one_len (rope_cells t (root_at roots r)))
  terms_short (Many r changes bytes) is =
      let rope = root_at roots r in
      let len = len_of t roots r in
      let whole = rope_length t s h rope (ropes r is.0) in
      let follow = can_follow len changes.now bytes.now is.1 in
      let first = follow_next len 0 changes.now follow in
      let others = changed_length t rope len 0 changes.now bytes.now whole follow (omega (arith, is.1.takes)) in
      omega (
        arith,
        others,
        is.1.short,
        is.1.takes,
        first.1,
        span_len rope 0 (next_place len changes.now),
        length-append (take (next_place len changes.now) (drop 0 (rope_cells t rope))) (terms_cells t (changed_terms rope len changes.now bytes.now)),
      )

-- ---- the recorded command, over a table that went on

module _ (old new : Held Coded) (k : IsRight Coded coded_byte old) (k' : IsRight Coded coded_byte new) (x : GoesOn old new) (roots : List (Option NodeId)) (ropes : AreRopes (table_of coded_byte old) roots) (places : List ℕ) where
  len_same : (r : ℕ) → r < length roots → len_of (table_of coded_byte new) roots r ≡ len_of (table_of coded_byte old) roots r
  len_same r lt = rope_len_kept (table_of coded_byte old) (table_of coded_byte new) k.sound k.true_records x.kept (root_at roots r) (ropes r lt)

  -- bytes handed in alone stand at the first place
  one_stands : (bytes : List ℕ) → 1 ≤ length bytes → StandEach old.pool.bytes new.pool.bytes (bytes ∷ []) places → StandInPool new.pool.bytes (get_or places 0 0) bytes
  one_stands bytes some stand = one_at places stand
    where
      one_at : (ps : List ℕ) → StandEach old.pool.bytes new.pool.bytes (bytes ∷ []) ps → StandInPool new.pool.bytes (get_or ps 0 0) bytes
      one_at [] stand = absurd stand
      one_at (a ∷ ps) stand = (stand.0.some some).1

  one_inside : (bytes : List ℕ) → 1 ≤ length bytes → StandEach old.pool.bytes new.pool.bytes (bytes ∷ []) places → get_or places 0 0 + length bytes ≤ length new.pool.bytes
  one_inside bytes some stand = stand_inside new.pool.bytes (get_or places 0 0) bytes some (one_stands bytes some stand)

  pub edit_in_range : (command : Command) → IsCommandInRange (table_of coded_byte old) roots command → FillsBytes command → StandEach old.pool.bytes new.pool.bytes (handed (command_terms (table_of coded_byte old) roots command)) places → IsInRange (table_of coded_byte new) roots (command_with places command)
  edit_in_range New is fills stand = tt
  edit_in_range (Open s) is fills stand = omega (arith, is, ap length x.sources)
  edit_in_range (Insert r p bytes) is fills stand =
      (is.0, omega (arith, is.1, len_same r is.0), is.2, one_inside bytes.now is.2 stand, omega (arith, is.4, len_same r is.0))
  edit_in_range (Delete r p n) is fills stand = (is.0, omega (arith, is.1, len_same r is.0))
  edit_in_range (Replace r p m bytes) is fills stand =
      (is.0, omega (arith, is.1, len_same r is.0), is.2, one_inside bytes.now is.2 stand, omega (arith, is.4, len_same r is.0))
  edit_in_range (Paste r p q i n) is fills stand =
      (is.0, omega (arith, is.1, len_same r is.0), is.2, omega (arith, is.3, len_same q is.2), omega (arith, is.4, len_same r is.0))
  edit_in_range (Join r q) is fills stand = (is.0, is.1, omega (arith, is.2, len_same r is.0, len_same q is.1))
  edit_in_range (Cut r i n) is fills stand = (is.0, omega (arith, is.1, len_same r is.0))
  edit_in_range (Fill r p c n) is fills stand = (is.0, omega (arith, is.1, len_same r is.0), fills, omega (arith, is.2, len_same r is.0))
  edit_in_range (Back r) is fills stand = is
  edit_in_range (Balance r) is fills stand = is
  edit_in_range (Many r changes bytes) is fills stand =
      let len = len_of (table_of coded_byte old) roots r in
      let can = can_splice_changes old.pool.bytes new.pool.bytes (root_at roots r) len len changes.now bytes.now places stand is.1 in
      let sums = placed_sums old.pool.bytes new.pool.bytes (root_at roots r) len changes.now bytes.now places stand in (
        is.0,
        subst (λ (n : ℕ). IsTrue (can_splice (length new.pool.bytes) n (placed_changes changes.now places))) (sym (len_same r is.0)) can,
        omega (arith, is.1.short, is.1.takes, sums.0, sums.1, len_same r is.0),
      )

  -- its parts are the terms
  old_part : (rope : Option NodeId) (i n : ℕ) → IsRope (table_of coded_byte old) rope → take n (drop i (rope_cells (table_of coded_byte old) rope)) ≡ take n (drop i (rope_cells (table_of coded_byte new) rope))
  old_part rope i n there = ap (λ cs. take n (drop i cs)) (sym (rope_cells_kept (table_of coded_byte old) (table_of coded_byte new) k.sound x.kept rope there))

  rest_part : (r p : ℕ) → r < length roots
      → take (len_of (table_of coded_byte old) roots r - p) (drop p (rope_cells (table_of coded_byte old) (root_at roots r))) ≡ part_cells (table_of coded_byte new) (Parts.rest (table_of coded_byte new) (root_at roots r) p)
  rest_part r p lt =
      old_part (root_at roots r) p (len_of (table_of coded_byte old) roots r - p) (ropes r lt)
      ∙ ap (λ (n : ℕ). take (n - p) (drop p (rope_cells (table_of coded_byte new) (root_at roots r)))) (sym (len_same r lt))

  whole_part : (r : ℕ) → r < length roots → rope_cells (table_of coded_byte old) (root_at roots r) ≡ part_cells (table_of coded_byte new) (Parts.whole (table_of coded_byte new) (root_at roots r))
  whole_part r lt =
      let rope = root_at roots r in
      let len = rope_length (table_of coded_byte old) k.sound k.true_records rope (ropes r lt) in
      sym (take_all (rope_len (table_of coded_byte new) rope) (rope_cells (table_of coded_byte old) rope) (omega (arith, len, len_same r lt)))
      ∙ old_part rope 0 (rope_len (table_of coded_byte new) rope) (ropes r lt)

  pool_part : (bytes : List ℕ) (place : ℕ) → StandInPool new.pool.bytes place bytes → map Byte bytes ≡ part_cells (table_of coded_byte new) (Part.Pool place (length bytes))
  pool_part bytes place stands =
      let many : (place + length bytes) - place ≡ length bytes = omega arith in
      ap (map Byte) (sym stands ∙ ap (λ (n : ℕ). take n (drop place new.pool.bytes)) many)

  terms_are_parts : (command : Command) → IsCommandInRange (table_of coded_byte old) roots command → StandEach old.pool.bytes new.pool.bytes (handed (command_terms (table_of coded_byte old) roots command)) places
      → terms_cells (table_of coded_byte old) (command_terms (table_of coded_byte old) roots command) ≡ parts_cells (table_of coded_byte new) (Parts.terms_of (table_of coded_byte new) roots (command_with places command))
  terms_are_parts New is stand = refl
  terms_are_parts (Open s) is stand = ap (λ (ns : List ℕ). one (map (Place s) (range_with_len 0 (get_or ns s 0)))) (sym x.sources)
  terms_are_parts (Insert r p bytes) is stand = three_same (old_part (root_at roots r) 0 p (ropes r is.0)) (pool_part bytes.now (get_or places 0 0) (one_stands bytes.now is.2 stand)) (rest_part r p is.0)
  terms_are_parts (Delete r p n) is stand = two_same (old_part (root_at roots r) 0 p (ropes r is.0)) (rest_part r (p + n) is.0)
  terms_are_parts (Replace r p m bytes) is stand = three_same (old_part (root_at roots r) 0 p (ropes r is.0)) (pool_part bytes.now (get_or places 0 0) (one_stands bytes.now is.2 stand)) (rest_part r (p + m) is.0)
  terms_are_parts (Paste r p q i n) is stand = three_same (old_part (root_at roots r) 0 p (ropes r is.0)) (old_part (root_at roots q) i n (ropes q is.2)) (rest_part r p is.0)
  terms_are_parts (Join r q) is stand = two_same (whole_part r is.0) (whole_part q is.1)
  terms_are_parts (Cut r i n) is stand = ap one (old_part (root_at roots r) i n (ropes r is.0))
  terms_are_parts (Fill r p c n) is stand = three_same (old_part (root_at roots r) 0 p (ropes r is.0)) refl (rest_part r p is.0)
  terms_are_parts (Back r) is stand = ap one (whole_part r is)
  terms_are_parts (Balance r) is stand = ap one (whole_part r is)
  terms_are_parts (Many r changes bytes) is stand =
      let t = table_of coded_byte old in
      let u = table_of coded_byte new in
      let rope = root_at roots r in
      let len = len_of t roots r in
      let same = rope_cells_kept t u k.sound x.kept rope (ropes r is.0) in
      let zero_less : next_place len changes.now ≡ next_place len changes.now - 0 = omega arith in
      ap (λ (n : ℕ). take n (drop 0 (rope_cells t rope)) ++ terms_cells t (changed_terms rope len changes.now bytes.now)) zero_less
      ∙ changed_pieces t u old.pool.bytes rope len 0 changes.now bytes.now places same stand (omega (arith, is.1.takes))
      ∙ ap (λ (n : ℕ). parts_cells u (pieces rope n 0 (placed_changes changes.now places))) (sym (len_same r is.0))

  -- the terms joined are what the recorded command gives of the earlier texts
  pub terms_give : (command : Command) → IsCommandInRange (table_of coded_byte old) roots command → FillsBytes command → StandEach old.pool.bytes new.pool.bytes (handed (command_terms (table_of coded_byte old) roots command)) places
      → result_of (givens_of (table_of coded_byte new)) (map (rope_cells (table_of coded_byte old)) roots) (command_with places command) ≡ Some (terms_cells (table_of coded_byte old) (command_terms (table_of coded_byte old) roots command))
  terms_give command is fills stand =
      let t = table_of coded_byte old in
      let u = table_of coded_byte new in
      ap (λ texts. result_of (givens_of u) texts (command_with places command)) (sym (all_cells_kept t u k.sound k.true_records x.kept roots ropes))
      ∙ terms_joined u k'.sound k'.true_records roots (command_with places command) (are_ropes_kept t u k.sound k.true_records x.kept roots ropes) (edit_in_range command is fills stand)
      ∙ ap Some (sym (terms_are_parts command is stand))
