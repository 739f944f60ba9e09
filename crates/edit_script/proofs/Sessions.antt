-- A session says what the script says that it was made by.
use Rattle.std.proofs.Common.{◌≡◌, Bool, false, cond, leb, true, ℕ, ◌+◌, ◌-◌, ◌<◌, ◌≤◌, List, [], ◌∷◌, ◌++◌, length, map, take, drop, Option, Some, None, Result, Ok, Err, refl, sym, ap, subst, ◌∙◌, append_assoc, length-take, length-drop, arith, inl, inr}
use Rattle.std.specs.Prelude.{slice_range, codes}
use Rattle.std.specs.List.{AllByRecursion, slice_get, sum_by}
use Rattle.std.proofs.lemmas.Bool.{leb-true, cases_lt}
use Rattle.std.proofs.lemmas.List.{append-nil, take_all, map_push, length-map, drop-drop}
use Rattle.std.proofs.lemmas.List.Sums.{sum_by-cons}
use Rattle.rope_node.specs.declared.node.NodeId.{NodeId}
use Rattle.rope_node.specs.Table.{Table}
use Rattle.rope_node.specs.Denotes.{Cell, Byte}
use Rattle.command_parts.specs.Commands.{◌>>=◌, FullEdit, Givens, span, bounded, replaced_each, spliced, can_splice, is_splice, result_of, with_splices}
use Rattle.command_parts.specs.Commands as E
use Rattle.command_parts.specs.Parts.{givens_of}
use Rattle.command_parts.specs.declared.edit.Splice.{Splice}
use Rattle.command_parts.proofs.SplicedTexts.{are_splices}
use Rattle.edit_commands.specs.declared.command.Change.{Change}
use Rattle.edit_commands.specs.declared.command.Command.{Command}
use Rattle.edit_commands.specs.declared.command.Command.TheVariants.{New, Insert, Replace, Many}
use Rattle.edit_commands.specs.Building.{ArePutAt, StandEach, edit_with, splices_with, placed_changes}
use Rattle.edit_commands.specs.Refusals.{TakesAll}
use Rattle.edit_commands.specs.Session.{SessionValue, session_table, command_of, commands_of, roots_of, splices_held}
use Rattle.edit_commands.specs.Terms.{changed_terms, command_terms, handed}
use Rattle.edit_script.specs.declared.fault.Stopped.{Stopped}
use Rattle.edit_script.specs.Words.{Word, Name, Number, Quoted}
use Rattle.edit_script.specs.Commands.{StandsInside, splice_words, words_of}
use Rattle.edit_script.specs.Handed.{places_from, words_handed}
use Rattle.edit_script.specs.Applied.{TakesWords, TakesLines}
use Rattle.edit_script.specs.Scripts.{AreInside, ReadsScript, words_held}
use Rattle.edit_script.proofs.Choices.{passed, bind_some}
use Rattle.edit_script.proofs.Laws.{one_command}
use Rattle.node_table.specs.Held.{table_of}
use Rattle.function_leaf.specs.Coded.{coded_byte}

-- bytes that were put into a pool stand there
put_bytes : (old pool bytes : List ℕ) (a : ℕ) → ArePutAt old pool bytes a → take (length bytes) (drop a pool) ≡ bytes
put_bytes old pool bytes a put =
    elim (cases_lt 0 (length bytes)) [
      | inl some ↦
          let k : (a + length bytes) - a ≡ length bytes = omega arith in
          subst (λ (n : ℕ). take n (drop a pool) ≡ bytes) k (put.some (omega (arith, some))).1
      | inr none ↦
          let zero_long : length bytes ≡ 0 = omega (arith, none) in
          rw zero_long (no_bytes bytes zero_long)
    ]
  where
    no_bytes : (xs : List ℕ) → length xs ≡ 0 → [] ≡ xs
    no_bytes [] e = refl
    no_bytes (x ∷ xs) e = absurd (omega (arith, e))

same_bytes : (old pool bytes : List ℕ) (a : ℕ) → ArePutAt old pool bytes a → take (length bytes) (drop a pool) ≡ take (length bytes) (drop 0 bytes)
same_bytes old pool bytes a put = put_bytes old pool bytes a put ∙ sym (take_all (length bytes) bytes (omega arith))

-- so the bytes of changes, which they take one behind the other
changes_say : (old pool : List ℕ) (rope : Option NodeId) (len : ℕ) (whole : List ℕ) (a : ℕ) (changes : List Change) (places : List ℕ)
    → a + sum_by (λ (c : Change). c.n) changes ≤ length whole → StandEach old pool (handed (changed_terms rope len changes (drop a whole))) places
    → splice_words pool (placed_changes changes places) ≡ splice_words whole (placed_changes changes (places_from a changes))
changes_say old pool rope len whole a [] places fits stand = refl
changes_say old pool rope len whole a (c ∷ changes) [] fits stand = absurd stand
changes_say old pool rope len whole a (c ∷ changes) (b ∷ places) fits stand =
    let sum = sum_by-cons (λ (d : Change). d.n) c changes in
    let bytes = take c.n (drop a whole) in
    let long : length bytes ≡ c.n = omega (arith, fits, sum, length-take c.n (drop a whole), length-drop a whole) in
    let here : take c.n (drop b pool) ≡ bytes = subst (λ (n : ℕ). take n (drop b pool) ≡ bytes) long (put_bytes old pool bytes b stand.0) in
    let next : drop c.n (drop a whole) ≡ drop (a + c.n) whole = drop-drop c.n a whole ∙ ap (λ (n : ℕ). drop n whole) (omega arith) in
    let stands = subst (λ (xs : List ℕ). StandEach old pool (handed (changed_terms rope len changes xs)) places) next stand.1 in
    let others = changes_say old pool rope len whole (a + c.n) changes places (omega (arith, fits, sum)) stands in
    ap (λ (x : List ℕ). Number c.p ∷ Number c.m ∷ Quoted x ∷ splice_words pool (placed_changes changes places)) here
    ∙ ap (λ (ws : List Word). Number c.p ∷ Number c.m ∷ Quoted bytes ∷ ws) others

-- a command is recorded with the words that it was handed in with
pub recorded_says : (old pool : List ℕ) (first : ℕ) (t : Table) (roots : List (Option NodeId)) (command : Command) (places : List ℕ)
    → TakesAll command → StandEach old pool (handed (command_terms t roots command)) places
    → words_of pool (with_splices (splices_with places command) (edit_with places first command)) ≡ words_handed command
recorded_says old pool first t roots (Insert r p bytes) [] takes stand = absurd stand
recorded_says old pool first t roots (Insert r p bytes) (a ∷ places) takes stand =
    ap (λ (b : List ℕ). Name (codes "insert") ∷ Number r ∷ Number p ∷ Quoted b ∷ []) (same_bytes old pool bytes.now a stand.0)
recorded_says old pool first t roots (Replace r p m bytes) [] takes stand = absurd stand
recorded_says old pool first t roots (Replace r p m bytes) (a ∷ places) takes stand =
    ap (λ (b : List ℕ). Name (codes "replace") ∷ Number r ∷ Number p ∷ Number m ∷ Quoted b ∷ []) (same_bytes old pool bytes.now a stand.0)
recorded_says old pool first t roots (Many r changes bytes) places takes stand =
    ap (λ (ws : List Word). Name (codes "many") ∷ Number r ∷ ws)
    (changes_say old pool _ _ bytes.now 0 changes.now places (omega (arith, takes)) stand)
recorded_says old pool first t roots other places takes stand = refl

pub some_words : (command : Command) → 0 < length (words_handed command)
some_words New = omega arith
some_words other = omega arith

-- ---- a command that gives a text names bytes that stand in the pool

span_inside : {C : Type 0} (pool : List C) (a n : ℕ) (x : List C) → span pool a n ≡ Some x → a + n ≤ length pool
span_inside pool a n x e = leb-true (a + n) (length pool) (passed (leb (a + n) (length pool)) (take n (drop a pool)) x e).0

chosen_true : {A : Type 0} (b : Bool) (x : Option A) (y : A) → cond b x None ≡ Some y → b ≡ true
chosen_true true x y e = refl
chosen_true false x y e = absurd cc

pub inside_if_given : (g : Givens Cell) (texts : List (List Cell)) (e : FullEdit) (y : List Cell) → result_of g texts e ≡ Some y → StandsInside (length g.pool) e
inside_if_given g texts (E.Insert r p a n) y e =
    let t = bind_some (slice_get texts r) (λ t. span g.pool a n >>= λ x. cond (leb 1 n) (spliced t p 0 x) None) y e in
    let x = bind_some (span g.pool a n) (λ x. cond (leb 1 n) (spliced t.0 p 0 x) None) y t.2 in
    span_inside g.pool a n x.0 x.1
inside_if_given g texts (E.Replace r p m a n) y e =
    let t = bind_some (slice_get texts r) (λ t. span g.pool a n >>= λ x. cond (leb 1 n) (spliced t p m x) None) y e in
    let x = bind_some (span g.pool a n) (λ x. cond (leb 1 n) (spliced t.0 p m x) None) y t.2 in
    span_inside g.pool a n x.0 x.1
inside_if_given g texts (E.Many r splices) y e =
    let t = bind_some (slice_get texts r) (λ t. cond (can_splice (length g.pool) (length t) splices) (bounded (replaced_each g.pool t splices)) None) y e in
    let can = chosen_true (can_splice (length g.pool) (length t.0) splices) (bounded (replaced_each g.pool t.0 splices)) y t.2 in
    (are_splices (length g.pool) (length t.0) splices can).pooled
inside_if_given g texts other y e = tt

-- ---- a pool that goes on

abbrev GoesOnFrom : List ℕ → List ℕ → Type 0
GoesOnFrom old new = (a n : ℕ) → a + n ≤ length old → slice_range new a (a + n) ≡ slice_range old a (a + n)

span_kept : (old new : List ℕ) → GoesOnFrom old new → (a n : ℕ) → a + n ≤ length old → take n (drop a new) ≡ take n (drop a old)
span_kept old new goes a n inside =
    let k : (a + n) - a ≡ n = omega arith in
    subst (λ (m : ℕ). take m (drop a new) ≡ take m (drop a old)) k (goes a n inside)

splices_kept : (old new : List ℕ) → GoesOnFrom old new → (splices : List Splice) → AllByRecursion (λ (s : Splice). s.a + s.n ≤ length old) splices
    → splice_words new splices ≡ splice_words old splices
splices_kept old new goes [] inside = refl
splices_kept old new goes (s ∷ splices) inside =
    ap (λ (b : List ℕ). Number s.p ∷ Number s.m ∷ Quoted b ∷ splice_words new splices) (span_kept old new goes s.a s.n inside.0)
    ∙ ap (λ (ws : List Word). Number s.p ∷ Number s.m ∷ Quoted (take s.n (drop s.a old)) ∷ ws) (splices_kept old new goes splices inside.1)

words_kept : (old new : List ℕ) → GoesOnFrom old new → (e : FullEdit) → StandsInside (length old) e → words_of new e ≡ words_of old e
words_kept old new goes (E.Insert r p a n) inside =
    ap (λ (b : List ℕ). Name (codes "insert") ∷ Number r ∷ Number p ∷ Quoted b ∷ []) (span_kept old new goes a n inside)
words_kept old new goes (E.Replace r p m a n) inside =
    ap (λ (b : List ℕ). Name (codes "replace") ∷ Number r ∷ Number p ∷ Number m ∷ Quoted b ∷ []) (span_kept old new goes a n inside)
words_kept old new goes (E.Many r splices) inside =
    ap (λ (ws : List Word). Name (codes "many") ∷ Number r ∷ ws) (splices_kept old new goes splices inside)
words_kept old new goes other inside = refl

pub all_kept : (old new : List ℕ) → GoesOnFrom old new → (es : List FullEdit) → AllByRecursion (StandsInside (length old)) es → map (words_of new) es ≡ map (words_of old) es
all_kept old new goes [] inside = refl
all_kept old new goes (e ∷ es) inside =
    ap (λ (w : List Word). w ∷ map (words_of new) es) (words_kept old new goes e inside.0)
    ∙ ap (λ (ws : List (List Word)). words_of old e ∷ ws) (all_kept old new goes es inside.1)

splices_more : (old new : ℕ) → old ≤ new → (splices : List Splice) → AllByRecursion (λ (s : Splice). s.a + s.n ≤ old) splices → AllByRecursion (λ (s : Splice). s.a + s.n ≤ new) splices
splices_more old new le [] inside = tt
splices_more old new le (s ∷ splices) inside = (omega (arith, le, inside.0), splices_more old new le splices inside.1)

pub inside_more : (old new : ℕ) → old ≤ new → (e : FullEdit) → StandsInside old e → StandsInside new e
inside_more old new le (E.Insert r p a n) inside = omega arith
inside_more old new le (E.Replace r p m a n) inside = omega arith
inside_more old new le (E.Many r splices) inside = splices_more old new le splices inside
inside_more old new le other inside = tt

all_inside : (old new : ℕ) → old ≤ new → (es : List FullEdit) (e : FullEdit) → AllByRecursion (StandsInside old) es → StandsInside new e → AllByRecursion (StandsInside new) (es ++ e ∷ [])
all_inside old new le [] e inside here = (here, tt)
all_inside old new le (d ∷ es) e inside here = (inside_more old new le d inside.0, all_inside old new le es e inside.1 here)

-- ---- a session that takes a line

abbrev Grows : SessionValue → List (List Word) → SessionValue → Type 0
Grows old cs new = (words_held new ≡ words_held old ++ cs) × AreInside new

makes_grows : (old : SessionValue) (ws : List Word) (new : SessionValue) → AreInside old → TakesWords old ws new → Grows old (ws ∷ []) new
makes_grows old ws new inside m =
    let applies = m.applies in
    let is = applies.is in
    let extends = applies.keeps.goes_on.kept in
    let made = applies.made in
    let before = old.held.pool.bytes in
    let after = new.held.pool.bytes in
    let said = command_of made in
    let edits : commands_of new.revisions ≡ commands_of old.revisions ++ said ∷ [] =
    ap commands_of applies.revisions ∙ map_push command_of old.revisions made in
    let same : said ≡ with_splices (splices_with is.places m.command) (edit_with is.places (splices_held old.revisions) m.command) =
    ap (λ (splices : List Splice). with_splices splices made.edit) is.splices ∙ ap (with_splices (splices_with is.places m.command)) is.edit in
    let says : words_of after said ≡ ws =
    ap (words_of after) same
    ∙ recorded_says before after (splices_held old.revisions) (table_of coded_byte old.held) (roots_of old.revisions) m.command is.places m.takes is.terms.stand ∙ m.words in
    let words : words_held new ≡ words_held old ++ ws ∷ [] =
    ap (map (words_of after)) edits
    ∙ map_push (words_of after) (commands_of old.revisions) said
    ∙ ap (λ (w : List Word). map (words_of after) (commands_of old.revisions) ++ w ∷ []) says
    ∙ ap (λ (xs : List (List Word)). xs ++ ws ∷ []) (all_kept before after extends.pool (commands_of old.revisions) inside) in
    let as_long : length (givens_of (session_table new)).pool ≡ length after = length-map after Byte in
    let given_inside = inside_if_given (givens_of (session_table new)) _ said _ is.result in
    let here : StandsInside (length after) said = subst (λ (n : ℕ). StandsInside n said) as_long given_inside in
    (words, subst (AllByRecursion (StandsInside (length after))) (sym edits) (all_inside (length before) (length after) extends.more_pool (commands_of old.revisions) said inside here))

-- a session that took a script's lines says what it said before, and then what the script says
pub says_script : (old : SessionValue) (k : ℕ) (lines : List (List ℕ)) (result : Result (Unit {0}) Stopped) (new : SessionValue) (cs : List (List Word))
    → AreInside old → result ≡ Ok tt → TakesLines old k lines result new → ReadsScript lines cs → Grows old cs new
says_script old k [] result new cs inside ok t r =
    subst (Grows old cs) (sym t.1) (subst (λ (ds : List (List Word)). words_held old ≡ words_held old ++ ds) (sym r) (sym (append-nil (words_held old))), inside)
says_script old k (line ∷ lines) result new cs inside ok (inr t) r = let no : Ok tt ≡ Err (record { line = k + 1; why = t.0 }) = sym ok ∙ t.2 in absurd cc
says_script old k (line ∷ lines) result new cs inside ok (inl (mid, inl blank, rest)) (inl r) =
    let inside_mid = subst AreInside (sym blank.1) inside in
    let g = says_script mid (k + 1) lines result new cs inside_mid ok rest r.1 in
    subst (λ (v : SessionValue). Grows v cs new) blank.1 g
says_script old k (line ∷ lines) result new cs inside ok (inl (mid, inl blank, rest)) (inr (others, says, r)) =
    let none : [] ≡ says.first = one_command line [] says.first refl says.known blank.0 says.words in
    absurd (omega (arith, says.some, ap length none))
says_script old k (line ∷ lines) result new cs inside ok (inl (mid, inr t, rest)) (inl r) =
    let none : t.0 ≡ [] = one_command line t.0 [] t.1 refl t.2 r.0 in
    absurd (omega (arith, some_words t.3.command, ap length t.3.words, ap length none))
says_script old k (line ∷ lines) result new cs inside ok (inl (mid, inr t, rest)) (inr (others, says, r)) =
    let same : t.0 ≡ says.first = one_command line t.0 says.first t.1 says.known t.2 says.words in
    let one = makes_grows old t.0 mid inside t.3 in
    let g = says_script mid (k + 1) lines result new others one.1 ok rest r in
    let words : words_held new ≡ words_held old ++ cs =
    g.0 ∙ ap (λ (xs : List (List Word)). xs ++ others) one.0 ∙ append_assoc (words_held old) (t.0 ∷ []) others
    ∙ ap (λ (w : List Word). words_held old ++ w ∷ others) same ∙ ap (λ (ds : List (List Word)). words_held old ++ ds) (sym says.all) in
    (words, g.1)
