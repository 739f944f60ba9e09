-- A command without the places of its bytes: its words tell it.
use Rattle.std.proofs.Common.{◌≡◌, ℕ, ◌+◌, ◌≤◌, List, [], ◌∷◌, length, map, refl, sym, ap, ◌∙◌, arith}
use Rattle.std.specs.Prelude.{if◌then◌else◌, codes}
use Rattle.std.specs.List.{AllByRecursion, sum_by}
use Rattle.std.specs.Str.{bytes_eq}
use Rattle.std.proofs.lemmas.List.Sums.{sum_by-cons}
use Rattle.command_parts.specs.declared.edit.Splice.{Splice}
use Rattle.command_parts.specs.Commands.{FullEdit, New, Open, Insert, Delete, Replace, Paste, Join, Cut, Fill, Back, Balance, Many}
use Rattle.edit_commands.specs.declared.command.Change.{Change}
use Rattle.edit_commands.specs.declared.command.Command.{Command}
use Rattle.edit_commands.specs.declared.command.Command.TheVariants as C
use Rattle.edit_commands.specs.Building.{command_with, placed_changes}
use Rattle.edit_commands.specs.Refusals.{TakesAll, unplaced}
use Rattle.edit_script.specs.Words.{Word, Name, Number, Quoted}
use Rattle.edit_script.specs.Commands.{StandsInside, splice_words, words_of}
use Rattle.edit_script.specs.Handed.{bytes_handed, places_from, places_handed, words_handed}
use Rattle.edit_script.proofs.Histories.{edit_in, span_len}

-- ---- without places

abbrev pub with_no_place : Splice → Splice
with_no_place s = record { p = s.p; m = s.m; a = 0; n = s.n }

abbrev pub with_no_places : FullEdit → FullEdit
with_no_places (Insert r p a n) = Insert r p 0 n
with_no_places (Replace r p m a n) = Replace r p m 0 n
with_no_places (Many r splices) = Many r (map with_no_place splices)
with_no_places e = e

-- a command as it is handed in
abbrev pub as_handed : Command → FullEdit
as_handed (C.Many r changes bytes) = Many r (map unplaced changes.now)
as_handed command = command_with (0 ∷ []) command

-- ---- from its words

abbrev splices_said : List Word → List Splice
splices_said (Number p ∷ Number m ∷ Quoted bytes ∷ ws) = record { p = p; m = m; a = 0; n = length bytes } ∷ splices_said ws
splices_said ws = []

abbrev many_said : List Word → FullEdit
many_said (Number r ∷ ws) = Many r (splices_said ws)
many_said ws = New

abbrev said_in : List Word → FullEdit
said_in (Name name ∷ ws) = if bytes_eq name (codes "many") then many_said ws else edit_in (Name name ∷ ws)
said_in ws = New

splices_told : (pool : List ℕ) (splices : List Splice) → AllByRecursion (λ (s : Splice). s.a + s.n ≤ length pool) splices
    → splices_said (splice_words pool splices) ≡ map with_no_place splices
splices_told pool [] inside = refl
splices_told pool (s ∷ splices) inside =
    ap (λ (n : ℕ). record { p = s.p; m = s.m; a = 0; n = n } ∷ splices_said (splice_words pool splices)) (span_len pool s.a s.n inside.0)
    ∙ ap (λ (ss : List Splice). with_no_place s ∷ ss) (splices_told pool splices inside.1)

told : (pool : List ℕ) (e : FullEdit) → StandsInside (length pool) e → said_in (words_of pool e) ≡ with_no_places e
told pool New inside = refl
told pool (Open s) inside = refl
told pool (Insert r p a n) inside = ap (λ (k : ℕ). Insert r p 0 k) (span_len pool a n inside)
told pool (Delete r p n) inside = refl
told pool (Replace r p m a n) inside = ap (λ (k : ℕ). Replace r p m 0 k) (span_len pool a n inside)
told pool (Paste r p q i n) inside = refl
told pool (Join r q) inside = refl
told pool (Cut r i n) inside = refl
told pool (Fill r p c n) inside = refl
told pool (Back r) inside = refl
told pool (Balance r) inside = refl
told pool (Many r splices) inside = ap (λ (ss : List Splice). Many r ss) (splices_told pool splices inside)

each_told : (pool : List ℕ) (es : List FullEdit) → AllByRecursion (StandsInside (length pool)) es → map said_in (map (words_of pool) es) ≡ map with_no_places es
each_told pool [] inside = refl
each_told pool (e ∷ es) inside =
    ap (λ (f : FullEdit). f ∷ map said_in (map (words_of pool) es)) (told pool e inside.0)
    ∙ ap (λ (fs : List FullEdit). with_no_places e ∷ fs) (each_told pool es inside.1)

-- commands of the same words
pub same_commands : (pool other : List ℕ) (es fs : List FullEdit) → AllByRecursion (StandsInside (length pool)) es → AllByRecursion (StandsInside (length other)) fs
    → map (words_of pool) es ≡ map (words_of other) fs → map with_no_places es ≡ map with_no_places fs
same_commands pool other es fs inside others_inside words =
    sym (each_told pool es inside) ∙ ap (map said_in) words ∙ each_told other fs others_inside

-- ---- as handed in

changes_inside : (size a : ℕ) (changes : List Change) → a + sum_by (λ (c : Change). c.n) changes ≤ size
    → AllByRecursion (λ (s : Splice). s.a + s.n ≤ size) (placed_changes changes (places_from a changes))
changes_inside size a [] fits = tt
changes_inside size a (c ∷ changes) fits =
    let sum = sum_by-cons (λ (d : Change). d.n) c changes in
    (omega (arith, fits, sum), changes_inside size (a + c.n) changes (omega (arith, fits, sum)))

handed_inside : (command : Command) → TakesAll command → StandsInside (length (bytes_handed command)) (command_with (places_handed command) command)
handed_inside (C.Insert r p bytes) takes = omega arith
handed_inside (C.Replace r p m bytes) takes = omega arith
handed_inside (C.Many r changes bytes) takes = changes_inside (length bytes.now) 0 changes.now (omega (arith, takes))
handed_inside _ takes = tt

changes_unplaced : (a : ℕ) (changes : List Change) → map with_no_place (placed_changes changes (places_from a changes)) ≡ map unplaced changes
changes_unplaced a [] = refl
changes_unplaced a (c ∷ changes) = ap (λ (ss : List Splice). unplaced c ∷ ss) (changes_unplaced (a + c.n) changes)

handed_unplaced : (command : Command) → with_no_places (command_with (places_handed command) command) ≡ as_handed command
handed_unplaced (C.Many r changes bytes) = ap (λ (ss : List Splice). Many r ss) (changes_unplaced 0 changes.now)
handed_unplaced _ = refl

-- a command of the same words as one that is handed in
pub same_as_handed : (pool : List ℕ) (e : FullEdit) (command : Command) → StandsInside (length pool) e → TakesAll command
    → words_handed command ≡ words_of pool e → with_no_places e ≡ as_handed command
same_as_handed pool e command inside takes words =
    sym (told pool e inside) ∙ ap said_in (sym words) ∙ told (bytes_handed command) (command_with (places_handed command) command) (handed_inside command takes)
    ∙ handed_unplaced command
