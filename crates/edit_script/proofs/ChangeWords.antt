-- Changes that are read one after the other.
use Rattle.std.proofs.Common.{◌≡◌, ℕ, zero, suc, ◌+◌, ◌<◌, ◌≤◌, true, false, cond, List, [], ◌∷◌, ◌++◌, length, take, drop, Option, Some, None, ◌⊎◌, refl, sym, ap, subst, ◌∙◌, append_assoc, length-drop, arith, inl, inr}
use Rattle.std.specs.List.{sum_by}
use Rattle.std.proofs.lemmas.List.{append-nil, take_all, drop_at, take-append-drop, take-append-le, drop-append-le}
use Rattle.std.proofs.lemmas.List.Sums.{sum_by-append, sum_by-cons}
use Rattle.edit_commands.specs.declared.command.Change.{Change}
use Rattle.edit_commands.specs.Building.{placed_changes}
use Rattle.edit_script.specs.declared.fault.LineFault.{LineFault}
use Rattle.edit_script.specs.declared.fault.LineFault.TheVariants.{NoCommand, Memory}
use Rattle.edit_script.specs.Words.{Word, Number, Quoted, behind_blanks}
use Rattle.edit_script.specs.Commands.{Kind, Place, Text, splice_words, splice_kinds}
use Rattle.edit_script.specs.Handed.{places_from, placed_splices}
use Rattle.edit_script.specs.Reading.{Fails, number_at, quoted_at, is_comment, word_at, words_at, groups_at, change_at}
use Rattle.command_parts.specs.Commands.{◌>>=◌}
use Rattle.edit_script.proofs.Choices.{bind_same, some_is}
use Rattle.edit_script.proofs.Laws.{groups_end, groups_more, word_shrinks}

-- ---- more turns than bytes change nothing

tails_same : (f g : List ℕ → Option (List Word)) (kinds : List Kind) (line : List ℕ)
    → ((t : List ℕ) → length t ≤ length line → f t ≡ g t) → words_at f kinds line ≡ words_at g kinds line
tails_same f g [] line h = h line (omega arith)
tails_same f g (k ∷ kinds) line h =
    bind_same (word_at k line) (λ x. words_at f kinds x.1 >>= λ ws. Some (x.0 ∷ ws)) (λ x. words_at g kinds x.1 >>= λ ws. Some (x.0 ∷ ws))
    (λ x e. ap (λ (r : Option (List Word)). r >>= λ ws. Some (x.0 ∷ ws))
    (tails_same f g kinds x.1 (λ t le. h t (omega (arith, le, word_shrinks k line x e)))))

shorter_same : (f g : List ℕ → Option (List Word)) (kind : Kind) (kinds : List Kind) (line : List ℕ)
    → ((t : List ℕ) → length t < length line → f t ≡ g t) → words_at f (kind ∷ kinds) line ≡ words_at g (kind ∷ kinds) line
shorter_same f g kind kinds line h =
    bind_same (word_at kind line) (λ x. words_at f kinds x.1 >>= λ ws. Some (x.0 ∷ ws)) (λ x. words_at g kinds x.1 >>= λ ws. Some (x.0 ∷ ws))
    (λ x e. ap (λ (r : Option (List Word)). r >>= λ ws. Some (x.0 ∷ ws))
    (tails_same f g kinds x.1 (λ t le. h t (omega (arith, le, word_shrinks kind line x e)))))

turns_same : (k m : ℕ) (kind : Kind) (kinds : List Kind) (line : List ℕ) → length line ≤ k → length line ≤ m
    → groups_at k (kind ∷ kinds) line ≡ groups_at m (kind ∷ kinds) line
unfolding groups_at
turns_same zero zero kind kinds line a b = refl
turns_same zero (suc m) kind kinds [] a b = refl
turns_same zero (suc m) kind kinds (c ∷ t) a b = absurd (omega arith)
turns_same (suc k) zero kind kinds [] a b = refl
turns_same (suc k) zero kind kinds (c ∷ t) a b = absurd (omega arith)
turns_same (suc k) (suc m) kind kinds line a b =
    ap (λ (r : Option (List Word)). cond (is_comment (behind_blanks line)) (Some []) r)
    (shorter_same (groups_at k (kind ∷ kinds)) (groups_at m (kind ∷ kinds)) kind kinds line
    (λ t lt. turns_same k m kind kinds t (omega (arith, lt)) (omega (arith, lt))))

-- ---- one change, and the others

-- words that were read before, and those that are still read
abbrev pub with_words : List Word → Option (List Word) → Option (List Word)
with_words front read = read >>= λ ws. Some (front ++ ws)

there_or_not : {A : Type 0} (o : Option A) → (o ≡ None) ⊎ ((x : A) × (o ≡ Some x))
there_or_not None = inl refl
there_or_not (Some x) = inr (x, refl)

three_words : (p m : ℕ) (bytes : List ℕ) (read : Option (List Word))
    → (((read >>= λ ws. Some (Quoted bytes ∷ ws)) >>= λ ws. Some (Number m ∷ ws)) >>= λ ws. Some (Number p ∷ ws))
    ≡ with_words (Number p ∷ Number m ∷ Quoted bytes ∷ []) read
three_words p m bytes None = refl
three_words p m bytes (Some ws) = refl

change_first : (tail : List ℕ → Option (List Word)) (line : List ℕ)
    → words_at tail splice_kinds line ≡ (change_at line >>= λ x. with_words x.0 (tail x.1))
change_first tail line =
    elim (there_or_not (number_at line)) [
      | inl none ↦ rw none refl
      | inr p ↦
          elim (there_or_not (number_at p.0.1)) [
            | inl none ↦ rw (p.1, none) refl
            | inr m ↦
                elim (there_or_not (quoted_at m.0.1)) [
                  | inl none ↦ rw (p.1, m.1, none) refl
                  | inr x ↦ rw (p.1, m.1, x.1) (three_words p.0.0 m.0.0 x.0.0 (tail x.0.1))
                ]
          ]
    ]

onto : (front more : List Word) (read : Option (List Word)) → with_words front (with_words more read) ≡ with_words (front ++ more) read
onto front more None = refl
onto front more (Some ws) = ap (λ (vs : List Word). Some vs) (sym (append_assoc front more ws))

abbrev ReadSoFar : List Word → List ℕ → Option (List Word) → Type 0
ReadSoFar words rest total = with_words words (groups_at (length rest) splice_kinds rest) ≡ total

-- a line that is not at its end has a byte
not_empty : (line : List ℕ) → is_comment (behind_blanks line) ≡ false → (k : ℕ) × (length line ≡ suc k)
not_empty [] e = absurd cc
not_empty (c ∷ t) e = (length t, refl)

read_first : (rest : List ℕ) → is_comment (behind_blanks rest) ≡ false → (k : ℕ) × (length rest ≡ suc k)
    × (groups_at (length rest) splice_kinds rest ≡ (change_at rest >>= λ x. with_words x.0 (groups_at k splice_kinds x.1)))
read_first rest e =
    let k = not_empty rest e in
    (k.0, k.1, ap (λ (n : ℕ). groups_at n splice_kinds rest) k.1 ∙ groups_more k.0 splice_kinds rest e ∙ change_first (groups_at k.0 splice_kinds) rest)

pub goes_at : (words more : List Word) (rest after : List ℕ) (total : Option (List Word)) → is_comment (behind_blanks rest) ≡ false
    → change_at rest ≡ Some (more, after) → length after < length rest → ReadSoFar words rest total → ReadSoFar (words ++ more) after total
goes_at words more rest after total words_left read shorter so_far =
    let f = read_first rest words_left in
    let same = turns_same (length after) f.0 Place (Place ∷ Text ∷ []) after (omega arith) (omega (arith, f.1)) in
    let here : groups_at (length rest) splice_kinds rest ≡ with_words more (groups_at (length after) splice_kinds after) = f.2 ∙ rw (read, same) refl in
    sym (onto words more (groups_at (length after) splice_kinds after)) ∙ ap (with_words words) (sym here) ∙ so_far

pub fails_at : (e : LineFault) (words : List Word) (rest : List ℕ) (total : Option (List Word)) → is_comment (behind_blanks rest) ≡ false
    → Fails e (change_at rest) → ReadSoFar words rest total → Fails e total
fails_at NoCommand words rest total words_left read so_far =
    let f = read_first rest words_left in
    let here : groups_at (length rest) splice_kinds rest ≡ None = f.2 ∙ rw read refl in
    sym so_far ∙ ap (with_words words) here
fails_at Memory words rest total words_left read so_far = tt

pub ends_at : (words : List Word) (rest : List ℕ) (total : Option (List Word)) → is_comment (behind_blanks rest) ≡ true
    → ReadSoFar words rest total → total ≡ Some words
ends_at words rest total e so_far =
    sym so_far ∙ ap (with_words words) (groups_end (length rest) splice_kinds rest e) ∙ ap (λ (ws : List Word). Some ws) (append-nil words)

abbrev as_number : Option (ℕ × List ℕ) → Option (Word × List ℕ)
as_number o = o >>= λ x. Some (Number x.0, x.1)

abbrev as_text : Option (List ℕ × List ℕ) → Option (Word × List ℕ)
as_text o = o >>= λ x. Some (Quoted x.0, x.1)

-- what is left behind a change is shorter
pub change_shrinks : (line : List ℕ) (more : List Word) (after : List ℕ) → change_at line ≡ Some (more, after) → length after < length line
change_shrinks line more after e =
    let p = there (number_at line) _ (more, after) e in
    let m = there (number_at p.0.1) _ (more, after) p.2 in
    let x = there (quoted_at m.0.1) _ (more, after) m.2 in
    let a : length p.0.1 < length line = word_shrinks Place line (Number p.0.0, p.0.1) (ap as_number p.1) in
    let b : length m.0.1 < length p.0.1 = word_shrinks Place p.0.1 (Number m.0.0, m.0.1) (ap as_number m.1) in
    let c : length x.0.1 < length m.0.1 = word_shrinks Text m.0.1 (Quoted x.0.0, x.0.1) (ap as_text x.1) in
    let made : List Word × List ℕ = (Number p.0.0 ∷ Number m.0.0 ∷ Quoted x.0.0 ∷ [], x.0.1) in
    let same : x.0.1 ≡ after = ap (λ (y : List Word × List ℕ). y.1) (some_is made (more, after) x.2) in
    omega (arith, a, b, c, ap length same)
  where
    there : {A B : Type 0} (o : Option A) (f : A → Option B) (y : B) → (o >>= f) ≡ Some y → (x : A) × (o ≡ Some x) × (f x ≡ Some y)
    there (Some x) f y e = (x, refl, e)
    there None f y e = absurd cc

-- ---- the room

-- a change more, whose bytes are put behind the others
pub words_more : (bytes more : List ℕ) (a : ℕ) (changes : List Change) (c : Change) → a + sum_by (λ (d : Change). d.n) changes ≡ length bytes
    → length more ≡ c.n
    → splice_words (bytes ++ more) (placed_changes (changes ++ c ∷ []) (places_from a (changes ++ c ∷ [])))
    ≡ splice_words bytes (placed_changes changes (places_from a changes)) ++ (Number c.p ∷ Number c.m ∷ Quoted more ∷ [])
words_more bytes more a [] c here len =
    let at : length bytes ≡ a = omega (arith, here) in
    let last : take c.n (drop a (bytes ++ more)) ≡ more = ap (take c.n) (drop_at bytes more a at) ∙ take_all c.n more (omega (arith, len)) in
    ap (λ (x : List ℕ). Number c.p ∷ Number c.m ∷ Quoted x ∷ []) last
words_more bytes more a (d ∷ changes) c here len =
    let sum = sum_by-cons (λ (d : Change). d.n) d changes in
    let inside : a + d.n ≤ length bytes = omega (arith, here, sum) in
    let same : take d.n (drop a (bytes ++ more)) ≡ take d.n (drop a bytes) =
    ap (take d.n) (drop-append-le a bytes more (omega (arith, inside))) ∙ take-append-le d.n (drop a bytes) more (omega (arith, inside, length-drop a bytes)) in
    let others = words_more bytes more (a + d.n) changes c (omega (arith, here, sum)) len in
    ap (λ (x : List ℕ). Number d.p ∷ Number d.m ∷ Quoted x ∷ splice_words (bytes ++ more) (placed_changes (changes ++ c ∷ []) (places_from (a + d.n) (changes ++ c ∷ [])))) same
    ∙ ap (λ (ws : List Word). Number d.p ∷ Number d.m ∷ Quoted (take d.n (drop a bytes)) ∷ ws) others

-- ---- a turn of the loop

pub sum_more : (changes : List Change) (c : Change) (all : List Change) (bytes grown : List ℕ) → all ≡ changes ++ c ∷ [] → length grown ≡ length bytes + c.n
    → sum_by (λ (d : Change). d.n) changes ≡ length bytes → sum_by (λ (d : Change). d.n) all ≡ length grown
sum_more changes c all bytes grown push len sum =
    let f = λ (d : Change). d.n in
    let split : sum_by f (changes ++ c ∷ []) ≡ sum_by f changes + sum_by f (c ∷ []) = sum_by-append f changes (c ∷ []) in
    let one : sum_by f (c ∷ []) ≡ c.n + 0 = sum_by-cons f c [] in
    ap (sum_by f) push ∙ omega (arith, split, one, len, sum)

pub next_words : (bytes grown : List ℕ) (changes all : List Change) (c : Change) (rest after : List ℕ) (total : Option (List Word))
    → is_comment (behind_blanks rest) ≡ false → all ≡ changes ++ c ∷ [] → length grown ≡ length bytes + c.n → take (length bytes) grown ≡ bytes
    → sum_by (λ (d : Change). d.n) changes ≡ length bytes
    → change_at rest ≡ Some (Number c.p ∷ Number c.m ∷ Quoted (drop (length bytes) grown) ∷ [], after)
    → ReadSoFar (splice_words bytes (placed_splices changes)) rest total → ReadSoFar (splice_words grown (placed_splices all)) after total
next_words bytes grown changes all c rest after total words_left push len kept sum read so_far =
    let more = drop (length bytes) grown in
    let word = Number c.p ∷ Number c.m ∷ Quoted more ∷ [] in
    let parts : grown ≡ bytes ++ more = sym (take-append-drop (length bytes) grown) ∙ ap (λ (t : List ℕ). t ++ more) kept in
    let long : length more ≡ c.n = omega (arith, len, length-drop (length bytes) grown) in
    let words : splice_words grown (placed_splices all) ≡ splice_words bytes (placed_splices changes) ++ word =
    ap (λ (xs : List Change). splice_words grown (placed_splices xs)) push
    ∙ ap (λ (b : List ℕ). splice_words b (placed_splices (changes ++ c ∷ []))) parts
    ∙ words_more bytes more 0 changes c (omega (arith, sum)) long in
    subst (λ (ws : List Word). ReadSoFar ws after total) (sym words)
    (goes_at (splice_words bytes (placed_splices changes)) word rest after total words_left read (change_shrinks rest word after read) so_far)
