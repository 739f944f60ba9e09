-- Commands that say the same give the same texts.
use Rattle.std.proofs.Common.{◌≡◌, ℕ, zero, suc, ◌+◌, ◌<◌, ◌≤◌, Bool, true, false, cond, ltb, List, [], ◌∷◌, length, map, take, drop, get_or, Option, Some, None, refl, sym, ap, subst, ◌∙◌, arith, inl, inr}
use Rattle.rope_node.specs.declared.limits.TheConstants.{TEXT_LIMIT}
use Rattle.std.specs.Prelude.{if◌then◌else◌, codes}
use Rattle.std.specs.List.{slice_get}
use Rattle.std.specs.Option.{option_map}
use Rattle.std.specs.Str.{bytes_eq}
use Rattle.std.proofs.lemmas.Bool.{cases_lt, le-leb}
use Rattle.std.proofs.lemmas.List.{length-take, length-drop, length-map, take_all, take_more_same}
use Rattle.std.proofs.lemmas.Option.{slice_get-map, slice_get-get_or, get_or_from_slice_get}
use Rattle.command_parts.specs.declared.edit.Splice.{Splice}
use Rattle.command_parts.specs.Commands.{◌>>=◌, FullEdit, New, Open, Insert, Delete, Replace, Paste, Join, Cut, Fill, Back, Balance, Many, Givens, span, bounded, replaced, replaced_each, can_splice, result_of, IsHistory}
use Rattle.edit_script.specs.Words.{Word, Name, Number, Quoted}
use Rattle.edit_script.specs.Commands.{splice_words, words_of, StandsInside}
use Rattle.edit_script.proofs.Choices.{bind_some, chosen, some_is}
use Rattle.edit_script.specs.Texts.{SayTheSame}
use Rattle.edit_commands.proofs.RevisionLists.{there_is}

-- ---- a command from its words

abbrev numbers_in : List Word → List ℕ
numbers_in [] = []
numbers_in (Number n ∷ ws) = n ∷ numbers_in ws
numbers_in (w ∷ ws) = numbers_in ws

abbrev bytes_in : List Word → List ℕ
bytes_in [] = []
bytes_in (Quoted bytes ∷ ws) = bytes
bytes_in (w ∷ ws) = bytes_in ws

abbrev edit_named : List ℕ → (ℕ → ℕ) → ℕ → FullEdit
edit_named name f n =
    if bytes_eq name (codes "new") then New
    else (if bytes_eq name (codes "open") then Open (f 0)
    else (if bytes_eq name (codes "insert") then Insert (f 0) (f 1) 0 n
    else (if bytes_eq name (codes "delete") then Delete (f 0) (f 1) (f 2)
    else (if bytes_eq name (codes "replace") then Replace (f 0) (f 1) (f 2) 0 n
    else (if bytes_eq name (codes "paste") then Paste (f 0) (f 1) (f 2) (f 3) (f 4)
    else (if bytes_eq name (codes "join") then Join (f 0) (f 1)
    else (if bytes_eq name (codes "cut") then Cut (f 0) (f 1) (f 2)
    else (if bytes_eq name (codes "fill") then Fill (f 0) (f 1) (f 2) (f 3)
    else (if bytes_eq name (codes "back") then Back (f 0)
    else Balance (f 0))))))))))

abbrev pub edit_in : List Word → FullEdit
edit_in (Name name ∷ ws) = edit_named name (λ k. get_or (numbers_in ws) k 0) (length (bytes_in ws))
edit_in ws = New

-- what words give, with their bytes for the pool
abbrev with_bytes : Givens ℕ → List ℕ → Givens ℕ
with_bytes g bytes = record { pool = bytes; sources = g.sources; byte = g.byte }

-- what the words of splices make of a text
abbrev words_replaced : List ℕ → List Word → List ℕ
words_replaced t (Number p ∷ Number m ∷ Quoted bytes ∷ ws) = replaced (words_replaced t ws) p m bytes
words_replaced t ws = t

abbrev many_outcome : List (List ℕ) → List Word → Option (List ℕ)
many_outcome texts (Number r ∷ ws) = slice_get texts r >>= λ t. Some (words_replaced t ws)
many_outcome texts ws = None

abbrev named_outcome : Givens ℕ → List (List ℕ) → List ℕ → List Word → Option (List ℕ)
named_outcome g texts name ws =
    if bytes_eq name (codes "many") then many_outcome texts ws
    else result_of (with_bytes g (bytes_in ws)) texts (edit_in (Name name ∷ ws))

abbrev outcome : Givens ℕ → List (List ℕ) → List Word → Option (List ℕ)
outcome g texts (Name name ∷ ws) = named_outcome g texts name ws
outcome g texts ws = None

span_is : (pool : List ℕ) (a n : ℕ) → a + n ≤ length pool → span pool a n ≡ Some (take n (drop a pool))
span_is pool a n inside = rw (le-leb (a + n) (length pool) inside) refl

span_all : (bytes : List ℕ) (n : ℕ) → length bytes ≡ n → span bytes 0 (length bytes) ≡ Some bytes
span_all bytes n len = rw (le-leb (0 + length bytes) (length bytes) (omega arith)) (ap Some (take_all (length bytes) bytes (omega arith)))

pub span_len : (pool : List ℕ) (a n : ℕ) → a + n ≤ length pool → length (take n (drop a pool)) ≡ n
span_len pool a n inside = omega (arith, length-take n (drop a pool), length-drop a pool)

replaced_by_words : (pool t : List ℕ) (splices : List Splice) → replaced_each pool t splices ≡ words_replaced t (splice_words pool splices)
replaced_by_words pool t [] = refl
replaced_by_words pool t (s ∷ splices) =
    ap (λ (u : List ℕ). replaced u s.p s.m (take s.n (drop s.a pool))) (replaced_by_words pool t splices)

by_splices : (g : Givens ℕ) (texts : List (List ℕ)) (r : ℕ) (splices : List Splice) (x : List ℕ) → result_of g texts (Many r splices) ≡ Some x
    → outcome g texts (words_of g.pool (Many r splices)) ≡ Some x
by_splices g texts r splices x given =
    let t = bind_some (slice_get texts r) (λ t. cond (can_splice (length g.pool) (length t) splices) (bounded (replaced_each g.pool t splices)) None) x given in
    let same = some_text (can_splice (length g.pool) (length t.0) splices) (replaced_each g.pool t.0 splices) x t.2 in
    rw t.1 (ap (λ (u : List ℕ). Some u) (sym (replaced_by_words g.pool t.0 splices) ∙ same))
  where
    bounded_text : (u x : List ℕ) → bounded u ≡ Some x → u ≡ x
    bounded_text u x e =
        elim (chosen (ltb (length u) TEXT_LIMIT) (Some u) None (Some x) e) [
          | inl p ↦ some_is u x p.1
          | inr p ↦ absurd cc
        ]

    some_text : (b : Bool) (u x : List ℕ) → cond b (bounded u) None ≡ Some x → u ≡ x
    some_text true u x e = bounded_text u x e
    some_text false u x e = absurd cc

by_words : (g : Givens ℕ) (texts : List (List ℕ)) (e : FullEdit) (x : List ℕ) → StandsInside (length g.pool) e → result_of g texts e ≡ Some x
    → outcome g texts (words_of g.pool e) ≡ Some x
by_words g texts (Insert r p a n) x inside given =
    let len = span_len g.pool a n inside in
    rw (span_all (take n (drop a g.pool)) n len, len) (rw (span_is g.pool a n inside) at given)
by_words g texts (Replace r p m a n) x inside given =
    let len = span_len g.pool a n inside in
    rw (span_all (take n (drop a g.pool)) n len, len) (rw (span_is g.pool a n inside) at given)
by_words g texts (Many r splices) x inside given = by_splices g texts r splices x given
by_words g texts other x inside given = given

-- words that give a text give it over the same sources, whatever the pool
same_outcome : (g h : Givens ℕ) (texts : List (List ℕ)) (ws : List Word) → g.sources ≡ h.sources → g.byte ≡ h.byte → outcome g texts ws ≡ outcome h texts ws
same_outcome g h texts [] sources byte = refl
same_outcome g h texts (Number n ∷ ws) sources byte = refl
same_outcome g h texts (Quoted bytes ∷ ws) sources byte = refl
same_outcome g h texts (Name name ∷ ws) sources byte =
    let same : with_bytes g (bytes_in ws) ≡ with_bytes h (bytes_in ws) =
    ap (λ (s : List (List ℕ)). record { pool = bytes_in ws; sources = s; byte = g.byte }) sources
    ∙ ap (λ (b : ℕ → ℕ). record { pool = bytes_in ws; sources = h.sources; byte = b }) byte in
    ap (λ (i : Givens ℕ). cond (bytes_eq name (codes "many")) (many_outcome texts ws) (result_of i texts (edit_in (Name name ∷ ws)))) same

same_result : (g h : Givens ℕ) (texts : List (List ℕ)) (e f : FullEdit) (x y : List ℕ) → g.sources ≡ h.sources → g.byte ≡ h.byte
    → StandsInside (length g.pool) e → StandsInside (length h.pool) f → words_of g.pool e ≡ words_of h.pool f
    → result_of g texts e ≡ Some x → result_of h texts f ≡ Some y → x ≡ y
same_result g h texts e f x y sources byte inside others_inside words gives other_gives =
    some_is x y (sym (by_words g texts e x inside gives) ∙ ap (outcome g texts) words
    ∙ same_outcome g h texts (words_of h.pool f) sources byte ∙ by_words h texts f y others_inside other_gives)

-- ---- histories

same_words_at : (f g : FullEdit → List Word) (es fs : List FullEdit) (k : ℕ) (e d : FullEdit) → map f es ≡ map g fs → slice_get es k ≡ Some e → slice_get fs k ≡ Some d → f e ≡ g d
same_words_at f g es fs k e d same at other =
    let left : slice_get (map f es) k ≡ Some (f e) = slice_get-map f es k ∙ ap (option_map f) at in
    let right : slice_get (map g fs) k ≡ Some (g d) = slice_get-map g fs k ∙ ap (option_map g) other in
    let both : Some (f e) ≡ Some (g d) = sym left ∙ ap (λ (ws : List (List Word)). slice_get ws k) same ∙ right in
    cc

same_until : (g h : Givens ℕ) (es fs : List FullEdit) (xs ys : List (List ℕ)) → SayTheSame g h es fs → IsHistory g es xs → IsHistory h fs ys → (k : ℕ) → take k xs ≡ take k ys
same_until g h es fs xs ys same left right zero = refl
same_until g h es fs xs ys same left right (suc k) =
    let before = same_until g h es fs xs ys same left right k in
    let as_many : length es ≡ length fs = omega (arith, length-map es (words_of g.pool), length-map fs (words_of h.pool), ap length same.words) in
    elim (cases_lt k (length es)) [
      | inl lt ↦
          let lt_other : k < length fs = omega arith in
          let e = there_is es k lt in
          let d = there_is fs k lt_other in
          let words = same_words_at (words_of g.pool) (words_of h.pool) es fs k e.0 d.0 same.words e.1 d.1 in
          let inside : StandsInside (length g.pool) e.0 = subst (StandsInside (length g.pool)) (get_or_from_slice_get es k e.0 New e.1) (same.inside k New lt) in
          let others_inside : StandsInside (length h.pool) d.0 = subst (StandsInside (length h.pool)) (get_or_from_slice_get fs k d.0 New d.1) (same.others_inside k New lt_other) in
          let lt_text : k < length xs = omega (arith, left.whole) in
          let lt_other_text : k < length ys = omega (arith, right.whole) in
          let gives : result_of g (take k xs) e.0 ≡ Some (get_or xs k []) = sym (left.each k e.0 e.1) ∙ slice_get-get_or xs k [] lt_text in
          let other_gives : result_of h (take k xs) d.0 ≡ Some (get_or ys k []) =
          ap (λ (ts : List (List ℕ)). result_of h ts d.0) before ∙ sym (right.each k d.0 d.1) ∙ slice_get-get_or ys k [] lt_other_text in
          let here : get_or xs k [] ≡ get_or ys k [] = same_result g h (take k xs) e.0 d.0 (get_or xs k []) (get_or ys k []) same.sources same.byte inside others_inside words gives other_gives in
          let step : k + 1 ≡ suc k = omega arith in
          subst (λ (n : ℕ). take n xs ≡ take n ys) step (take_more_same xs ys k [] lt_text lt_other_text before here)
      | inr le ↦
          let few : length xs ≤ k = omega (arith, left.whole) in
          let few_other : length ys ≤ k = omega (arith, right.whole) in
          take_all (suc k) xs (omega arith) ∙ sym (take_all k xs few) ∙ before ∙ take_all k ys few_other ∙ sym (take_all (suc k) ys (omega arith))
    ]

pub same_texts : (g h : Givens ℕ) (es fs : List FullEdit) (xs ys : List (List ℕ)) → SayTheSame g h es fs → IsHistory g es xs → IsHistory h fs ys → xs ≡ ys
same_texts g h es fs xs ys same left right =
    let as_many : length es ≡ length fs = omega (arith, length-map es (words_of g.pool), length-map fs (words_of h.pool), ap length same.words) in
    let n = length xs in
    sym (take_all n xs (omega arith)) ∙ same_until g h es fs xs ys same left right n ∙ take_all n ys (omega (arith, left.whole, right.whole))
