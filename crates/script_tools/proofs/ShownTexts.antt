-- Texts as a log shows them, put together of their pieces.
use Rattle.std.proofs.Common.{◌≡◌, ℕ, zero, suc, ◌+◌, ◌<◌, List, [], ◌∷◌, ◌++◌, take, drop, Some, refl, sym, ap, ◌∙◌, append_assoc, arith}
use Rattle.std.specs.Prelude.{slice_get}
use Rattle.std.specs.List.{flat_map, range_with_len}
use Rattle.std.specs.Fmt.{decimal}
use Rattle.std.proofs.lemmas.List.{append-nil}
use Rattle.command_parts.specs.declared.edit.Splice.{Splice}
use Rattle.edit_script.specs.Words.{Word, Quoted, escaped, numbers_on}
use Rattle.edit_script.specs.Commands.{splice_words}
use Rattle.script_tools.specs.declared.shown.LogTexts.{LogTexts}
use Rattle.script_tools.specs.Logged.{dots, shown, shown_on, shown_word}

-- a blank and the quote, what is shown, and what is behind it
pub shown_text : (texts : LogTexts) (text : List ℕ) → (32 ∷ 34 ∷ []) ++ (flat_map escaped (shown texts text) ++ (34 ∷ dots texts text)) ≡ shown_on texts (Quoted text ∷ [])
shown_text texts text =
    ap (λ (t : List ℕ). 32 ∷ 34 ∷ t) (sym (append_assoc (flat_map escaped (shown texts text)) (34 ∷ []) (dots texts text)))
    ∙ ap (λ (t : List ℕ). 32 ∷ t) (sym (append-nil (shown_word texts (Quoted text))))

-- the words of one splice
abbrev pub splice_shown : LogTexts → List ℕ → Splice → List ℕ
splice_shown texts pool s = shown_on texts (splice_words pool (s ∷ []))

-- its numbers, and its text
pub shown_splice : (texts : LogTexts) (pool : List ℕ) (s : Splice) → numbers_on (s.p ∷ s.m ∷ []) ++ shown_on texts (Quoted (take s.n (drop s.a pool)) ∷ []) ≡ splice_shown texts pool s
shown_splice texts pool s =
    let p = decimal s.p in
    let m = decimal s.m in
    let rest = shown_on texts (Quoted (take s.n (drop s.a pool)) ∷ []) in
    ap (λ (t : List ℕ). 32 ∷ t) (append_assoc p (32 ∷ (m ++ [])) rest ∙ ap (λ (t : List ℕ). p ++ 32 ∷ (t ++ rest)) (append-nil m))

shown_behind : (texts : LogTexts) (xs ys : List Word) → shown_on texts (xs ++ ys) ≡ shown_on texts xs ++ shown_on texts ys
shown_behind texts [] ys = refl
shown_behind texts (w ∷ ws) ys = ap (λ (t : List ℕ). (32 ∷ shown_word texts w) ++ t) (shown_behind texts ws ys) ∙ sym (append_assoc (32 ∷ shown_word texts w) (shown_on texts ws) (shown_on texts ys))

-- the words of splices are those of each, one behind the other
pub splices_shown : (texts : LogTexts) (pool : List ℕ) (splices : List Splice) → flat_map (splice_shown texts pool) splices ≡ shown_on texts (splice_words pool splices)
splices_shown texts pool [] = refl
splices_shown texts pool (s ∷ splices) =
    ap (λ (t : List ℕ). splice_shown texts pool s ++ t) (splices_shown texts pool splices) ∙ sym (shown_behind texts (splice_words pool (s ∷ [])) (splice_words pool splices))

-- the k-th of numbers in a row
pub range_at : (from n k : ℕ) → k < n → slice_get (range_with_len from n) k ≡ Some (from + k)
range_at from zero k lt = absurd (omega arith)
range_at from (suc n) zero lt = let same : from ≡ from + 0 = omega arith in ap (λ (i : ℕ). Some i) same
range_at from (suc n) (suc k) lt = let same : (from + 1) + k ≡ from + suc k = omega arith in range_at (from + 1) n k (omega arith) ∙ ap (λ (i : ℕ). Some i) same

got_behind : {X : Type 0} (xs : List X) (first i : ℕ) → slice_get (drop first xs) i ≡ slice_get xs (first + i)
got_behind xs zero i = let same : i ≡ 0 + i = omega arith in ap (slice_get xs) same
got_behind [] (suc first) i = refl
got_behind (x ∷ xs) (suc first) i = let same : suc (first + i) ≡ suc first + i = omega arith in got_behind xs first i ∙ ap (slice_get (x ∷ xs)) same

got_before : {X : Type 0} (xs : List X) (n i : ℕ) → i < n → slice_get (take n xs) i ≡ slice_get xs i
got_before xs zero i lt = absurd (omega arith)
got_before [] (suc n) i lt = refl
got_before (x ∷ xs) (suc n) zero lt = refl
got_before (x ∷ xs) (suc n) (suc i) lt = got_before xs n i (omega arith)

-- the i-th of some of all
pub got_among : {X : Type 0} (all : List X) (first count i : ℕ) (x : X) → i < count → slice_get all (first + i) ≡ Some x → slice_get (take count (drop first all)) i ≡ Some x
got_among all first count i x lt is = got_before (drop first all) count i lt ∙ got_behind all first i ∙ is
