-- Words printed one after the other.
use Rattle.std.proofs.Common.{◌≡◌, ℕ, ◌+◌, ◌<◌, List, [], ◌∷◌, ◌++◌, length, take, drop, get_or, refl, sym, ap, ◌∙◌, append_assoc}
use Rattle.std.specs.Fmt.{decimal}
use Rattle.std.proofs.lemmas.List.{append-nil}
use Rattle.std.proofs.lemmas.Grind.{take_at_read}
use Rattle.command_parts.specs.declared.edit.Splice.{Splice}
use Rattle.edit_script.specs.Words.{Word, Number, Quoted, numbers_on, printed_word, spelled_on}
use Rattle.edit_script.specs.Commands.{splice_words}

numbers_split : (xs ys : List ℕ) → numbers_on (xs ++ ys) ≡ numbers_on xs ++ numbers_on ys
numbers_split [] ys = refl
numbers_split (x ∷ xs) ys = ap (λ (t : List ℕ). 32 ∷ decimal x ++ t) (numbers_split xs ys) ∙ sym (append_assoc (32 ∷ decimal x) (numbers_on xs) (numbers_on ys))

pub numbers_more : (out name ns mid new : List ℕ) (i : ℕ) → i < length ns → mid ≡ out ++ (name ++ numbers_on (take i ns)) → new ≡ mid ++ 32 ∷ decimal (get_or ns i 0)
    → new ≡ out ++ (name ++ numbers_on (take (i + 1) ns))
numbers_more out name ns mid new i lt so_far pushed =
    let n = get_or ns i 0 in
    let one : numbers_on (n ∷ []) ≡ 32 ∷ decimal n = append-nil (32 ∷ decimal n) in
    let next : numbers_on (take (i + 1) ns) ≡ numbers_on (take i ns) ++ 32 ∷ decimal n =
    ap numbers_on (take_at_read ns i 0 lt).1 ∙ numbers_split (take i ns) (n ∷ []) ∙ ap (λ (t : List ℕ). numbers_on (take i ns) ++ t) one in
    pushed ∙ ap (λ (t : List ℕ). t ++ 32 ∷ decimal n) so_far
    ∙ append_assoc out (name ++ numbers_on (take i ns)) (32 ∷ decimal n)
    ∙ ap (λ (t : List ℕ). out ++ t) (append_assoc name (numbers_on (take i ns)) (32 ∷ decimal n) ∙ ap (λ (t : List ℕ). name ++ t) (sym next))

pub words_split : (xs ys : List Word) → spelled_on (xs ++ ys) ≡ spelled_on xs ++ spelled_on ys
words_split [] ys = refl
words_split (w ∷ ws) ys = ap (λ (t : List ℕ). 32 ∷ printed_word w ++ t) (words_split ws ys) ∙ sym (append_assoc (32 ∷ printed_word w) (spelled_on ws) (spelled_on ys))

pub splices_split : (pool : List ℕ) (xs ys : List Splice) → splice_words pool (xs ++ ys) ≡ splice_words pool xs ++ splice_words pool ys
splices_split pool [] ys = refl
splices_split pool (s ∷ xs) ys = ap (λ (ws : List Word). Number s.p ∷ Number s.m ∷ Quoted (take s.n (drop s.a pool)) ∷ ws) (splices_split pool xs ys)

pub splices_more : (pool out mid new : List ℕ) (splices : List Splice) (i : ℕ) (d : Splice) → i < length splices
    → mid ≡ out ++ spelled_on (splice_words pool (take i splices)) → new ≡ mid ++ spelled_on (splice_words pool (get_or splices i d ∷ []))
    → new ≡ out ++ spelled_on (splice_words pool (take (i + 1) splices))
splices_more pool out mid new splices i d lt so_far pushed =
    let front = splice_words pool (take i splices) in
    let s = get_or splices i d in
    let next : take (i + 1) splices ≡ take i splices ++ s ∷ [] = (take_at_read splices i d lt).1 in
    let words : spelled_on (splice_words pool (take (i + 1) splices)) ≡ spelled_on front ++ spelled_on (splice_words pool (s ∷ [])) =
    ap (λ (xs : List Splice). spelled_on (splice_words pool xs)) next ∙ ap spelled_on (splices_split pool (take i splices) (s ∷ []))
    ∙ words_split front (splice_words pool (s ∷ [])) in
    pushed ∙ ap (λ (t : List ℕ). t ++ spelled_on (splice_words pool (s ∷ []))) so_far
    ∙ append_assoc out (spelled_on front) (spelled_on (splice_words pool (s ∷ []))) ∙ ap (λ (t : List ℕ). out ++ t) (sym words)
