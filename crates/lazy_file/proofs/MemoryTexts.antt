-- What texts in memory state as sources: each its whole text, of its own length.
use Rattle.std.proofs.Common.{zero, suc, ◌∷◌, ap, ◌≡◌, ℕ, ◌<◌, ◌≤◌, List, [], length, map, get_or}
use Rattle.std.specs.Prelude.{Some, None}
use Rattle.std.specs.List.{slice_index}
use Rattle.std.proofs.Math.ListN as list
use Rattle.std.proofs.lemmas.List.{get_or-map, length-map}
use Rattle.std.proofs.lemmas.List.Elements.{All-get_or}
use Rattle.lazy_file.proofs.ReadOutcomes.{refused_span}
use Rattle.lazy_file.specs.SourceTexts.{Agrees, AreSizes, stated_in_memory, text_at}
use Rattle.lazy_file.specs.declared.sources.TheConstants.{SOURCE_LIMIT}

-- the size of a source is its text's length
pub size_of_text : (xs : List (List ℕ)) (s : ℕ) → slice_index (map length xs) s ≡ length (get_or xs s [])
size_of_text xs s = list.get_or-map length xs s []

-- the text that a source states is its own
pub stated_text : (xs : List (List ℕ)) (s : ℕ) → s < length xs → text_at (stated_in_memory xs) s ≡ Some (get_or xs s [])
stated_text xs s h = get_or-map Some xs s [] None h

-- no text is longer than a source may be
pub text_in_limit : (xs : List (List ℕ)) (s : ℕ)
    → AreSizes (map length xs) → s < length xs → length (get_or xs s []) ≤ SOURCE_LIMIT
text_in_limit xs s sizes h =
    let there : s < length (map length xs) = rw length-map h in
    rw size_of_text at (All-get_or (λ n. n ≤ SOURCE_LIMIT) (map length xs) s 0 there sizes.each)

-- the bytes of texts in memory agree with what they state
pub agrees_in_memory : (xs : List (List ℕ)) → Agrees (stated_in_memory xs) (λ s p. get_or (get_or xs s []) p 0)
agrees_in_memory [] s p t stated inside = absurd cc
agrees_in_memory (x ∷ xs) zero p t stated inside = let same : x ≡ t = cc in ap (λ y. get_or y p 0) same
agrees_in_memory (x ∷ xs) (suc s) p t stated inside = agrees_in_memory xs s p t stated inside

-- what a read of texts in memory rests on
pub ruleset memory_reads = (stated_text, refused_span)
