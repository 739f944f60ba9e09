-- What is told of a rope's text over later sources, and its length.
use Rattle.std.proofs.Common.{◌≡◌, ℕ, List, length, Option, subst}
use Rattle.std.proofs.lemmas.List.{length-map}
use Rattle.rope_node.specs.declared.node.NodeId.{NodeId}
use Rattle.rope_node.specs.Table.{Table}
use Rattle.rope_node.specs.Denotes.{cell_byte, rope_cells, text}
use Rattle.lazy_file.specs.SourceTexts.{Stated}
use Rattle.cord_position.specs.Fetched.{IsFetched}
use Rattle.cord_search.specs.Stated.{OfSpan}

-- what is told over later sources that state the same
pub told_before : (t : Table) (old new : Stated) (rope : Option NodeId) (i j : ℕ) (P : List ℕ → Type 0) → new ≡ old → OfSpan t new rope i j P → OfSpan t old rope i j P
told_before t old new rope i j P same told = subst (λ st. OfSpan t st rope i j P) same told

pub fetched_at : (t : Table) (old new : Stated) (rope : Option NodeId) (place : ℕ) (found : Option ℕ) → new ≡ old → IsFetched t new rope place found → IsFetched t old rope place found
fetched_at t old new rope place found same told = subst (λ st. IsFetched t st rope place found) same told

pub text_length : (t : Table) (rope : Option NodeId) (source : ℕ → ℕ → ℕ) → length (text source (rope_cells t rope)) ≡ length (rope_cells t rope)
text_length t rope source = length-map (rope_cells t rope) (cell_byte source)
