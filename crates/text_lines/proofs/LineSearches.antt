-- What a search of a rope tells of the lines of its text.
use Rattle.std.proofs.Common.{◌≡◌, ℕ, ◌-◌, ◌≤◌, List, [], ◌∷◌, length, Option, Some, None, sym, ◌∙◌, ap, arith, unwrap_or}
use Rattle.rope_node.specs.declared.node.NodeId.{NodeId}
use Rattle.rope_node.specs.Table.{Table}
use Rattle.rope_node.specs.Denotes.{rope_cells, rope_len, text}
use Rattle.lazy_file.specs.SourceTexts.{Stated}
use Rattle.cord_search.specs.Places.{IsFromOn}
use Rattle.cord_search.specs.Stated.{FindsFirst, FindsLast, OfText, end_of_found}
use Rattle.cord_search.proofs.Fetches.{text_length}
use Rattle.text_lines.specs.Lines.{line_start, line_end}
use Rattle.text_lines.proofs.LineLaws.{line_start_from, line_start_is, line_end_is}

-- a break was found below the place, or none
pub start_found : (t : Table) (st : Stated) (rope : Option NodeId) (place : ℕ) (found : Option ℕ) → length (rope_cells t rope) ≡ rope_len t rope → 1 ≤ place → place ≤ rope_len t rope
    → FindsLast t st rope (10 ∷ []) (place - 1) found → OfText t st rope (λ u. line_start_from found ≡ line_start u place)
start_found t st rope place found len some le told source agrees stated =
    let u = text source (rope_cells t rope) in
    let long : length u ≡ rope_len t rope = text_length t rope source ∙ len in
    sym (line_start_is u place found some (omega (arith, le, long)) (told source agrees (λ p above below. stated p (omega arith) (omega (arith, below, some, le)))))

-- what was found ends inside the text
found_inside : (t : Table) (rope : Option NodeId) (s : List ℕ) (place : ℕ) (found : Option ℕ) → IsFromOn s place (rope_len t rope) found → end_of_found t rope s found ≤ rope_len t rope
found_inside t rope s place None inside = omega arith
found_inside t rope s place (Some k) inside = inside.1

-- a break was found from the place on, or none
pub end_found : (t : Table) (st : Stated) (rope : Option NodeId) (place : ℕ) (found : Option ℕ) → length (rope_cells t rope) ≡ rope_len t rope → place ≤ rope_len t rope
    → IsFromOn (10 ∷ []) place (rope_len t rope) found
    → FindsFirst t st rope (10 ∷ []) place found → OfText t st rope (λ u. unwrap_or found (rope_len t rope) ≡ line_end u place)
end_found t st rope place found len le inside told source agrees stated =
    let u = text source (rope_cells t rope) in
    let long : length u ≡ rope_len t rope = text_length t rope source ∙ len in
    let held = found_inside t rope (10 ∷ []) place found inside in
    sym (line_end_is u place found (omega (arith, le, long)) (told source agrees (λ p above below. stated p (omega arith) (omega (arith, below, held)))) ∙ ap (λ (n : ℕ). unwrap_or found n) long)
