-- The parts of a command, joined, are what it gives of the earlier texts' cells.
use Rattle.std.proofs.Common.{◌≡◌, ℕ, ◌<◌, List, [], ◌∷◌, ◌++◌, map, length, take, Option, Some, refl, ap, ◌∙◌, arith}
use Rattle.std.specs.Prelude.{slice_get, get_or}
use Rattle.std.specs.List.{flat_map, range_with_len, AllByRecursion}
use Rattle.std.proofs.lemmas.List.{length-map, get_or-map}
use Rattle.std.proofs.lemmas.List.FromFn.{length-range_with_len, get_or-range_with_len}
use Rattle.rope_node.specs.declared.node.NodeId.{NodeId}
use Rattle.rope_node.specs.Table.{Table, IsSound, HasTrueRecords}
use Rattle.rope_node.specs.Denotes.{Byte, Place, rope_cells}
use Rattle.rope_node.proofs.Parts.{span-map, span-range_with_len}
use Rattle.command_parts.specs.declared.part.Part.{Part}
use Rattle.command_parts.specs.declared.part.Part.TheVariants.{Old, Pool, Source, Fill}
use Rattle.command_parts.specs.Commands.{FullEdit, result_of}
use Rattle.command_parts.specs.Parts.{part_cells, parts_cells, part_things, HasLengths, IsInside, AreParts, root_at, terms_of, parts_of, AreRopes, IsInRange, givens_of}
use Rattle.rope_node.proofs.Ropes.{rope_length}
use Rattle.command_parts.proofs.PartsInRange.{terms_inside, parts_in_range}
use Rattle.command_parts.proofs.JoinedThings.{IsAsLong, text_of, terms_joined_of, things_joined}

pub text_at : (t : Table) (roots : List (Option NodeId)) (r : ℕ) → r < length roots → slice_get (map (rope_cells t) roots) r ≡ Some (rope_cells t (root_at roots r))
text_at t roots r lt = text_of (rope_cells t) roots r lt

-- the cells of all of a source
source_cells : (t : Table) (s : ℕ) → s < length t.sources → get_or (givens_of t).sources s [] ≡ map (Place s) (range_with_len 0 (get_or t.sources s 0))
source_cells t s lt =
    get_or-map (λ k. map (Place k) (range_with_len 0 (get_or t.sources k 0))) (range_with_len 0 (length t.sources)) s 0 [] (rw length-range_with_len lt)
    ∙ ap (λ k. map (Place k) (range_with_len 0 (get_or t.sources k 0))) (get_or-range_with_len 0 (length t.sources) s 0 lt ∙ omega arith)

cells_long : (t : Table) → HasLengths t (givens_of t)
cells_long t = record {
  pool = length-map t.pool Byte;
  source_count = rw (length-map, length-range_with_len) refl;
  sources = λ s lt. rw (source_cells t s lt, length-map, length-range_with_len) refl;
}

part_is : (t : Table) (part : Part) → IsInside t part → part_things (givens_of t) (rope_cells t) part ≡ part_cells t part
part_is t (Old rope i n) is = refl
part_is t (Pool a n) is = span-map Byte n a t.pool
part_is t (Source s n) is =
    ap (take n) (source_cells t s is.0)
    ∙ span-map (Place s) n 0 (range_with_len 0 (get_or t.sources s 0))
    ∙ ap (map (Place s)) (span-range_with_len n 0 0 (get_or t.sources s 0) (omega (arith, is.1)))
part_is t (Fill c n) is = refl

parts_are : (t : Table) (parts : List Part) → AllByRecursion (IsInside t) parts → flat_map (part_things (givens_of t) (rope_cells t)) parts ≡ parts_cells t parts
parts_are t [] is = refl
parts_are t (x ∷ xs) is = ap (λ cs. cs ++ flat_map (part_things (givens_of t) (rope_cells t)) xs) (part_is t x is.0) ∙ ap (λ cs. part_cells t x ++ cs) (parts_are t xs is.1)

inside_parts : (t : Table) (parts : List Part) → AreParts t parts → AllByRecursion (IsInside t) parts
inside_parts t [] are = tt
inside_parts t (x ∷ xs) are = (are.0.1, inside_parts t xs are.1)

cells_as_long : (t : Table) → IsSound t → HasTrueRecords t → (roots : List (Option NodeId)) → AreRopes t roots → IsAsLong t roots (rope_cells t)
cells_as_long t s h roots ropes = record { ropes = ropes; long = λ r lt. rope_length t s h (root_at roots r) (ropes r lt) }

pub terms_joined : (t : Table) → IsSound t → HasTrueRecords t → (roots : List (Option NodeId)) (edit : FullEdit) → AreRopes t roots → IsInRange t roots edit → result_of (givens_of t) (map (rope_cells t) roots) edit ≡ Some (parts_cells t (terms_of t roots edit))
terms_joined t s h roots edit ropes is =
    terms_joined_of (givens_of t) (rope_cells t) t s (cells_long t) roots edit (cells_as_long t s h roots ropes) is
    ∙ ap Some (parts_are t (terms_of t roots edit) (terms_inside t roots edit ropes is))

-- in range, the parts joined are the command's result over cells
pub parts_joined : (t : Table) → IsSound t → HasTrueRecords t → (roots : List (Option NodeId)) (edit : FullEdit) → AreRopes t roots → IsInRange t roots edit → result_of (givens_of t) (map (rope_cells t) roots) edit ≡ Some (parts_cells t (parts_of t roots edit))
parts_joined t s h roots edit ropes is =
    things_joined (givens_of t) (rope_cells t) t s (cells_long t) roots edit (cells_as_long t s h roots ropes) is
    ∙ ap Some (parts_are t (parts_of t roots edit) (inside_parts t (parts_of t roots edit) (parts_in_range t roots edit ropes is)))
