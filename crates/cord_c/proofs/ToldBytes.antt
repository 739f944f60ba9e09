-- A byte that is told whatever the sources go on with behind what is held is a byte that is held.
use Rattle.std.proofs.Common.{◌≡◌, ℕ, ◌+◌, ◌-◌, ◌<◌, ◌≤◌, List, [], length, drop, get_or, inl, inr, refl, sym, ap, subst, ◌∙◌, arith}
use Rattle.std.specs.Prelude.{None, Option, Some, slice_get}
use Rattle.std.proofs.Math.ListN as list
use Rattle.std.proofs.lemmas.Bool.{cases_lt}
use Rattle.std.proofs.lemmas.List.{get_or_default, get_or_past, get_or-take, get_or-drop, length-take}
use Rattle.std.proofs.lemmas.List.Elements.{All-from_get_or}
use Rattle.std.proofs.lemmas.Option.{get_or_from_slice_get}
use Rattle.lazy_file.specs.SourceTexts.{Agrees, Stated}
use Rattle.lazy_file.specs.declared.sources.TheConstants.{COUNT_LIMIT}
use Rattle.rope_node.specs.declared.node.NodeId.{NodeId}
use Rattle.rope_node.specs.Table.{Table}
use Rattle.rope_node.specs.Denotes.{Cell, Byte, Place, IsRope, cell_byte, rope_cells, text}
use Rattle.rope_node.proofs.HeldCells.{IsHeldCell, cell_held}
use Rattle.cord_position.specs.Fetched.{AreStated, EachCell, IsStated, rope_cell}
use Rattle.cord_position.specs.Runs.{AreBytesOf}
use Rattle.image_reader.specs.Accepted.{revision_at}
use Rattle.image_reader.specs.Value.{ImageValue, image_table}
use Rattle.image_reader.specs.Reading.{fault_of, header_fault, image_in, records_value, source_of, source_count, from_sources}
use Rattle.image_reader.proofs.Cutting.{length-map-records}
use Rattle.image_reader.proofs.Faults.{else_none}
use Rattle.image_reader.proofs.WholeImages.{front_back}
use Rattle.session_checker.specs.Faithful.{HasTrueRecordsOf, IsFetchedOf, fetched_cell, revision_text}
use Rattle.session_checker.proofs.RevisionTexts.{no_revision_past, text_of_root}
use Rattle.cord_types.specs.declared.held_sources.CordSource.{CordSource}
use Rattle.cord_types.specs.HeldTexts.{held_bytes, stated_as_held}
use Rattle.cord_c.specs.Opened.{WasAccepted}
use Rattle.cord_c.specs.Runs.{IsByteHeld, text_part}
use Rattle.cord_types.proofs.HeldLemmas.{text_stated}

-- ---- sources that go on

-- the bytes that are held of each source, and behind them d
abbrev continued : Stated → ℕ → ℕ → ℕ → ℕ
continued st d s p = get_or (held_bytes st s) p d

continued_agrees : (st : Stated) (d : ℕ) → Agrees st (continued st d)
continued_agrees st d s p t is inside = rw is (get_or_default t p d 0 inside)

-- a cell that is the same byte, whether 0 or 1 follows what is held
same_byte_held : (st : Stated) (cell : Cell) → cell_byte (continued st 0) cell ≡ cell_byte (continued st 1) cell → IsByteHeld st cell
same_byte_held st (Byte b) same = tt
same_byte_held st (Place s p) same =
    elim (cases_lt p (length (held_bytes st s))) [
      | inl inside ↦ inside
      | inr past ↦ absurd (omega (arith, same, get_or_past (held_bytes st s) p 0 past, get_or_past (held_bytes st s) p 1 past))
    ]

-- ---- cells of an image that was accepted

few_sources : (bytes : List ℕ) → fault_of bytes ≡ None → length (image_in bytes).sources ≤ COUNT_LIMIT
unfolding fault_of header_fault records_value
few_sources bytes none =
    let header = else_none _ _ none in
    let long = else_none _ _ header.0 in
    let front = else_none _ _ long.1 in
    rw (length-map-records source_of 8 (source_count bytes) (from_sources bytes)) (front_back bytes front.0).sources

cell_inside : (v : ImageValue) → HasTrueRecordsOf v → (k place : ℕ) → IsHeldCell (image_table v) (fetched_cell v k place)
cell_inside v true_of k place =
    elim (cases_lt k (length v.revisions)) [
      | inl there ↦ of_rope (revision_at v k).root (true_of.roots k there)
      | inr past ↦ subst (λ (rope : Option NodeId). IsHeldCell (image_table v) (rope_cell (image_table v) rope place)) (sym (no_revision_past v k past)) tt
    ]
  where
    of_rope : (rope : Option NodeId) → IsRope (image_table v) rope → IsHeldCell (image_table v) (rope_cell (image_table v) rope place)
    of_rope None there = tt
    of_rope (Some id) there = cell_held (image_table v) true_of.sound id.0 place there

stated_inside : (xs : List CordSource) (t : Table) → length t.sources ≤ COUNT_LIMIT → (cell : Cell) → IsHeldCell t cell → IsStated (stated_as_held xs) cell
stated_inside xs t few (Byte b) inside = tt
stated_inside xs t few (Place s p) inside = text_stated xs s (omega (arith, few, inside.0))

-- the source of each cell, if it has one, states a text
cell_stated : (bytes : List ℕ) (xs : List CordSource) (k place : ℕ) → WasAccepted bytes → IsStated (stated_as_held xs) (fetched_cell (image_in bytes) k place)
cell_stated bytes xs k place was =
    let v = image_in bytes in
    stated_inside xs (image_table v) (few_sources bytes was.read) (fetched_cell v k place) (cell_inside v was.true_records k place)

rope_cell_read : (t : Table) (rope : Option NodeId) (i : ℕ) → get_or (rope_cells t rope) i (Byte 0) ≡ rope_cell t rope i
rope_cell_read t None i = get_or_past [] i (Byte 0) (omega arith)
rope_cell_read t (Some id) i = refl

-- ---- a byte that is fetched

fetched_byte : (v : ImageValue) (source : ℕ → ℕ → ℕ) (k place found : ℕ) → Some found ≡ slice_get (revision_text v source k) place → found ≡ cell_byte source (fetched_cell v k place)
fetched_byte v source k place found is =
    let t = image_table v in
    let rope = (revision_at v k).root in
    let cs = rope_cells t rope in
    let there : slice_get (text source cs) place ≡ Some found = ap (λ (bytes : List ℕ). slice_get bytes place) (sym (text_of_root v source k)) ∙ sym is in
    sym (get_or_from_slice_get (text source cs) place found 0 there) ∙ list.get_or-map (cell_byte source) cs place (Byte 0) ∙ ap (cell_byte source) (rope_cell_read t rope place)

pub fetched_held : (bytes : List ℕ) (xs : List CordSource) (k place found : ℕ) → WasAccepted bytes
    → IsFetchedOf (image_in bytes) (stated_as_held xs) k place (Some found) → IsByteHeld (stated_as_held xs) (fetched_cell (image_in bytes) k place)
fetched_held bytes xs k place found was fetched =
    let v = image_in bytes in
    let st = stated_as_held xs in
    let stated = cell_stated bytes xs k place was in
    let byte : (d : ℕ) → found ≡ cell_byte (continued st d) (fetched_cell v k place) = λ d. fetched_byte v (continued st d) k place found (fetched (continued st d) (continued_agrees st d) stated) in
    same_byte_held st (fetched_cell v k place) (sym (byte 0) ∙ byte 1)

-- ---- bytes that are read

part_cell : (v : ImageValue) (k place n i : ℕ) → i < n → get_or (text_part v k place n) i (Byte 0) ≡ fetched_cell v k (place + i)
part_cell v k place n i below =
    let t = image_table v in
    let rope = (revision_at v k).root in
    get_or-take n (drop place (rope_cells t rope)) i (Byte 0) below ∙ get_or-drop place (rope_cells t rope) i (Byte 0) ∙ rope_cell_read t rope (place + i)

pub read_held : (bytes : List ℕ) (xs : List CordSource) (k place n : ℕ) (out : List ℕ) → WasAccepted bytes
    → AreBytesOf (stated_as_held xs) (text_part (image_in bytes) k place n) out → EachCell (fetched_cell (image_in bytes) k) place (place + n) (IsByteHeld (stated_as_held xs))
read_held bytes xs k place n out was are p above below =
    let v = image_in bytes in
    let st = stated_as_held xs in
    let part = text_part v k place n in
    let i = p - place in
    let stated : AreStated st part = All-from_get_or (IsStated st) part (Byte 0) (λ j inside.
    let few : j < n = omega (arith, inside, length-take n (drop place (rope_cells (image_table v) (revision_at v k).root))) in
    subst (IsStated st) (sym (part_cell v k place n j few)) (cell_stated bytes xs k (place + j) was)) in
    let same : text (continued st 0) part ≡ text (continued st 1) part = sym (are (continued st 0) (continued_agrees st 0) stated) ∙ are (continued st 1) (continued_agrees st 1) stated in
    let byte : (d : ℕ) → get_or (text (continued st d) part) i 0 ≡ cell_byte (continued st d) (get_or part i (Byte 0)) = λ d. list.get_or-map (cell_byte (continued st d)) part i (Byte 0) in
    let held = same_byte_held st (get_or part i (Byte 0)) (sym (byte 0) ∙ ap (λ (t : List ℕ). get_or t i 0) same ∙ byte 1) in
    let at : place + i ≡ p = omega (arith, above) in
    let cell : get_or part i (Byte 0) ≡ fetched_cell v k p = part_cell v k place n i (omega (arith, above, below)) ∙ ap (fetched_cell v k) at in
    subst (IsByteHeld st) cell held
