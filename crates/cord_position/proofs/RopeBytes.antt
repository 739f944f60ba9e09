-- The byte at a place of a rope's text is that of its cell.
use Rattle.std.proofs.Common.{ℕ, ◌<◌, ◌≤◌, length, Some, None, sym, ap, ◌∙◌}
use Rattle.std.specs.Option.{option_map}
use Rattle.std.proofs.lemmas.List.{length-map}
use Rattle.std.proofs.lemmas.Option.{slice_get-get_or, slice_get-map, slice_get_past}
use Rattle.rope_node.specs.declared.node.NodeId.{NodeId}
use Rattle.rope_node.specs.Table.{Table, len_at, IsSound, HasTrueRecords}
use Rattle.rope_node.specs.Denotes.{Byte, cells, cell_at, cell_byte, text}
use Rattle.rope_node.proofs.Cells.{cells_length}
use Rattle.lazy_file.specs.SourceTexts.{Stated}
use Rattle.cord_position.specs.Fetched.{IsByteOf, IsFetched}

-- inside, the byte of the cell
pub fetched_inside : (t : Table) → IsSound t → HasTrueRecords t → (st : Stated) (id : NodeId) (i b : ℕ) → id.0 < length t.nodes → i < len_at t id.0 → IsByteOf st (cell_at t id.0 i) b → IsFetched t st (Some id) i (Some b)
fetched_inside t s h st id i b there inside byte source agrees stated =
    let cs = cells t id.0 in
    let held : i < length cs = rw (cells_length t s h id.0 there) inside in
    ap Some (byte source agrees stated) ∙ sym (slice_get-map (cell_byte source) cs i ∙ ap (option_map (cell_byte source)) (slice_get-get_or cs i (Byte 0) held))

-- past the end, none
pub fetched_past : (t : Table) → IsSound t → HasTrueRecords t → (st : Stated) (id : NodeId) (i : ℕ) → id.0 < length t.nodes → len_at t id.0 ≤ i → IsFetched t st (Some id) i None
fetched_past t s h st id i there past source agrees stated =
    let cs = cells t id.0 in
    sym (slice_get_past (text source cs) i (rw (length-map cs (cell_byte source), cells_length t s h id.0 there) past))
