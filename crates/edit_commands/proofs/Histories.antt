-- The roots of a session's revisions hold the history of its commands.
use Rattle.std.proofs.Common.{◌≡◌, ℕ, suc, List, [], ◌∷◌, length, map, take, get_or, Option, Some, None, refl, sym, ap, subst, ◌∙◌, arith}
use Rattle.std.specs.Option.{option_map}
use Rattle.std.specs.List.{range_with_len}
use Rattle.std.proofs.lemmas.List.{length-map, take-map, map-id}
use Rattle.std.proofs.lemmas.Simd.{map-map}
use Rattle.std.proofs.lemmas.Option.{slice_get-map, slice_get_within}
use Rattle.function_leaf.specs.declared.coded.Coded.{Coded}
use Rattle.function_leaf.specs.Coded.{coded_byte}
use Rattle.rope_node.specs.Coded.{answers_as_filled}
use Rattle.rope_node.specs.declared.node.NodeId.{NodeId}
use Rattle.rope_node.specs.Table.{Table, IsSound, HasTrueRecords}
use Rattle.rope_node.specs.Denotes.{Cell, Byte, Place, cell_byte, rope_cells, rope_len}
use Rattle.node_table.specs.Held.{Held, table_of, held_coded}
use Rattle.command_parts.specs.Commands.{FullEdit, Givens, result_of, IsHistory}
use Rattle.span_descent.specs.Leads.{AreAnswered}
use Rattle.command_parts.specs.Parts.{AreRopes, givens_of}
use Rattle.command_parts.proofs.Joined.{parts_joined}
use Rattle.command_parts.proofs.MappedResults.{mapped_givens, history_mapped}
use Rattle.command_parts.proofs.PartsInRange.{parts_in_range}
use Rattle.span_certificate.proofs.Sameness.{covered_cells}
use Rattle.edit_commands.specs.declared.revision.Revision.{Revision}
use Rattle.edit_commands.specs.Session.{SessionValue, command_of, commands_of, roots_of, cells_of, texts_of, text_givens, parts_behind, IsRevision, AreRevisions, HoldsHistory}
use Rattle.edit_commands.proofs.RevisionLists.{there_is, are_ropes, ropes_before}
use Rattle.rope_node.proofs.Ropes.{rope_length}
use Rattle.rope_node.proofs.Parts.{map_alike}

pub answered : (h : Held Coded) → AreAnswered (table_of coded_byte h) (held_coded h)
answered h k = answers_as_filled (get_or h.functions k None)

-- what commands take from outside, as bytes and as cells
givens_mapped : (t : Table) (source : ℕ → ℕ → ℕ) → text_givens source t ≡ mapped_givens (cell_byte source) (givens_of t)
givens_mapped t source =
    let pool : t.pool ≡ map (cell_byte source) (map Byte t.pool) = sym (map-map (cell_byte source) Byte t.pool ∙ map-id t.pool) in
    let bytes : ℕ → List ℕ = λ s. map (source s) (range_with_len 0 (get_or t.sources s 0)) in
    let cells : ℕ → List Cell = λ s. map (Place s) (range_with_len 0 (get_or t.sources s 0)) in
    let one : (s : ℕ) → bytes s ≡ map (cell_byte source) (cells s) = λ s. sym (map-map (cell_byte source) (Place s) (range_with_len 0 (get_or t.sources s 0))) in
    let all : map bytes (range_with_len 0 (length t.sources)) ≡ map (map (cell_byte source)) (map cells (range_with_len 0 (length t.sources))) =
    map_alike bytes (λ s. map (cell_byte source) (cells s)) one (range_with_len 0 (length t.sources)) ∙ sym (map-map (map (cell_byte source)) cells (range_with_len 0 (length t.sources))) in
    ap (λ (p : List ℕ). record { pool = p; sources = map bytes (range_with_len 0 (length t.sources)); byte = λ (b : ℕ). b }) pool
    ∙ ap (λ (s : List (List ℕ)). record { pool = map (cell_byte source) (map Byte t.pool); sources = s; byte = λ (b : ℕ). b }) all

module _ (h : Held Coded) (s : IsSound (table_of coded_byte h)) (true_records : HasTrueRecords (table_of coded_byte h)) where
  -- a revision's command gives the cells of its root
  revision_gives : (before : List Revision) (r : Revision) → AreRopes (table_of coded_byte h) (roots_of before) → IsRevision h before r
      → result_of (givens_of (table_of coded_byte h)) (map (rope_cells (table_of coded_byte h)) (roots_of before)) (command_of r) ≡ Some (rope_cells (table_of coded_byte h) r.root)
  revision_gives before r ropes is =
      let t = table_of coded_byte h in
      let c = is.certified in
      let are = parts_in_range t (roots_of before) (command_of r) ropes c.range in
      parts_joined t s true_records (roots_of before) (command_of r) ropes c.range
      ∙ ap Some (covered_cells t s true_records (held_coded h) (answered h) (λ k p. 0) (parts_behind t before r) r.root r.rows.items are c.root (c.rows (λ k p. 0)) c.no_source)

  cells_before : (revisions : List Revision) (k : ℕ) → take k (map (rope_cells (table_of coded_byte h)) (roots_of revisions)) ≡ map (rope_cells (table_of coded_byte h)) (roots_of (take k revisions))
  cells_before revisions k =
      take-map (rope_cells (table_of coded_byte h)) k (roots_of revisions) ∙ ap (map (rope_cells (table_of coded_byte h))) (take-map (λ (r : Revision). r.root) k revisions)

  cells_history : (revisions : List Revision) → AreRevisions h revisions → IsHistory (givens_of (table_of coded_byte h)) (commands_of revisions) (map (rope_cells (table_of coded_byte h)) (roots_of revisions))
  cells_history revisions are = record {
    whole = length-map (roots_of revisions) (rope_cells (table_of coded_byte h)) ∙ length-map revisions (λ (r : Revision). r.root) ∙ sym (length-map revisions command_of);
    each = λ k command e.
        let t = table_of coded_byte h in
        let edit : Revision → FullEdit = command_of in
        let root : Revision → Option NodeId = λ (r : Revision). r.root in
        let found = there_is revisions k (omega (arith, slice_get_within (commands_of revisions) k command e, length-map revisions edit)) in
        let r : Revision = found.0 in
        let stands : Some (command_of r) ≡ Some command = sym (slice_get-map edit revisions k ∙ ap (option_map edit) found.1) ∙ e in
        let same : command_of r ≡ command = cc in
        slice_get-map (rope_cells t) (roots_of revisions) k
        ∙ ap (option_map (rope_cells t)) (slice_get-map root revisions k ∙ ap (option_map root) found.1)
        ∙ sym (revision_gives (take k revisions) r (ropes_before h revisions k are) (are k r found.1))
        ∙ ap (λ (texts : List (List Cell)). result_of (givens_of t) texts (command_of r)) (sym (cells_before revisions k))
        ∙ ap (result_of (givens_of t) (take k (map (rope_cells t) (roots_of revisions)))) same;
  }

  lengths_are : (roots : List (Option NodeId)) → AreRopes (table_of coded_byte h) roots → map length (map (rope_cells (table_of coded_byte h)) roots) ≡ map (rope_len (table_of coded_byte h)) roots
  lengths_are [] ropes = refl
  lengths_are (r ∷ rs) ropes =
      rw (rope_length (table_of coded_byte h) s true_records r (ropes 0 (omega arith)), lengths_are rs (λ k lt. ropes (suc k) (omega arith))) refl

  pub holds_history : (revisions : List Revision) → AreRevisions h revisions → HoldsHistory (record { held = h; revisions = revisions })
  holds_history revisions are =
      let v : SessionValue = record { held = h; revisions = revisions } in
      let cells = cells_history revisions are in
      record {
        cells = cells;
        texts = λ source.
            subst (λ (g : Givens ℕ). IsHistory g (commands_of revisions) (texts_of source v)) (sym (givens_mapped (table_of coded_byte h) source))
            (history_mapped (cell_byte source) (givens_of (table_of coded_byte h)) (commands_of revisions) (cells_of v) cells);
        lengths = lengths_are (roots_of revisions) (are_ropes h revisions are);
      }
