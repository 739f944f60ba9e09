-- Revisions over a store that went on are as they were.
use Rattle.std.proofs.Common.{◌≡◌, ◌↔◌, List, length, map, take, Option, Some, None, sym, ap, subst, arith}
use Rattle.std.specs.Prelude.{Bool, IsTrue}
use Rattle.function_leaf.specs.declared.coded.Coded.{Coded}
use Rattle.function_leaf.specs.Coded.{coded_byte}
use Rattle.function_leaf.specs.Optional.{or_fill}
use Rattle.rope_node.specs.declared.node.NodeId.{NodeId}
use Rattle.rope_node.specs.Table.{IsSound, HasTrueRecords}
use Rattle.rope_node.specs.Balance.{IsBalancedRope}
use Rattle.rope_node.specs.Denotes.{rope_cells, IsRope}
use Rattle.rope_node.specs.Extends.{Extends}
use Rattle.rope_node.proofs.Extensions.{len_kept, depth_kept}
use Rattle.rope_node.proofs.Ropes.{rope_kept}
use Rattle.node_table.specs.Held.{Held, table_of, held_coded, KeepsFunctions}
use Rattle.command_parts.specs.declared.part.Part.{Part}
use Rattle.command_parts.specs.Parts.{parts_of, AreRopes}
use Rattle.span_certificate.specs.Covers.{CoversAlways, MeetsNoSource}
use Rattle.span_certificate.specs.Longest.{AreLongest}
use Rattle.span_certificate.proofs.Kept.{AgreeBelow, parts_kept, in_range_kept, all_cells_kept, covers_kept, longest_kept, no_source_kept}
use Rattle.command_parts.proofs.PartsInRange.{parts_in_range}
use Rattle.edit_commands.specs.declared.revision.Revision.{Revision}
use Rattle.edit_commands.specs.Session.{command_of, roots_of, IsRevision, AreRevisions}
use Rattle.edit_commands.proofs.RevisionLists.{are_ropes, ropes_before}

-- a store with sound nodes and true records, a function slot for each node, that went on
pub record WentOn (old new : Held Coded) : Type 0 where
  pub sound : IsSound (table_of coded_byte old)
  pub true_records : HasTrueRecords (table_of coded_byte old)
  pub slots : length old.functions ≡ length old.nodes
  pub kept : Extends (table_of coded_byte old) (table_of coded_byte new)
  pub functions : KeepsFunctions old new

module _ (old new : Held Coded) (on : WentOn old new) where
  agree : AgreeBelow (table_of coded_byte old) (held_coded old) (held_coded new)
  agree k lt = ap or_fill (on.functions.same k (omega (arith, lt, on.slots)))

  mark_kept : (b : Bool) (root : Option NodeId) → IsRope (table_of coded_byte old) root → (IsTrue b ↔ IsBalancedRope (table_of coded_byte old) root) → IsTrue b ↔ IsBalancedRope (table_of coded_byte new) root
  mark_kept b None there is = is
  mark_kept b (Some id) there is =
      rw (len_kept (table_of coded_byte old) (table_of coded_byte new) on.kept id.0 there, depth_kept (table_of coded_byte old) (table_of coded_byte new) on.kept id.0 there) is

  pub revision_kept : (before : List Revision) (r : Revision) → AreRopes (table_of coded_byte old) (roots_of before) → IsRevision old before r → IsRevision new before r
  revision_kept before r ropes is =
      let t = table_of coded_byte old in
      let u = table_of coded_byte new in
      let c = is.certified in
      let same = parts_kept t u on.sound on.true_records on.kept (roots_of before) (command_of r) ropes c.range in
      let are = parts_in_range t (roots_of before) (command_of r) ropes c.range in
      record {
        certified = record {
          range = in_range_kept t u on.sound on.true_records on.kept (roots_of before) (command_of r) ropes c.range;
          names = c.names;
          root = rope_kept t u on.kept r.root c.root;
          rows = subst (λ (parts : List Part). CoversAlways u (held_coded new) parts r.root r.rows.items) (sym same)
              (λ source. covers_kept t u on.sound on.true_records on.kept (held_coded old) (held_coded new) agree source (parts_of t (roots_of before) (command_of r)) r.root r.rows.items are c.root (c.rows source));
          no_source = subst (λ (parts : List Part). MeetsNoSource u parts r.root r.rows.items) (sym same)
              (no_source_kept t u on.sound on.true_records on.kept (parts_of t (roots_of before) (command_of r)) r.root r.rows.items are c.root c.no_source);
        };
        mark = mark_kept r.mark r.root c.root is.mark;
        longest = subst (λ (parts : List Part). AreLongest u parts r.root r.rows.items) (sym same)
            (longest_kept t u on.sound on.true_records on.kept (parts_of t (roots_of before) (command_of r)) r.root r.rows.items are c.root is.longest);
      }

  pub revisions_kept : (revisions : List Revision) → AreRevisions old revisions → AreRevisions new revisions
  revisions_kept revisions are k r e = revision_kept (take k revisions) r (ropes_before old revisions k are) (are k r e)

  pub root_cells_kept : (revisions : List Revision) → AreRevisions old revisions → map (rope_cells (table_of coded_byte new)) (roots_of revisions) ≡ map (rope_cells (table_of coded_byte old)) (roots_of revisions)
  root_cells_kept revisions are =
      all_cells_kept (table_of coded_byte old) (table_of coded_byte new) on.sound on.true_records on.kept (roots_of revisions) (are_ropes old revisions are)
