-- The image's table is the session's.
use Rattle.std.proofs.Common.{◌≡◌, ℕ, ◌+◌, List, length, map, take, get_or, zero, suc, [], ◌∷◌, Some, None, refl, sym, ap, ◌∙◌, arith, inl, inr}
use Rattle.std.specs.Prelude.{slice_get}
use Rattle.std.specs.List.{sum_by}
use Rattle.std.proofs.lemmas.Bool.{cases_lt}
use Rattle.std.proofs.lemmas.List.{get_or_past}
use Rattle.std.proofs.lemmas.List.FromFn.{length-map-range_with_len, get_or-map-range_with_len}
use Rattle.std.proofs.lemmas.List.Sums.{sum_by-cons}
use Rattle.function_leaf.specs.declared.coded.Coded.{Coded}
use Rattle.function_leaf.specs.Coded.{coded_byte}
use Rattle.rope_node.specs.Table.{no_node}
use Rattle.node_table.specs.Held.{Held, IsKept}
use Rattle.edit_commands.specs.declared.revision.Revision as Kept
use Rattle.edit_commands.specs.Session.{rows_held, roots_of}
use Rattle.image_reader.specs.declared.revision.Revision.{Revision}
use Rattle.image_reader.specs.Value.{ImageNode, no_image_node}
use Rattle.image_reader.specs.Accepted.{no_revision}
use Rattle.session_image.specs.Written.{nodes_of, recorded_revision}

-- a node holds the function that it held
pub same_function : (h : Held Coded) → IsKept coded_byte h → (id : ℕ) → (get_or (nodes_of h) id no_image_node).function ≡ get_or h.functions id None
same_function h kept id =
    elim (cases_lt id (length h.nodes)) [
      | inl there ↦ ap (λ (n : ImageNode). n.function) (get_or-map-range_with_len (λ id. record { node = get_or h.nodes id no_node; function = get_or h.functions id None }) 0 (length h.nodes) id id no_image_node there (omega arith))
      | inr past ↦
          let none = get_or_past (nodes_of h) id no_image_node (rw length-map-range_with_len past) in
          ap (λ (n : ImageNode). n.function) none ∙ sym (get_or_past h.functions id None (omega (arith, kept.functions)))
    ]

-- the recorded revisions have as many rows
pub same_counts : (revisions : List Kept.Revision) → sum_by (λ (r : Revision). r.rows) (map recorded_revision revisions) ≡ rows_held revisions
same_counts [] = refl
same_counts (r ∷ rs) = sum_by-cons (λ (r : Revision). r.rows) (recorded_revision r) (map recorded_revision rs) ∙ ap (λ (n : ℕ). length r.rows.items + n) (same_counts rs) ∙ sym (sum_by-cons (λ (r : Kept.Revision). length r.rows.items) r rs)

-- and the same roots
pub same_roots : (revisions : List Kept.Revision) (k : ℕ) → map (λ (r : Revision). r.root) (take k (map recorded_revision revisions)) ≡ roots_of (take k revisions)
same_roots [] zero = refl
same_roots [] (suc k) = refl
same_roots (r ∷ rs) zero = refl
same_roots (r ∷ rs) (suc k) = ap (λ v. r.root ∷ v) (same_roots rs k)

-- and the same place among the others
pub same_takes : (revisions : List Kept.Revision) (k : ℕ) → take k (map recorded_revision revisions) ≡ map recorded_revision (take k revisions)
same_takes [] zero = refl
same_takes [] (suc k) = refl
same_takes (r ∷ rs) zero = refl
same_takes (r ∷ rs) (suc k) = ap (λ v. recorded_revision r ∷ v) (same_takes rs k)

pub same_revision : (revisions : List Kept.Revision) (k : ℕ) (r : Kept.Revision) → slice_get revisions k ≡ Some r → get_or (map recorded_revision revisions) k no_revision ≡ recorded_revision r
same_revision [] k r e = absurd cc
same_revision (x ∷ xs) zero r e = let same : x ≡ r = cc in ap recorded_revision same
same_revision (x ∷ xs) (suc k) r e = same_revision xs k r e
