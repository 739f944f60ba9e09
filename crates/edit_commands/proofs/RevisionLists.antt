-- Revisions by their places, and one more behind them.
use Rattle.std.proofs.Common.{◌≡◌, ℕ, zero, suc, ◌+◌, ◌<◌, ◌⊎◌, inl, inr, List, [], ◌∷◌, ◌++◌, length, take, Option, Some, None, refl, sym, ap, subst, ◌∙◌, arith}
use Rattle.std.specs.Prelude.{slice_get}
use Rattle.std.specs.Option.{option_map}
use Rattle.std.proofs.lemmas.List.{length-map, length-take, take-take, take-append-le, take_all}
use Rattle.std.proofs.lemmas.List.Sums.{sum_by-append}
use Rattle.std.proofs.lemmas.Option.{slice_get-map, slice_get_cases, slice_get_within, get_or_from_slice_get}
use Rattle.function_leaf.specs.declared.coded.Coded.{Coded}
use Rattle.function_leaf.specs.Coded.{coded_byte}
use Rattle.rope_node.specs.declared.node.NodeId.{NodeId}
use Rattle.rope_node.specs.Denotes.{IsRope}
use Rattle.node_table.specs.Held.{Held, table_of}
use Rattle.command_parts.specs.Parts.{root_at, AreRopes}
use Rattle.edit_commands.specs.declared.revision.Revision.{Revision}
use Rattle.edit_commands.specs.Session.{roots_of, rows_held, splices_held, IsRevision, AreRevisions}
use Rattle.rope_node.proofs.Parts.{slice_get-take}

-- ---- lists

-- what stands in a list with one more is the one more, or stood there before
pub at_more : {X : Type 0} (xs : List X) (x y : X) (k : ℕ) → slice_get (xs ++ x ∷ []) k ≡ Some y → (slice_get xs k ≡ Some y) ⊎ ((k ≡ length xs) × (x ≡ y))
at_more [] x y zero e = inr (refl, cc)
at_more [] x y (suc k) e = absurd cc
at_more (z ∷ zs) x y zero e = inl e
at_more (z ∷ zs) x y (suc k) e =
    elim (at_more zs x y k e) [
      | inl before ↦ inl before
      | inr last ↦ inr (omega (arith, last.0), last.1)
    ]

pub there_is : {X : Type 0} (xs : List X) (k : ℕ) → k < length xs → (x : X) × (slice_get xs k ≡ Some x)
there_is xs k lt =
    elim (slice_get_cases xs k).1 [
      | inl found ↦ (found.0, found.2)
      | inr past ↦ absurd (omega (arith, past.0))
    ]

-- ---- revisions

pub root_is : (revisions : List Revision) (k : ℕ) (r : Revision) → slice_get revisions k ≡ Some r → root_at (roots_of revisions) k ≡ r.root
root_is revisions k r e =
    let root : Revision → Option NodeId = λ (r : Revision). r.root in
    get_or_from_slice_get (roots_of revisions) k r.root None (slice_get-map root revisions k ∙ ap (option_map root) e)

-- the first of them are revisions too
pub first_revisions : (h : Held Coded) (revisions : List Revision) (n : ℕ) → AreRevisions h revisions → AreRevisions h (take n revisions)
first_revisions h revisions n are k r e =
    let lt : k < n = omega (arith, slice_get_within (take n revisions) k r e, length-take n revisions) in
    subst (λ (before : List Revision). IsRevision h before r) (sym (take-take k n revisions (omega (arith, lt))))
    (are k r (sym (slice_get-take n k revisions lt) ∙ e))

-- their roots are ropes
pub are_ropes : (h : Held Coded) (revisions : List Revision) → AreRevisions h revisions → AreRopes (table_of coded_byte h) (roots_of revisions)
are_ropes h revisions are k lt =
    let found = there_is revisions k (omega (arith, lt, length-map revisions (λ (r : Revision). r.root))) in
    subst (IsRope (table_of coded_byte h)) (sym (root_is revisions k found.0 found.1)) (are k found.0 found.1).certified.root

pub ropes_before : (h : Held Coded) (revisions : List Revision) (n : ℕ) → AreRevisions h revisions → AreRopes (table_of coded_byte h) (roots_of (take n revisions))
ropes_before h revisions n are = are_ropes h (take n revisions) (first_revisions h revisions n are)

-- one more behind them
pub one_more : (h : Held Coded) (revisions : List Revision) (made : Revision) → AreRevisions h revisions → IsRevision h revisions made → AreRevisions h (revisions ++ made ∷ [])
one_more h revisions made are is k r e =
    elim (at_more revisions made r k e) [
      | inl before ↦
          subst (λ (earlier : List Revision). IsRevision h earlier r) (sym (take-append-le k revisions (made ∷ []) (omega (arith, slice_get_within revisions k r before)))) (are k r before)
      | inr (at, same) ↦
          let all : take k (revisions ++ made ∷ []) ≡ revisions = take-append-le k revisions (made ∷ []) (omega (arith, at)) ∙ take_all k revisions (omega (arith, at)) in
          subst (λ (earlier : List Revision). IsRevision h earlier r) (sym all) (subst (IsRevision h revisions) same is)
    ]

pub rows_more : (revisions : List Revision) (made : Revision) → rows_held (revisions ++ made ∷ []) ≡ rows_held revisions + length made.rows.items
rows_more revisions made = sum_by-append (λ (r : Revision). length r.rows.items) revisions (made ∷ []) ∙ omega arith

pub splices_more : (revisions : List Revision) (made : Revision) → splices_held (revisions ++ made ∷ []) ≡ splices_held revisions + length made.splices.items
splices_more revisions made = sum_by-append (λ (r : Revision). length r.splices.items) revisions (made ∷ []) ∙ omega arith
