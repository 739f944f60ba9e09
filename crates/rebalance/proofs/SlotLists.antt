-- Laws of slots as lists: one slot filled or emptied, and a table that goes on.
use Rattle.std.proofs.Common.{◌≡◌, ℕ, zero, suc, ◌+◌, ◌<◌, List, [], ◌∷◌, ◌++◌, length, get_or, set, Option, Some, None, refl, sym, ap, ◌∙◌, arith}
use Rattle.std.proofs.lemmas.List.{append-nil}
use Rattle.rope_node.specs.declared.node.NodeId.{NodeId}
use Rattle.rope_node.specs.Table.{Table, IsSound}
use Rattle.rope_node.specs.Denotes.{rope_cells, IsRope}
use Rattle.rope_node.specs.Extends.{Extends}
use Rattle.rope_node.proofs.Extensions.{len_kept, depth_kept}
use Rattle.rope_node.proofs.Ropes.{rope_cells_kept}
use Rattle.rebalance.specs.Slots.{ropes_in, full_slots, slots_cells, AreSlots, AreEmptyBelow, IsSlot}

-- a rope more in a slot, and the one that stood there less
pub full-set : (xs : List (Option NodeId)) (m : ℕ) (y : Option NodeId) → m < length xs → full_slots (set xs m y) + ropes_in (get_or xs m None) ≡ full_slots xs + ropes_in y
full-set [] m y lt = absurd (omega arith)
full-set (x ∷ xs) zero y lt = omega arith
full-set (x ∷ xs) (suc m) y lt = omega (arith, full-set xs m y (omega arith))

under_none : (t : Table) (x : Option NodeId) (xs : List (Option NodeId)) → x ≡ None → slots_cells t (x ∷ xs) ≡ slots_cells t xs
under_none t x xs is = rw is (append-nil (slots_cells t xs))

-- the lowest full slot has the last cells
pub cells-set : (t : Table) (xs : List (Option NodeId)) (m : ℕ) (y : Option NodeId) → AreEmptyBelow m xs → m < length xs → slots_cells t (set xs m y) ≡ slots_cells t (set xs m None) ++ rope_cells t y
cells-set t [] m y empty lt = absurd (omega arith)
cells-set t (x ∷ xs) zero y empty lt = ap (λ cs. cs ++ rope_cells t y) (sym (append-nil (slots_cells t xs)))
cells-set t (x ∷ xs) (suc m) y empty lt =
    let none : x ≡ None = empty 0 (omega arith) in
    under_none t x (set xs m y) none
    ∙ cells-set t xs m y (λ i below. empty (suc i) (omega arith)) (omega arith)
    ∙ ap (λ cs. cs ++ rope_cells t y) (sym (under_none t x (set xs m None) none))

pub no_cells : (t : Table) (xs : List (Option NodeId)) → AreEmptyBelow (length xs) xs → slots_cells t xs ≡ []
no_cells t [] empty = refl
no_cells t (x ∷ xs) empty = under_none t x xs (empty 0 (omega arith)) ∙ no_cells t xs (λ i below. empty (suc i) (omega arith))

pub slot_rope : (t : Table) (m : ℕ) (s : Option NodeId) → IsSlot t m s → IsRope t s
slot_rope t m None h = tt
slot_rope t m (Some id) h = h.0

slots_cells_kept : (old new : Table) → IsSound old → Extends old new → (xs : List (Option NodeId)) → ((i : ℕ) → IsRope old (get_or xs i None)) → slots_cells new xs ≡ slots_cells old xs
slots_cells_kept old new s x [] there = refl
slots_cells_kept old new s x (y ∷ ys) there = rw (slots_cells_kept old new s x ys (λ i. there (suc i)), rope_cells_kept old new s x y (there 0)) refl

-- slots keep their cells and stay slots
pub cells_stay : (old new : Table) → IsSound old → Extends old new → (xs : List (Option NodeId)) → AreSlots old xs → slots_cells new xs ≡ slots_cells old xs
cells_stay old new s x xs are = slots_cells_kept old new s x xs (λ i. slot_rope old i (get_or xs i None) (are.each i))

slot_kept : (old new : Table) → Extends old new → (m : ℕ) (s : Option NodeId) → IsSlot old m s → IsSlot new m s
slot_kept old new x m None h = tt
slot_kept old new x m (Some id) h =
    (omega (arith, h.0, x.more_nodes), rw (depth_kept old new x id.0 h.0) h.1, rw (len_kept old new x id.0 h.0) h.2)

pub slots_stay : (old new : Table) → Extends old new → (xs : List (Option NodeId)) → AreSlots old xs → AreSlots new xs
slots_stay old new x xs are = record { size = are.size; each = λ m. slot_kept old new x m (get_or xs m None) (are.each m) }
