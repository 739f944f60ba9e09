-- The nodes of a store, each with its function.
use Rattle.std.proofs.Common.{◌≡◌, ℕ, ◌+◌, ◌<◌, length, get_or, Some, None, ap, subst, ◌∙◌, arith, inl, inr}
use Rattle.std.specs.Prelude.{slice_get}
use Rattle.std.proofs.lemmas.Bool.{cases_lt}
use Rattle.function_leaf.specs.declared.coded.Coded.{Coded}
use Rattle.rope_node.specs.Table.{no_node}
use Rattle.node_table.specs.Held.{Held}
use Rattle.session_image.specs.Written.{FitsHeld, HoldsFit, nodes_of}
use Rattle.session_image.proofs.Sections.{get_mapped}

pub node_found : (h : Held Coded) (id : ℕ) → id < length h.nodes → slice_get (nodes_of h) id ≡ Some (record { node = get_or h.nodes id no_node; function = get_or h.functions id None })
node_found h id lt =
    let same : 0 + id ≡ id = omega arith in
    get_mapped (λ i. record { node = get_or h.nodes i no_node; function = get_or h.functions i None }) 0 (length h.nodes) id lt ∙ ap (λ (i : ℕ). Some (record { node = get_or h.nodes i no_node; function = get_or h.functions i None })) same

pub holds_fit_more : (h : Held Coded) (id : ℕ) → HoldsFit h id → FitsHeld (get_or h.nodes id no_node).view (get_or h.functions id None) → HoldsFit h (id + 1)
holds_fit_more h id fits more i lt =
    elim (cases_lt i id) [
      | inl before ↦ fits i before
      | inr behind ↦ let same : id ≡ i = omega arith in subst (λ (i : ℕ). FitsHeld (get_or h.nodes i no_node).view (get_or h.functions i None)) same more
    ]
