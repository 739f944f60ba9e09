-- What the slots join to in the end.
use Rattle.std.proofs.Common.{◌≡◌, ℕ, List, [], ◌++◌, Option, None, sym, ap, ◌∙◌, arith}
use Rattle.std.proofs.lemmas.List.{append-nil}
use Rattle.rope_node.specs.declared.node.NodeId.{NodeId}
use Rattle.rope_node.specs.Table.{Table}
use Rattle.rope_node.specs.Denotes.{Cell, rope_cells}
use Rattle.rebalance.specs.Slots.{slots_cells, IsSpread}
use Rattle.rebalance.proofs.SlotLists.{no_cells}
use Rattle.rebalance.specs.declared.slots.TheConstants.{SLOTS}

-- with no slot full the rope is the text
pub gathered_text : (t : Table) (most : ℕ) (text : List Cell) (slots : List (Option NodeId)) (rope : Option NodeId) → IsSpread t most text SLOTS slots rope → rope_cells t rope ≡ text
gathered_text t most text slots rope spread =
    let none : slots_cells t slots ≡ [] = no_cells t slots (λ i lt. spread.empty i (omega (arith, lt, spread.are.size))) in
    ap (λ cs. cs ++ rope_cells t rope) (sym none) ∙ spread.whole

-- with no rope beside them the slots are the text
pub spread_text : (t : Table) (most : ℕ) (text : List Cell) (m : ℕ) (slots : List (Option NodeId)) → IsSpread t most text m slots None → slots_cells t slots ≡ text
spread_text t most text m slots spread = sym (append-nil (slots_cells t slots)) ∙ spread.whole
