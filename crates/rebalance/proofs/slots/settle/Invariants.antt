use Rattle.std.proofs.Common.{◌+◌, ◌-◌, ◌++◌, length}
use Rattle.rope_node.specs.Denotes.{rope_cells}
use Rattle.node_table.specs.Held.{table_of}
use Rattle.rebalance.specs.Slots.{full_slots, ropes_in, slots_cells, IsCarried, IsSpread}
use Rattle.rebalance.specs.Steps.{Grows}
use Rattle.rebalance.proofs.slots.settle.Given as goal
use Rattle.rebalance.specs.declared.slots.TheConstants.{SLOTS}

abbrev pub invariant-loop-store : goal.invariant-loop-store
invariant-loop-store g l =
    let meaning = g.F.LeafFn.meaning in
    let t = table_of meaning l.fn.store in
    let most = length l.fn.store.nodes + (full_slots l.fn.slots.ropes + ropes_in l.fn.carried) in
    record {
      carried : IsCarried (table_of meaning l.store) l.slot l.rope;
      spread : IsSpread (table_of meaning l.store) most (slots_cells t l.fn.slots.ropes ++ rope_cells t l.fn.carried) l.slot l.slots.ropes l.rope;
      grows : Grows meaning l.fn.store most (length l.fn.store.pool.bytes) l.store;
    }

abbrev pub decreases-loop-store : goal.decreases-loop-store
decreases-loop-store g l = SLOTS - l.slot
