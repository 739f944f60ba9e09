use Rattle.std.proofs.Common.{◌+◌, length}
use Rattle.node_table.specs.Held.{table_of}
use Rattle.rebalance.specs.Slots.{full_slots, slots_cells, IsGathered, IsSpread}
use Rattle.rebalance.specs.Steps.{Grows}
use Rattle.rebalance.proofs.slots.join_below.Given as goal

abbrev pub invariant-loop-m : goal.invariant-loop-m
invariant-loop-m g l =
    let meaning = g.F.LeafFn.meaning in
    let most = length l.fn.store.nodes + full_slots l.fn.slots.ropes in
    record {
      gathered : IsGathered (table_of meaning l.store) l.m l.rope;
      spread : IsSpread (table_of meaning l.store) most (slots_cells (table_of meaning l.fn.store) l.fn.slots.ropes) l.m l.slots.ropes l.rope;
      grows : Grows meaning l.fn.store most (length l.fn.store.pool.bytes) l.store;
    }
