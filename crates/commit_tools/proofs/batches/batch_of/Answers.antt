use Rattle.std.proofs.Common.{arith}
use Rattle.line_changes.specs.declared.change.Change.{Change}
use Rattle.commit_tools.proofs.HandedBatches.{change_in}
use Rattle.commit_tools.proofs.batches.batch_of.Goals as goal

pub overflow_add-found : goal.overflow_add-found
overflow_add-found c =
    let zero : Change = record { from = 0; to = 0; put_from = 0; put_to = 0 } in
    let is = change_in c.args.found.now c.args.file.now c.args.first c.args.left c.deref.result.now c.loop-change.change-index zero c.requires.found c.deref.ensures.value c.requires.inside.0 c.requires.inside.1 c.loop-change-test.true in
    omega (arith, is.taken.order, is.taken.inside, c.requires.found.short)

pub overflow_sub-change : goal.overflow_sub-change
overflow_sub-change c =
    let zero : Change = record { from = 0; to = 0; put_from = 0; put_to = 0 } in
    let is = change_in c.args.found.now c.args.file.now c.args.first c.args.left c.deref.result.now c.loop-change.change-index zero c.requires.found c.deref.ensures.value c.requires.inside.0 c.requires.inside.1 c.loop-change-test.true in
    is.taken.order

pub overflow_sub-change-in-loop-change : goal.overflow_sub-change-in-loop-change
overflow_sub-change-in-loop-change c =
    let zero : Change = record { from = 0; to = 0; put_from = 0; put_to = 0 } in
    let is = change_in c.args.found.now c.args.file.now c.args.first c.args.left c.deref.result.now c.loop-change.change-index zero c.requires.found c.deref.ensures.value c.requires.inside.0 c.requires.inside.1 c.loop-change-test.true in
    is.put.order

pub bytes_of-requires-clause-order : goal.bytes_of-requires-clause-order
bytes_of-requires-clause-order c =
    let zero : Change = record { from = 0; to = 0; put_from = 0; put_to = 0 } in
    let is = change_in c.args.found.now c.args.file.now c.args.first c.args.left c.deref.result.now c.loop-change.change-index zero c.requires.found c.deref.ensures.value c.requires.inside.0 c.requires.inside.1 c.loop-change-test.true in
    is.put.order

pub bytes_of-requires-clause-inside : goal.bytes_of-requires-clause-inside
bytes_of-requires-clause-inside c =
    let zero : Change = record { from = 0; to = 0; put_from = 0; put_to = 0 } in
    let is = change_in c.args.found.now c.args.file.now c.args.first c.args.left c.deref.result.now c.loop-change.change-index zero c.requires.found c.deref.ensures.value c.requires.inside.0 c.requires.inside.1 c.loop-change-test.true in
    is.put.inside
