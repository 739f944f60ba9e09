use Rattle.std.proofs.Common.{ap, Ok, Err, ◌∙◌}
use Rattle.std.proofs.lemmas.Result.{err_from_is_err_and}
use Rattle.edit_commands.specs.Terms.{term_of}
use Rattle.edit_commands.proofs.Joining.{joining_done, joining_more, joining_refused}
use Rattle.edit_commands.proofs.building.join.Goals as goal

pub returns-in_err-rope : goal.returns-in_err-rope
returns-in_err-rope c =
    let p = err_from_is_err_and c.from_residual.result c.from_residual.ensures.1 in
    joining_refused c.args.store.now c.loop-term.store c.args.terms c.loop-term.built c.loop-term.count c.loop-term.places (term_of c.in-Some.term) c.next.new.self c.loop-term.left c.in-Some.ensures c.loop-term.invariant
    c.from_residual.result c.in_err-rope.field-0.0 c.put.new.store c.in_err-rope.ensures (p.1 ∙ ap Err p.2)

pub loop-term-preserved : goal.loop-term-preserved
loop-term-preserved c =
    joining_more c.args.store.now c.loop-term.store c.args.terms c.loop-term.built c.loop-term.count c.loop-term.places (term_of c.in-Some.term) c.next.new.self c.loop-term.left c.in-Some.ensures c.loop-term.invariant
    c.in_ok-rope.rope c.in_ok-rope.place c.put.new.store c.note-count.new.places c.note-count.result c.in_ok-rope.ensures (record { sound = c.count-count.ensures.sound; true_records = c.count-count.ensures.true_records })
    c.note-count.ensures.value c.note-count.ensures.places c.note-count.ensures.many

pub returns : goal.returns
returns c =
    joining_done c.args.store.now c.loop-term.store c.args.terms c.loop-term.built c.loop-term.count c.loop-term.places c.loop-term.left (Ok c.rope_of.result) c.loop-term.invariant c.in_default.ensures.0 (ap Ok c.rope_of.ensures)
