use Rattle.std.proofs.Common.{List, Result, Option, Ok, Err, sym, ap, subst, ◌∙◌}
use Rattle.std.proofs.lemmas.Result.{err_from_is_err_and}
use Rattle.function_leaf.specs.Coded.{coded_byte}
use Rattle.rope_node.specs.declared.node.NodeId.{NodeId}
use Rattle.node_table.specs.Held.{table_of}
use Rattle.edit_commands.specs.Building.{BuildsCommand}
use Rattle.edit_commands.specs.Session.{roots_of}
use Rattle.edit_commands.specs.Terms.{Term, AreTerms, JoinsTerms}
use Rattle.edit_commands.proofs.Accepted.{in_range, terms_are}
use Rattle.edit_commands.proofs.BuiltCommands.{command_built, command_refused, terms_handed}
use Rattle.rebalance.specs.declared.fault.BalanceFault.{BalanceFault}
use Rattle.edit_commands.proofs.building.build.Goals as goal

pub terms_of-terms-requires-clause-in_range : goal.terms_of-terms-requires-clause-in_range
terms_of-terms-requires-clause-in_range c = in_range c.args.store.now c.args.revisions.now c.args.command.now c.requires.accepted c.requires.takes

pub join-requires-clause-terms : goal.join-requires-clause-terms
join-requires-clause-terms c =
    let k = c.count-count.ensures in
    let t = table_of coded_byte c.args.store.now in
    let is = in_range c.args.store.now c.args.revisions.now c.args.command.now c.requires.accepted c.requires.takes in
    subst (AreTerms t) (sym c.terms_of-terms.ensures.exact) (terms_are t k.sound k.true_records (roots_of c.args.revisions.now) c.requires.ropes c.args.command.now is)

pub join-requires-clause-room : goal.join-requires-clause-room
join-requires-clause-room c =
    c.requires.room ∙ sym (rw c.terms_of-terms.ensures.exact (terms_handed (table_of coded_byte c.args.store.now) (roots_of c.args.revisions.now) c.args.command.now))

pub returns-in_err-root : goal.returns-in_err-root
returns-in_err-root c =
    let k = c.count-count.ensures in
    let p = err_from_is_err_and c.from_residual.result c.from_residual.ensures.1 in
    let fault = c.in_err-root.field-0.0 in
    let joins = subst (λ (terms : List Term). JoinsTerms c.args.store.now terms (Err fault) c.join.new.places c.join.new.store) c.terms_of-terms.ensures.exact c.in_err-root.ensures in
    subst (λ (r : Result (Option NodeId) BalanceFault). BuildsCommand c.args.store.now c.args.revisions.now c.args.command.now r c.join.new.places c.join.new.store) (sym (p.1 ∙ ap Err p.2))
    (command_refused c.args.store.now c.join.new.store c.args.revisions.now c.args.command.now (record { sound = k.sound; true_records = k.true_records }) c.requires.ropes c.requires.accepted c.requires.takes c.join.new.places fault joins)

pub returns : goal.returns
returns c =
    let k = c.count-count.ensures in
    let k' = c.count-more.ensures in
    let joins = subst (λ (terms : List Term). JoinsTerms c.args.store.now terms (Ok c.in_ok-root.root) c.join.new.places c.join.new.store) c.terms_of-terms.ensures.exact c.in_ok-root.ensures in
    command_built c.args.store.now c.join.new.store c.args.revisions.now c.args.command.now (record { sound = k.sound; true_records = k.true_records }) c.requires.ropes c.requires.accepted c.requires.takes c.join.new.places
    c.in_ok-root.root c.terms_of-terms.ensures.bytes (record { sound = k'.sound; true_records = k'.true_records }) joins
