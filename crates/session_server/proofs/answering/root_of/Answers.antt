use Rattle.std.proofs.Common.{Option, Some, None, sym, subst}
use Rattle.rope_node.specs.declared.node.NodeId.{NodeId}
use Rattle.rope_node.specs.Denotes.{IsRope}
use Rattle.edit_commands.specs.Session.{session_table}
use Rattle.session_server.proofs.Roots.{found, rope}
use Rattle.session_server.proofs.answering.root_of.Goals as goal

pub returns-in-Some-clause-root : goal.returns-in-Some-clause-root
returns-in-Some-clause-root c = sym (found c.args.session.now c.args.k (Some c.in-Some.root) (sym c.in-Some.ensures))

pub returns-in-Some-clause-rope : goal.returns-in-Some-clause-rope
returns-in-Some-clause-rope c =
    let v = c.args.session.now in
    subst (IsRope (session_table v)) (found v c.args.k (Some c.in-Some.root) (sym c.in-Some.ensures)) (rope v c.args.k c.count-count.ensures.session)

pub returns-in-None-clause-root : goal.returns-in-None-clause-root
returns-in-None-clause-root c =
    let none : Option (Option NodeId) = None in
    sym (found c.args.session.now c.args.k none (sym c.in-None.ensures))
