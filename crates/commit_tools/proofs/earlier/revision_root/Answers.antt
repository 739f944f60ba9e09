use Rattle.std.proofs.Common.{Option, Some, None, sym, subst}
use Rattle.rope_node.specs.declared.node.NodeId.{NodeId}
use Rattle.rope_node.specs.Denotes.{IsRope}
use Rattle.edit_commands.specs.Session.{session_table}
use Rattle.commit_tools.proofs.LastRoots.{root_found, root_rope}
use Rattle.commit_tools.proofs.earlier.revision_root.Goals as goal

pub returns-in-Some-clause-rope : goal.returns-in-Some-clause-rope
returns-in-Some-clause-rope c =
    let v = c.args.session.now in
    subst (IsRope (session_table v)) (root_found v c.args.r (Some c.in-Some.root) (sym c.in-Some.ensures)) (root_rope v c.args.r c.count-made.ensures.session)

pub returns-in-None-clause-root : goal.returns-in-None-clause-root
returns-in-None-clause-root c =
    let none : Option (Option NodeId) = None in
    sym (root_found c.args.session.now c.args.r none (sym c.in-None.ensures))
