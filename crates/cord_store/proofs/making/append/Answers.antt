use Rattle.std.proofs.Common.{refl, ◌≡◌, subst}
use Rattle.std.specs.Prelude.{Ok, Option}
use Rattle.rope_node.specs.declared.node.NodeId.{NodeId}
use Rattle.function_leaf.specs.Coded.{coded_byte}
use Rattle.rebalance.specs.AnyForms.{AppendsAny}
use Rattle.cord_store.proofs.making.append.Goals as goal

pub returns-in-Ok : goal.returns-in-Ok
returns-in-Ok c = record {
  no_rope = λ e. absurd cc;
  made = λ rope e.
      let same : c.in-Some.before ≡ rope = cc in
      (Ok c.in-Ok.made, subst (λ (r : Option NodeId). AppendsAny coded_byte c.args.store.now r c.args.bytes.now (Ok c.in-Ok.made) c.append_any.new.store) same c.in-Ok.ensures.any, refl, c.number.ensures);
}
