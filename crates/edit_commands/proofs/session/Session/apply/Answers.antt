use Rattle.std.proofs.Common.{◌≡◌, List, sym, subst, ◌∙◌, arith, None, Ok}
use Rattle.function_leaf.specs.Coded.{coded_byte}
use Rattle.node_table.specs.Held.{table_of}
use Rattle.command_parts.specs.Parts.{AreRopes}
use Rattle.edit_commands.specs.declared.revision.Revision.{Revision}
use Rattle.edit_commands.specs.Session.{SessionValue, roots_of, splices_held, AreRevisions}
use Rattle.edit_commands.specs.Applying.{Revises, AppliesOrNot}
use Rattle.edit_commands.specs.Refusals.{refusal_of}
use Rattle.edit_commands.proofs.RevisionLists.{are_ropes}
use Rattle.edit_commands.proofs.SessionCalls.{not_full, session_kept, puts_so}
use Rattle.edit_commands.proofs.session.Session.apply.Goals as goal

pub refusal-requires : goal.refusal-requires
refusal-requires c = record {
  splices = subst (λ (rs : List Revision). c.self.inside.splice_count ≡ splices_held rs) (sym c.deref.ensures.value) c.self.invariant.2;
  few = omega (arith, c.self.invariant.2, c.self.invariant.0.few_splices);
  ropes = subst (λ (rs : List Revision). AreRopes (table_of coded_byte c.self.inside.store) (roots_of rs)) (sym c.deref.ensures.value)
      (are_ropes c.self.inside.store c.self.inside.revisions.items c.self.invariant.0.each);
}

pub revise-requires-clause-revisions : goal.revise-requires-clause-revisions
revise-requires-clause-revisions c = subst (AreRevisions c.self.inside.store) (sym c.deref-2.ensures.value) c.self.invariant.0.each

pub invariant_of-self : goal.invariant_of-self
invariant_of-self c =
    let before : SessionValue = record { held = c.self.inside.store; revisions = c.self.inside.revisions.items } in
    (session_kept before c.revise.new.store c.self.invariant.0 (subst (AreRevisions c.revise.new.store) c.deref-2.ensures.value c.in_err-revision.ensures.earlier), c.self.invariant.1, c.self.invariant.2)

pub invariant_of-self-2 : goal.invariant_of-self-2
invariant_of-self-2 c =
    let before : SessionValue = record { held = c.self.inside.store; revisions = c.self.inside.revisions.items } in
    (session_kept before c.revise.new.store c.self.invariant.0 (subst (AreRevisions c.revise.new.store) c.deref-2.ensures.value c.in_ok-revision.ensures.earlier), c.self.invariant.1, c.self.invariant.2)

pub put_behind-requires-clause-room : goal.put_behind-requires-clause-room
put_behind-requires-clause-room c =
    let before : SessionValue = record { held = c.self.inside.store; revisions = c.self.inside.revisions.items } in
    not_full before c.args.command (subst (λ (rs : List Revision). refusal_of (record { held = c.self.inside.store; revisions = rs }) c.args.command ≡ None) c.deref.ensures.value (sym c.refusal.ensures ∙ c.in_default.is))

pub returns : goal.returns
returns c =
    let held = c.self.inside.store in
    let items = c.self.inside.revisions.items in
    let made = c.in_ok-revision.revision in
    let new = c.revise.new.store in
    let is : Revises held items c.args.command (Ok made) new = subst (λ (rs : List Revision). Revises held rs c.args.command (Ok made) new) c.deref-2.ensures.value c.in_ok-revision.ensures in
    let none : refusal_of (record { held = held; revisions = items }) c.args.command ≡ None = subst (λ (rs : List Revision). refusal_of (record { held = held; revisions = rs }) c.args.command ≡ None) c.deref.ensures.value (sym c.refusal.ensures ∙ c.in_default.is) in
    subst (λ (v : SessionValue). AppliesOrNot v c.args.command c.put_behind.result c.put_behind.new.self) c.self.view_is
    (puts_so held items c.args.command made new c.put_behind.result c.put_behind.new.self none is c.put_behind.ensures.number c.put_behind.ensures.ok c.put_behind.ensures.fault c.put_behind.ensures.err)
