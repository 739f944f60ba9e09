use Rattle.std.proofs.Common.{◌+◌, ◌<◌, length, arith, refl, sym, subst, rules}
use Rattle.function_leaf.specs.Coded.{coded_byte}
use Rattle.node_table.specs.Held.{table_of}
use Rattle.span_certificate.specs.declared.making.TheConstants.{ROWS_LIMIT}
use Rattle.command_parts.specs.Commands.{with_splices}
use Rattle.span_certificate.specs.Longest.{AreLongest}
use Rattle.command_parts.specs.Parts.{parts_of}
use Rattle.edit_commands.specs.declared.revision.Revision.{Revision}
use Rattle.edit_commands.specs.Session.{SessionValue, roots_of, rows_held, AreRevisions, IsCertified}
use Rattle.edit_commands.proofs.KnownRows.{known_pass, puts_known}
use Rattle.edit_commands.proofs.session.Session.put_known.Goals as goal

pub longest_rows-requires-clause-revisions : goal.longest_rows-requires-clause-revisions
longest_rows-requires-clause-revisions c = subst (AreRevisions c.self.inside.store) (sym c.deref.ensures.value) c.self.invariant.0.each

pub returns-clause-put : goal.returns-clause-put
returns-clause-put c =
    let old : SessionValue = record { held = c.self.inside.store; revisions = c.self.inside.revisions.items } in
    let made : Revision = record { edit = c.args.edit; splices = c.args.splices; root = c.args.root; mark = c.is_marked-mark.result; rows = c.in_ok-rows.rows } in
    let t = table_of coded_byte c.self.inside.store in
    rw (← c.self.view_is) (puts_known old c.args.splices.items c.args.rows.items made c.put_behind.result c.put_behind.new.self refl
    (λ are. let again : AreLongest t (parts_of t (roots_of c.deref.result.now) (with_splices c.deref-2.result.now c.args.edit)) c.args.root c.args.rows.items = rw (c.deref.ensures.value, c.deref-2.ensures.value) are in
    let same = c.in_ok-rows.ensures.kept again in search rules)
    c.put_behind.ensures.number c.put_behind.ensures.ok)

pub returns-then-len-self-clause-pass : goal.returns-then-len-self-clause-pass
returns-then-len-self-clause-pass c = λ is.
    let old : SessionValue = record { held = c.self.inside.store; revisions = c.self.inside.revisions.items } in
    let t = table_of coded_byte c.self.inside.store in
    let rows = c.in_ok-rows.rows.items in
    let certified : IsCertified c.self.inside.store c.self.inside.revisions.items c.args.edit c.args.splices.items c.args.root rows = rw (c.deref.ensures.value, c.deref-2.ensures.value) at c.in_ok-rows.ensures.certified in
    let longest : AreLongest t (parts_of t (roots_of c.self.inside.revisions.items) (with_splices c.args.splices.items c.args.edit)) c.args.root rows = rw (c.deref.ensures.value, c.deref-2.ensures.value) at c.in_ok-rows.ensures.longest in
    let many : ROWS_LIMIT < rows_held c.self.inside.revisions.items + length rows = omega (arith, c.if-len-self.true, c.len.ensures, c.self.invariant.1, c.self.invariant.0.few_rows) in
    rw (← c.self.view_is) (known_pass old c.args.edit c.args.splices.items c.args.root rows certified longest many)
