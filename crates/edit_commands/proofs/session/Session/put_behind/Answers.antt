use Rattle.std.proofs.Common.{◌≡◌, [], ◌∷◌, ◌++◌, length, arith, rules}
use Rattle.edit_commands.proofs.RevisionLists.{rows_more, splices_more}
use Rattle.edit_commands.proofs.SessionCalls.{session_more}
use Rattle.edit_commands.proofs.session.Session.put_behind.Goals as goal

pub invariant_of-self-2 : goal.invariant_of-self-2
invariant_of-self-2 c =
    let held = c.self.inside.store in
    let items = c.self.inside.revisions.items in
    let made = c.args.revision in
    let pushed : c.push.new.self.items ≡ c.self.inside.revisions.items ++ c.args.revision ∷ [] = search rules in
    let asked = rw (← c.self.view_is) at c.requires in
    let count : c.len-row_count.result ≡ length c.args.revision.rows.items = search rules in
    let count' : c.len-splice_count.result ≡ length c.args.revision.splices.items = search rules in
    rw pushed (
      session_more held items made c.self.invariant.0.each asked.is asked.room asked.rows asked.splices,
      omega (arith, rows_more items made, count, c.self.invariant.1),
      omega (arith, splices_more items made, count', c.self.invariant.2),
    )
