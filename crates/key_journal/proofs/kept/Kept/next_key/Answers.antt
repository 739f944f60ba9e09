use Rattle.std.proofs.Common.{◌≡◌, ◌∙◌, Some}
use Rattle.key_journal.specs.Left.{keys_left}
use Rattle.key_journal.proofs.Given.{held_given}
use Rattle.key_journal.proofs.kept.Kept.next_key.Goals as goal

pub returns-clause-next : goal.returns-clause-next
returns-clause-next g c =
    let old = keys_left g.R.Read.remaining c.args.self.now in
    let mid = c.hold.new.self in
    let held : mid.held ≡ Some c.in-Some.key = c.in_ok-key.ensures.held ∙ c.in-Some.is in
    rw c.keep.ensures.inner (held_given old (g.R.Read.remaining mid.inner) mid.held c.in-Some.key held c.hold.ensures.left)
