use Rattle.std.proofs.Common.{◌≡◌, take}
use Rattle.screen_editor.specs.Priors.{priors_of}
use Rattle.edit_commands.specs.Session.{edits_of}
use Rattle.screen_editor.proofs.priors.priors_of.Given as goal

abbrev pub invariant-loop-k : goal.invariant-loop-k
invariant-loop-k l = record {
  taken : l.priors.items ≡ priors_of (take l.k (edits_of l.session.revisions));
}
