use Rattle.std.proofs.Common.{refl, sym}
use Rattle.session_checker.proofs.RevisionTexts.{no_revision_past}
use Rattle.cord_c.proofs.text.root_of.Goals as goal

pub returns-in-None-clause-value : goal.returns-in-None-clause-value
returns-in-None-clause-value c = sym (no_revision_past c.args.image.now c.args.revision (c.in-None.ensures.not_there.0 refl))
