use Rattle.session_checker.proofs.Limits.{never_dear, refused_unlimited}
use Rattle.session_checker.proofs.checked.check.Goals as goal

pub returns-clause-refused : goal.returns-clause-refused
returns-clause-refused g c = refused_unlimited _ _ _ c.check_at_most.ensures.refused

pub returns-clause-exact : goal.returns-clause-exact
returns-clause-exact g c = c.check_at_most.ensures.exact (never_dear _ _)

pub returns-clause-always : goal.returns-clause-always
returns-clause-always g c = c.check_at_most.ensures.always (never_dear _ _)
