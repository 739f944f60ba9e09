use Rattle.std.proofs.Common.{subst}
use Rattle.memchr.specs.Find.{FindsNeedle}
use Rattle.cord_search.proofs.seeker.find_in_ring.Goals as goal

pub returns-clause-found : goal.returns-clause-found
returns-clause-found c = subst (λ hay. FindsNeedle hay c.args.finder.now 0 c.find.result) c.make_contiguous-bytes.ensures.value c.find.ensures
