use Rattle.cord_tools.proofs.AllPlaces.{next_found, next_none}
use Rattle.cord_tools.proofs.find_all.next_in.Goals as goal

pub returns-in-Some : goal.returns-in-Some
returns-in-Some c = next_found c.args.bytes.now c.args.finder.now c.args.at c.in-Some.k c.if-at-bytes.false c.in-Some.ensures

pub returns-in-None : goal.returns-in-None
returns-in-None c = next_none c.args.bytes.now c.args.finder.now c.args.at c.if-at-bytes.false c.in-None.ensures
