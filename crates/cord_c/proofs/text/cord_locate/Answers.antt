use Rattle.cord_c.specs.Opened.{opened_image}
use Rattle.cord_c.proofs.RunLaws.{located}
use Rattle.cord_c.proofs.text.cord_locate.Goals as goal

pub returns-in-Some-clause-located : goal.returns-in-Some-clause-located
returns-in-Some-clause-located c = λ _.
    located (opened_image c.args.image.now) c.checked-image.result c.args.revision c.args.place c.root_of-root.result c.in-Some.found c.checked-image.ensures.value c.root_of-root.ensures.value c.in-Some.ensures.run
