use Rattle.image_reader.proofs.Sections.{IsReadTo}
use Rattle.image_reader.proofs.section.check_each.Given as goal

abbrev pub invariant-loop : goal.invariant-loop
invariant-loop g l = IsReadTo g.R.RecordKind.SIZE g.R.RecordKind.fault l.count l.counter l.rest l.bytes
