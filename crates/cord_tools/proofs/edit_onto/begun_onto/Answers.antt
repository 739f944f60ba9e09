use Rattle.std.proofs.Common.{List, ℕ, Ok, Err, ap, subst}
use Rattle.cord_tools.specs.EditingOnto.{OpensOnto}
use Rattle.cord_tools.proofs.OntoImages.{begun_answer, begun_sizes, may_be_taken, states_same}
use Rattle.cord_tools.proofs.edit_onto.begun_onto.Goals as goal

pub begun_over-requires : goal.begun_over-requires
begun_over-requires g c = may_be_taken c.in-Ok.checked c.in-Ok.ensures

pub returns-in-Ok-clause-begins : goal.returns-in-Ok-clause-begins
returns-in-Ok-clause-begins g c =
    let old = g.S.Sources.reading c.args.sources.now in
    let new = g.S.Sources.reading c.check_told.new.sources in
    subst (λ (bytes : List ℕ). OpensOnto old new bytes c.begun_over.result) c.deref.ensures.value
    (begun_answer c.in-Ok.checked c.begun_over.result c.in-Ok.ensures c.begun_over.ensures.begun c.begun_over.ensures.fault)

pub returns-clause-begins : goal.returns-clause-begins
returns-clause-begins g c =
    let old = g.S.Sources.reading c.args.sources.now in
    let new = g.S.Sources.reading c.check_told.new.sources in
    subst (λ (bytes : List ℕ). OpensOnto old new bytes (Err c.from.result)) c.deref.ensures.value
    (OpensOnto.refused c.in-Err.fault c.in-Err.ensures (ap Err c.from.ensures))

pub returns-in-Ok-clause-stated : goal.returns-in-Ok-clause-stated
returns-in-Ok-clause-stated g c = states_same (Ok c.in-Ok.checked) c.in-Ok.ensures

pub returns-in-Ok-clause-sizes : goal.returns-in-Ok-clause-sizes
returns-in-Ok-clause-sizes g c = begun_sizes c.in-Ok.checked c.begun_over.result c.in-Ok.ensures c.begun_over.ensures.begun
