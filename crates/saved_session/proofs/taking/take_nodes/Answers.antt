use Rattle.saved_session.proofs.OneTable.{holds_image}
use Rattle.saved_session.proofs.TakenRevisions.{starts}
use Rattle.saved_session.proofs.taking.take_nodes.Goals as goal

pub returns-clause-taken : goal.returns-clause-taken
returns-clause-taken c =
    let v = c.args.checked.now in
    starts v c.in-Ok.store c.over.result c.over.ensures
    (holds_image v (rw c.image.ensures at c.node_count-nodes.ensures.image) c.in-Ok.store c.in-Ok.ensures.copied c.count-held.ensures.kept.functions)
