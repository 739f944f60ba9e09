use Rattle.std.proofs.Common.{subst, arith}
use Rattle.image_reader.specs.Value.{IsImage}
use Rattle.byte_origins.proofs.history.RefCheckedHistory.revision_count.Goals as goal

pub returns-clause-few_splices : goal.returns-clause-few_splices
returns-clause-few_splices c =
    let image : IsImage c.args.self.now = subst IsImage c.image.ensures c.node_count-nodes.ensures.image in
    let all = image.splices_counted in
    let few = image.few_splices in
    omega (arith, all, few)
