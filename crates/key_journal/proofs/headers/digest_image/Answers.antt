use Rattle.std.proofs.Common.{arith, sym}
use Rattle.std.proofs.lemmas.List.{length-take-le}
use Rattle.key_journal.specs.declared.headers.TheConstants.{END_SIZE}
use Rattle.key_journal.proofs.Digests.{ends_digested}
use Rattle.key_journal.proofs.headers.digest_image.Goals as goal

pub slice_bounds-update-end : goal.slice_bounds-update-end
slice_bounds-update-end c = sym (length-take-le END_SIZE c.args.image.now (omega (arith, c.if-image-le-WHOLE_LIMIT.false)))

pub returns-else-image-le-WHOLE_LIMIT : goal.returns-else-image-le-WHOLE_LIMIT
returns-else-image-le-WHOLE_LIMIT c =
    let image = c.args.image.now in
    let first = c.update-else-image-le-WHOLE_LIMIT.new.self in
    let second = c.update-else-image-le-WHOLE_LIMIT-2.new.self in
    ends_digested image c.args.hasher.now first second (omega (arith, c.if-image-le-WHOLE_LIMIT.false)) c.update-else-image-le-WHOLE_LIMIT.ensures c.update-else-image-le-WHOLE_LIMIT-2.ensures
