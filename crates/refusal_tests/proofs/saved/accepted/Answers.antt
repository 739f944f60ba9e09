use Rattle.std.proofs.Common.{refl}
use Rattle.saved_session.proofs.CheckedImages.{was_checked}
use Rattle.refusal_tests.proofs.saved.accepted.Goals as goal

pub returns : goal.returns
returns g c = was_checked c.args.image.now c.in-Ok.checked _ c.in-Ok.ensures.image.0 c.in-Ok.ensures.image.1 (c.in-Ok.ensures.accepted refl)
