use Rattle.byte_origins.proofs.RopeCalls.{names_part}
use Rattle.byte_origins.proofs.origin_store.OriginStore.part.Goals as goal

pub returns-clause-text : goal.returns-clause-text
returns-clause-text c = λ origins names.
    names_part c.self.inside.ropes c.substr_any.new.store c.self.inside.brought c.args.text c.in-Ok.rope c.args.i c.args.n origins c.in-Ok.ensures.any.gives.is_rope c.in-Ok.ensures.any.gives.text (rw (← c.self.view_is) at names)
