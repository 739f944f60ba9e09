use Rattle.byte_origins.proofs.RopeCalls.{names_joined}
use Rattle.byte_origins.proofs.origin_store.OriginStore.joined.Goals as goal

pub returns-clause-text : goal.returns-clause-text
returns-clause-text c = λ first second left right.
    names_joined c.self.inside.ropes c.cat_any.new.store c.self.inside.brought c.args.left c.args.right c.in-Ok.rope first second c.in-Ok.ensures.gives.is_rope c.in-Ok.ensures.gives.text (rw (← c.self.view_is) at left) (rw (← c.self.view_is) at right)
