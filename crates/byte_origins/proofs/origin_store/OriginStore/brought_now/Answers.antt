use Rattle.std.proofs.Common.{◌≡◌, ◌++◌}
use Rattle.byte_origins.specs.Origins.{run_origins}
use Rattle.byte_origins.proofs.RopeCalls.{names_now}
use Rattle.byte_origins.proofs.origin_store.OriginStore.brought_now.Goals as goal

pub returns-clause-further : goal.returns-clause-further
returns-clause-further c =
    let more : c.push.new.self ≡ c.self.inside.brought ++ run_origins c.args.run = c.in-Ok-push.ensures.ok in
    rw (← c.self.view_is) (record { sound = c.count-count.ensures.sound; kept = c.from_source.ensures.makes.kept; more = run_origins c.args.run; brought = more })

pub returns-clause-text : goal.returns-clause-text
returns-clause-text c =
    let more : c.push.new.self ≡ c.self.inside.brought ++ run_origins c.args.run = c.in-Ok-push.ensures.ok in
    names_now c.from_source.new.self c.self.inside.brought c.push.new.self c.args.run c.count-before.result c.in-Ok.rope c.in-Ok.ensures.makes.is_rope c.in-Ok.ensures.makes.text c.count-before.ensures more
