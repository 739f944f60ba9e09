use Rattle.byte_origins.proofs.Weaving.{texts_kept}
use Rattle.byte_origins.proofs.ropes.Ropes.make.Goals as goal

pub extend-requires-clause-ropes : goal.extend-requires-clause-ropes
extend-requires-clause-ropes c = texts_kept c.args.image.now c.args.self.now.texts c.begin.new.self c.args.self.now.roots.items c.begin.ensures c.requires.ropes
