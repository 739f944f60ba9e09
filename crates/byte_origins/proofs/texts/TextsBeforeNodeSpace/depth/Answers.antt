use Rattle.byte_origins.proofs.EarlierTexts.{below, depth_is}
use Rattle.byte_origins.proofs.texts.TextsBeforeNodeSpace.depth.Goals as goal

pub returns-clause-value : goal.returns-clause-value
returns-clause-value g c = depth_is (g.H.History.image c.args.self.now.history) c.args.self.now.k c.args.id.0 (below (g.H.History.image c.args.self.now.history) c.args.self.now.k c.args.id.0 c.requires)
