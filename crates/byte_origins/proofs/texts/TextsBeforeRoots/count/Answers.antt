use Rattle.byte_origins.proofs.EarlierTexts.{roots_count}
use Rattle.byte_origins.proofs.texts.TextsBeforeRoots.count.Goals as goal

pub returns : goal.returns
returns g c = roots_count (g.H.History.image c.args.self.now.history) c.args.self.now.k
