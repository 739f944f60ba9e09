use Rattle.byte_origins.proofs.EarlierTexts.{below, view_is, texts_sound, texts_true}
use Rattle.byte_origins.proofs.texts.TextsBeforeNodeSpace.node.Goals as goal

pub returns-clause-view : goal.returns-clause-view
returns-clause-view g c = view_is (g.H.History.image c.args.self.now.history) c.args.self.now.k c.args.id.0 (below (g.H.History.image c.args.self.now.history) c.args.self.now.k c.args.id.0 c.requires)

pub returns-clause-sound : goal.returns-clause-sound
returns-clause-sound g c = texts_sound (g.H.History.image c.args.self.now.history) c.args.self.now.k c.args.self.now.inside c.revision_count-count.ensures.true_records

pub returns-clause-true_records : goal.returns-clause-true_records
returns-clause-true_records g c = texts_true (g.H.History.image c.args.self.now.history) c.args.self.now.k c.args.self.now.inside c.revision_count-count.ensures.true_records
