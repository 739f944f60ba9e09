use Rattle.byte_origins.proofs.EarlierTexts.{texts_sound, texts_true}
use Rattle.byte_origins.proofs.texts.TextsBefore.of.Goals as goal

pub returns-clause-sound : goal.returns-clause-sound
returns-clause-sound g c = texts_sound (g.H.History.image c.args.history) c.args.k c.requires c.revision_count-count.ensures.true_records

pub returns-clause-true_records : goal.returns-clause-true_records
returns-clause-true_records g c = texts_true (g.H.History.image c.args.history) c.args.k c.requires c.revision_count-count.ensures.true_records
