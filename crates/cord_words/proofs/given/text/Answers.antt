use Rattle.std.proofs.Common.{refl}
use Rattle.clap.specs.Words.{found_of}
use Rattle.cord_words.proofs.GivenLemmas.{text_given}
use Rattle.cord_words.proofs.given.text.Goals as goal

pub returns : goal.returns
returns c = text_given (found_of c.args.given.now) c.args.id.now c.get_str.result _ c.unwrap_or.result c.unwrap_or.ensures c.get_str.ensures refl
