use Rattle.std.proofs.Common.{arith}
use Rattle.byte_origins.proofs.EarlierTexts.{below, len_is}
use Rattle.byte_origins.proofs.texts.TextsBeforeNodeSpace.len.Goals as goal

pub len_of_text-requires : goal.len_of_text-requires
len_of_text-requires g c = below (g.H.History.image c.args.self.now.history) c.args.self.now.k c.args.id.0 c.requires

pub returns-clause-value : goal.returns-clause-value
returns-clause-value g c =
    let lt = below (g.H.History.image c.args.self.now.history) c.args.self.now.k c.args.id.0 c.requires in
    omega (arith, c.max.ensures, c.len_of_text.ensures.value, len_is (g.H.History.image c.args.self.now.history) c.args.self.now.k c.args.id.0 lt)
