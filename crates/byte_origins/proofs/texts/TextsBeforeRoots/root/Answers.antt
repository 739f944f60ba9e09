use Rattle.std.proofs.Common.{◌<◌, ◌∙◌, arith}
use Rattle.byte_origins.proofs.EarlierTexts.{roots_count, root_is, root_some, root_none}
use Rattle.byte_origins.proofs.texts.TextsBeforeRoots.root.Goals as goal

pub len_of_text-requires : goal.len_of_text-requires
len_of_text-requires g c = omega (arith, c.requires, roots_count (g.H.History.image c.args.self.now.history) c.args.self.now.k)

pub returns-then-len_of_text-gt0 : goal.returns-then-len_of_text-gt0
returns-then-len_of_text-gt0 g c =
    let v = g.H.History.image c.args.self.now.history in
    let lt : c.args.r < c.args.self.now.k = omega (arith, c.requires, roots_count v c.args.self.now.k) in
    root_some v c.args.r (omega (arith, c.len_of_text.ensures.value, c.if-len_of_text-gt0.true)) ∙ root_is v c.args.self.now.k c.args.r lt

pub returns-else-len_of_text-gt0 : goal.returns-else-len_of_text-gt0
returns-else-len_of_text-gt0 g c =
    let v = g.H.History.image c.args.self.now.history in
    let lt : c.args.r < c.args.self.now.k = omega (arith, c.requires, roots_count v c.args.self.now.k) in
    root_none v c.args.r (omega (arith, c.len_of_text.ensures.value, c.if-len_of_text-gt0.false)) ∙ root_is v c.args.self.now.k c.args.r lt
