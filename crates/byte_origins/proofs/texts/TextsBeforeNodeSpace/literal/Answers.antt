use Rattle.std.proofs.Common.{sym, subst}
use Rattle.rope_node.specs.Table.{IsLiteral}
use Rattle.byte_origins.proofs.EarlierTexts.{below, view_is}
use Rattle.byte_origins.proofs.texts.TextsBeforeNodeSpace.literal.Goals as goal

pub unreachable-requires : goal.unreachable-requires
unreachable-requires g c =
    let lt = below (g.H.History.image c.args.self.now.history) c.args.self.now.k c.args.id.0 c.requires.there in
    subst IsLiteral (sym (view_is (g.H.History.image c.args.self.now.history) c.args.self.now.k c.args.id.0 lt)) c.requires.literal
