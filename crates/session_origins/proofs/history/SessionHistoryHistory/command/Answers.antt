use Rattle.std.proofs.Common.{take, arith, ◌∙◌}
use Rattle.edit_commands.specs.Session.{splices_held}
use Rattle.session_origins.specs.SessionHistories.{own_splices}
use Rattle.session_origins.proofs.SessionHistories.{edit_there, names_own, own_few, says_own}
use Rattle.session_origins.proofs.history.SessionHistoryHistory.command.Goals as goal

pub returns-clause-says : goal.returns-clause-says
returns-clause-says c =
    let v = c.args.self.0.now in
    let session = c.count-count.ensures.session in
    c.over_its_own.ensures.says (splices_held (take c.args.k v.revisions)) (own_splices v c.args.k) (names_own v session c.args.k c.requires.there c.in-Some.edit c.edit.result c.edit.ensures c.in-Some.is)
    ∙ says_own v session c.args.k c.requires.there c.in-Some.edit c.edit.result c.edit.ensures c.in-Some.is

pub returns-clause-names : goal.returns-clause-names
returns-clause-names c =
    let v = c.args.self.0.now in
    let session = c.count-count.ensures.session in
    let few = own_few v session c.args.k c.requires.there in
    c.over_its_own.ensures.names (splices_held (take c.args.k v.revisions)) (own_splices v c.args.k) (names_own v session c.args.k c.requires.there c.in-Some.edit c.edit.result c.edit.ensures c.in-Some.is) (omega (arith, few))

pub unreachable-requires : goal.unreachable-requires
unreachable-requires c = edit_there c.args.self.0.now c.count-count.ensures.session c.args.k c.requires.there c.edit.result c.edit.ensures c.in-None.is
