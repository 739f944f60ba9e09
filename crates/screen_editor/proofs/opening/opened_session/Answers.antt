use Rattle.std.proofs.Common.{arith, refl}
use Rattle.screen_editor.proofs.FirstTexts.{first_made, first_short, is_short_source}
use Rattle.screen_editor.proofs.PriorLaws.{none_there}
use Rattle.screen_editor.proofs.opening.opened_session.Goals as goal

pub returns-clause-short : goal.returns-clause-short
returns-clause-short c =
    let sizes = c.args.session.held.sources in
    let none = none_there c.args.session.revisions (omega (arith, c.if-count-gt0.false, c.count.ensures.value)) in
    first_short sizes c.open_first.new.session
    (first_made sizes c.args.session c.open_first.new.session c.in_ok-open_first.field-0 c.in_ok-open_first.ensures.made refl none c.count-one.ensures.history
    (is_short_source c.has_long_source.result sizes c.has_long_source.ensures c.if-has_long_source.false))
