use Rattle.cord_words.proofs.apply.command.Goals as goal

pub returns-clause-app : goal.returns-clause-app
returns-clause-app c =
    let one = c.with-command.ensures.app _ _ c.command-command.ensures.app c.onto.ensures.rule in
    let two = c.with-command-2.ensures.app _ _ one c.limit.ensures.rule in
    let three = c.with.ensures.app _ _ two c.required-script.ensures.rule in
    c.with-2.ensures.app _ _ three c.sources.ensures.rule
