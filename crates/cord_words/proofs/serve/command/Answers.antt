use Rattle.cord_words.proofs.serve.command.Goals as goal

pub returns-clause-app : goal.returns-clause-app
returns-clause-app c =
    let one = c.with-command.ensures.app _ _ c.command-command.ensures.app c.limit.ensures.rule in
    let two = c.with-command-2.ensures.app _ _ one c.image.ensures.rule in
    c.with.ensures.app _ _ two c.optional_source.ensures.rule
