use Rattle.cord_words.proofs.cut.command.Goals as goal

pub returns-clause-app : goal.returns-clause-app
returns-clause-app c =
    let one = c.with-command.ensures.app _ _ c.command-command.ensures.app c.start.ensures.rule in
    let two = c.with.ensures.app _ _ one c.required-count.ensures.rule in
    c.with-2.ensures.app _ _ two c.file.ensures.rule
