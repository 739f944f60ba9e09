use Rattle.cord_words.proofs.edit.command.Goals as goal

pub returns-clause-app : goal.returns-clause-app
returns-clause-app c =
    let one = c.with-command.ensures.app _ _ c.titled.ensures.app c.old.ensures.rule in
    let two = c.with-command-2.ensures.app _ _ one c.keep.ensures.rule in
    let three = c.with-command-3.ensures.app _ _ two c.session.ensures.rule in
    let four = c.with-command-4.ensures.app _ _ three c.flag.ensures.rule in
    let five = c.with-command-5.ensures.app _ _ four c.flag-2.ensures.rule in
    let six = c.with-command-6.ensures.app _ _ five c.flag-3.ensures.rule in
    let seven = c.with-command-7.ensures.app _ _ six c.image.ensures.rule in
    c.with.ensures.app _ _ seven c.optional_file.ensures.rule
