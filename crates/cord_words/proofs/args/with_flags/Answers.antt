use Rattle.cord_words.proofs.args.with_flags.Goals as goal

pub returns-clause-app : goal.returns-clause-app
returns-clause-app c a made = c.with-2.ensures.app _ _ (c.with.ensures.app a _ made c.explain.ensures.rule) c.quiet.ensures.rule
