use Rattle.cord_words.proofs.command_line.add_tool.Goals as goal

pub returns : goal.returns
returns c a s made tool = c.add_subcommand.ensures a _ made (c.with_flags.ensures.app s tool)
