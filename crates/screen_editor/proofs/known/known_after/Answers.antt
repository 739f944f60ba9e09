use Rattle.screen_editor.proofs.known.known_after.Goals as goal

pub returns : goal.returns
returns c before now new takes hn is = (c.lines_after.ensures before now new takes hn is, c.plain_after.ensures before now new takes hn is)
