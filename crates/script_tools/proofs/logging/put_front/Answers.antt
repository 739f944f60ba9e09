use Rattle.script_tools.proofs.logging.put_front.Goals as goal

pub returns : goal.returns
returns c = λ splices. rw c.clear.ensures.items at (c.push_front.ensures splices)
