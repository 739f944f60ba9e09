use Rattle.script_tools.proofs.UnchangedSessions.{image_again}
use Rattle.script_tools.proofs.law.gives_the_image_again.Goals as goal

pub returns : goal.returns
returns c = image_again
