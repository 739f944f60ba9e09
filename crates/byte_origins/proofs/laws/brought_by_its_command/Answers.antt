use Rattle.byte_origins.proofs.StoodThere.{came_in}
use Rattle.byte_origins.proofs.laws.brought_by_its_command.Goals as goal

pub returns : goal.returns
returns c = came_in
