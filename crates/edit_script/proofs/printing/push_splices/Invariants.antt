use Rattle.std.proofs.Common.{◌≡◌, ◌++◌, take}
use Rattle.edit_script.specs.Words.{spelled_on}
use Rattle.edit_script.specs.Commands.{splice_words}
use Rattle.edit_script.proofs.printing.push_splices.Given as goal

abbrev pub invariant-loop-splice : goal.invariant-loop-splice
invariant-loop-splice l = l.out.items ≡ l.fn.out.items ++ spelled_on (splice_words l.pool (take l.splice-index l.splices))
