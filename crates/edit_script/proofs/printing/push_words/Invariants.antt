use Rattle.std.proofs.Common.{◌≡◌, ◌++◌, take}
use Rattle.edit_script.specs.Words.{numbers_on}
use Rattle.edit_script.proofs.printing.push_words.Given as goal

abbrev pub invariant-loop-n : goal.invariant-loop-n
invariant-loop-n l = l.out.items ≡ l.fn.out.items ++ (l.name ++ numbers_on (take l.n-index l.numbers))
