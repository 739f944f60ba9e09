use Rattle.std.proofs.Common.{take}
use Rattle.std.specs.List.{AllZip}
use Rattle.cord_words.specs.Words.{ReadsAs}
use Rattle.cord_words.proofs.given.each_parsed.Given as goal

abbrev pub invariant-loop-text : goal.invariant-loop-text
invariant-loop-text l = AllZip (λ t. ReadsAs t.now) (take l.text-index l.texts) l.numbers.items
