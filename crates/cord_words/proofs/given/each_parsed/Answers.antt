use Rattle.cord_words.specs.Words.{ReadsAs}
use Rattle.cord_words.proofs.GivenLemmas.{zip_more}
use Rattle.cord_words.proofs.given.each_parsed.Goals as goal

pub returns-in-Err-clause-only_memory : goal.returns-in-Err-clause-only_memory
returns-in-Err-clause-only_memory c = λ each. c.in-Err.ensures.only_memory (each c.loop-text.text-index _ c.loop-text-test.true)

pub loop-text-preserved : goal.loop-text-preserved
loop-text-preserved c =
    rw c.in_ok-push-in-Ok.ensures (zip_more (λ t n. ReadsAs t.now n) c.args.texts.now c.loop-text.numbers.items c.loop-text.text-index _ c.in-Ok.number
    c.loop-text-test.true c.loop-text.invariant c.in-Ok.ensures.reads)
