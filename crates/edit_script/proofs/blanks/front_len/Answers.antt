use Rattle.std.proofs.Common.{sym, arith, ◌∙◌}
use Rattle.std.proofs.lemmas.List.Sums.{position_or_len_is}
use Rattle.edit_script.specs.Words.{ends_word}
use Rattle.edit_script.proofs.blanks.front_len.Goals as goal

pub returns-then-ends_word-clause-value : goal.returns-then-ends_word-clause-value
returns-then-ends_word-clause-value c =
    sym (position_or_len_is ends_word c.args.text.now c.loop-i.i 0 (omega arith) c.loop-i.invariant (λ lt. sym c.ends_word.ensures ∙ c.if-ends_word.true))

pub returns-clause-value : goal.returns-clause-value
returns-clause-value c =
    sym (position_or_len_is ends_word c.args.text.now _ 0 (omega arith) (λ k lt. c.loop-i.invariant k (omega arith)) (λ lt. absurd (omega arith)))
