use Rattle.std.proofs.Common.{ap, ◌+◌, ◌∙◌, arith, ℕ}
use Rattle.image_reader.proofs.HeaderFaults.{judged_err, judged_limits, judged_ok, judges_all}
use Rattle.image_reader.proofs.header.judged_len.Goals as goal

pub returns-in-Ok-clause-value : goal.returns-in-Ok-clause-value
returns-in-Ok-clause-value c =
    ap (λ (n : ℕ). n + 1) c.stated_len.ensures ∙ judged_ok c.args.header.now c.in-Ok.header c.in-Ok.ensures.fault c.in-Ok.ensures.numbers

pub returns-in-Ok-clause-all : goal.returns-in-Ok-clause-all
returns-in-Ok-clause-all c =
    judges_all c.args.header.now _ (omega (arith, c.requires)) (ap (λ (n : ℕ). n + 1) c.stated_len.ensures ∙ judged_ok c.args.header.now c.in-Ok.header c.in-Ok.ensures.fault c.in-Ok.ensures.numbers)

pub returns-in-Ok-clause-limits : goal.returns-in-Ok-clause-limits
returns-in-Ok-clause-limits c = rw c.stated_len.ensures (judged_limits c.args.header.now c.in-Ok.header c.in-Ok.ensures.fault c.in-Ok.ensures.numbers)

pub returns-in-Err-clause-value : goal.returns-in-Err-clause-value
returns-in-Err-clause-value c = judged_err c.args.header.now c.in-Err.field-0 c.in-Err.ensures.fault

pub returns-in-Err-clause-all : goal.returns-in-Err-clause-all
returns-in-Err-clause-all c =
    judges_all c.args.header.now 40 (omega (arith, c.requires)) (judged_err c.args.header.now c.in-Err.field-0 c.in-Err.ensures.fault)
