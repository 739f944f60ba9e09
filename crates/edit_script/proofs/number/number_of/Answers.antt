use Rattle.std.proofs.Common.{◌-◌, get_or, arith}
use Rattle.edit_script.proofs.Numbers.{a_digit, one_digit_more}
use Rattle.edit_script.proofs.number.number_of.Goals as goal

pub loop-i-preserved : goal.loop-i-preserved
loop-i-preserved c =
    let text = c.args.digits.now in
    let i = c.loop-i.i in
    let digit = a_digit text i c.requires c.loop-i-test.true in
    let more = one_digit_more text i c.loop-i.n (get_or text i 0 - 48) c.requires c.loop-i-test.true c.loop-i.invariant.0 (omega (arith, digit)) in
    (omega (arith, more, c.in_ok-checked_mul.ensures, c.in_ok-n.ensures, c.from.ensures), omega (arith, c.in_ok-n.ensures))
