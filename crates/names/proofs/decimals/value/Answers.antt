use Rattle.std.proofs.Common.{◌+◌, ◌-◌, ◌*◌, get_or, drop, arith}
use Rattle.names.proofs.Numbers.{grows, digit_value}
use Rattle.names.proofs.decimals.value.Goals as goal

pub returns-then-value-from : goal.returns-then-value-from
returns-then-value-from c =
    λ _.
    let digit = get_or c.args.digits.now c.loop-digit.digit-index 0 in
    let e = digit_value c.args.digits.now c.loop-digit.digit-index c.loop-digit.value c.loop-digit-test.true in
    let g = grows (c.loop-digit.value * 10 + (digit - 48)) (drop (c.loop-digit.digit-index + 1) c.args.digits.now) in
    let i = c.loop-digit.invariant.1 in
    omega arith
