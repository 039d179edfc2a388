use Rattle.std.proofs.Common.{arith}
use Rattle.decimal_text.proofs.Numerals.{digits_more}
use Rattle.decimal_text.proofs.digits.split_digits.Goals as goal

pub loop-byte-preserved : goal.loop-byte-preserved
loop-byte-preserved c =
    let s = c.args.text.now in
    let i = c.loop-byte.byte-index in
    (omega arith, digits_more s i c.loop-byte-test.true c.loop-byte.invariant.1 c.if-not-is_ascii_digit.ensures.bound)
