use Rattle.std.proofs.Common.{◌<◌, ◌+◌, lit≤, arith}
use Rattle.std.specs.Str.Parse.{digits_value}
use Rattle.std.proofs.lemmas.Str.Parse.{digit_at, digits_value-take-le}
use Rattle.decimal_text.proofs.Numerals.{number_more}
use Rattle.decimal_text.proofs.digits.number.Goals as goal

pub overflow_sub-byte : goal.overflow_sub-byte
overflow_sub-byte c = omega (arith, digit_at c.args.digits.now c.loop-byte.byte-index c.requires c.loop-byte-test.true)

pub returns-in_err-n : goal.returns-in_err-n
returns-in_err-n c =
    let ds = c.args.digits.now in
    let i = c.loop-byte.byte-index in
    let above : c.args.most < digits_value 10 ds = omega (arith, c.in_err-n.ensures, number_more ds i c.requires c.loop-byte-test.true, digits_value-take-le 10 ds (i + 1) (lit≤ tt)) in
    rw c.from_residual.ensures above

pub loop-byte-preserved : goal.loop-byte-preserved
loop-byte-preserved c =
    let h = c.in_ok-n.ensures in
    (omega (arith, h.0, number_more c.args.digits.now c.loop-byte.byte-index c.requires c.loop-byte-test.true), h.1)
