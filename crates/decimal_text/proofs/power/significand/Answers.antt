use Rattle.std.proofs.Common.{arith, subst, sym}
use Rattle.std.proofs.lemmas.Str.Parse.{digit_at}
use Rattle.decimal_text.specs.Parts.{IsSignificand}
use Rattle.decimal_text.proofs.Numerals.{after_more, is_digit}
use Rattle.decimal_text.proofs.power.significand.Goals as goal

pub overflow_sub-byte : goal.overflow_sub-byte
overflow_sub-byte c = omega (arith, digit_at c.args.digits.now c.loop-byte.byte-index c.requires.digits c.loop-byte-test.true)

pub with_significant-more-requires-clause-digit : goal.with_significant-more-requires-clause-digit
with_significant-more-requires-clause-digit c = is_digit c.args.digits.now c.loop-byte.byte-index c.requires.digits c.loop-byte-test.true

pub loop-byte-preserved : goal.loop-byte-preserved
loop-byte-preserved c =
    let ds = c.args.digits.now in
    let i = c.loop-byte.byte-index in
    let more = c.with_significant-more in
    (λ v s. subst (λ n. IsSignificand n more.result.0 more.result.1) (sym (after_more v ds i c.requires.digits c.loop-byte-test.true)) (more.ensures.value _ (c.loop-byte.invariant.0 v s)), omega arith)
