use Rattle.std.proofs.Common.{◌+◌, ◌*◌, None, arith, subst, sym}
use Rattle.decimal_text.specs.Parts.{IsSignificand}
use Rattle.decimal_text.proofs.Powers.{past_zero, past_digit, next_kept, next_digit}
use Rattle.decimal_text.proofs.power.with_significant.Goals as goal

pub returns-then-digit-eq0-clause-value : goal.returns-then-digit-eq0-clause-value
returns-then-digit-eq0-clause-value c = λ v s. subst (λ d. IsSignificand (v * 10 + d) None (c.args.zeros + 1)) (sym c.if-digit-eq0.true) (past_zero v c.args.zeros (subst (λ k. IsSignificand v k c.args.zeros) c.in_default.is s))

pub returns-else-digit-eq0-clause-value : goal.returns-else-digit-eq0-clause-value
returns-else-digit-eq0-clause-value c = λ v s. past_digit v c.args.zeros c.args.digit (let n = c.if-digit-eq0.false in omega (arith, n)) c.requires.digit (subst (λ k. IsSignificand v k c.args.zeros) c.in_default.is s)

pub returns-then-digit-eq0-2-clause-value : goal.returns-then-digit-eq0-2-clause-value
returns-then-digit-eq0-2-clause-value c = λ v s. next_kept v c.args.zeros c.in-Some.size c.args.digit c.args.kept c.in-Some.is c.if-size-eq0.false c.if-digit-eq0-2.true s

pub returns-clause-value : goal.returns-clause-value
returns-clause-value c = λ v s. next_digit v c.args.zeros c.in-Some.size c.args.digit c.lengthened.result (let n = c.if-digit-eq0-2.false in omega (arith, n)) c.requires.digit (subst (λ k. IsSignificand v k c.args.zeros) c.in-Some.is s) c.lengthened.ensures
