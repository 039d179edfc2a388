use Rattle.http_link.proofs.Numbers.{past_most}
use Rattle.http_link.proofs.checks.number_within.Goals as goal

pub returns-then-number-most : goal.returns-then-number-most
returns-then-number-most c =
    let loop = c.loop-digit in
    rw (past_most c.args.most loop.number loop.digit-index c.args.value.now c.loop-digit-test.true loop.invariant.digits loop.invariant.same c.if-number-most.true)
