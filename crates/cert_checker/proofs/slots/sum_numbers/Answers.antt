use Rattle.std.proofs.Common.{length, sym}
use Rattle.fraction.specs.Frac.{ratio, ratios}
use Rattle.evidence.specs.Sums.{none}
use Rattle.evidence.specs.Point.{value_at}
use Rattle.evidence.proofs.Columns.{none-number}
use Rattle.evidence.proofs.Steps.{more, wide}
use Rattle.instance.proofs.Terms.{at_err, read, ratios-number}
use Rattle.cert_checker.proofs.slots.sum_numbers.Goals as goal

pub returns-in_err-sum-clause-wide : goal.returns-in_err-sum-clause-wide
returns-in_err-sum-clause-wide c =
    at_err c.from_residual.result
    (wide none (value_at (ratios c.args.numbers.now)) (value_at (ratios c.args.point.now)) none-number (ratios-number c.args.numbers.now) (ratios-number c.args.point.now)
    c.loop-j.j (length c.args.point.now) (ratio c.loop-j.sum) (ratio c.number_at.result) (ratio c.index-point-j.result)
    (sym c.number_at.ensures) (read c.args.point.now c.loop-j.j c.index-point-j.result c.loop-j-test.true c.index-point-j.is) c.loop-j-test.true c.loop-j.sum.above c.loop-j.invariant c.in_err-sum.ensures.wide)

pub loop-j-preserved : goal.loop-j-preserved
loop-j-preserved c =
    more none (value_at (ratios c.args.numbers.now)) (value_at (ratios c.args.point.now)) none-number (ratios-number c.args.numbers.now) (ratios-number c.args.point.now)
    c.loop-j.j (ratio c.loop-j.sum) (ratio c.in_ok-sum.sum) (ratio c.number_at.result) (ratio c.index-point-j.result)
    (sym c.number_at.ensures) (read c.args.point.now c.loop-j.j c.index-point-j.result c.loop-j-test.true c.index-point-j.is) c.loop-j.sum.above c.in_ok-sum.sum.above c.loop-j.invariant c.in_ok-sum.ensures.ok c.in_ok-sum.ensures.fits
