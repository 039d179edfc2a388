use Rattle.std.proofs.Common.{arith, sym}
use Rattle.fraction.specs.Frac.{ratio, ratios}
use Rattle.evidence.specs.Sums.{none}
use Rattle.evidence.specs.Instance.{width, minimising, cost_at}
use Rattle.evidence.specs.Point.{value_at}
use Rattle.evidence.proofs.Columns.{none-number}
use Rattle.evidence.proofs.Steps.{more, wide}
use Rattle.instance.proofs.Terms.{at_err, read, ratios-number}
use Rattle.cert_checker.proofs.Moves.{turned-number}
use Rattle.cert_checker.proofs.ray.slope_of.Goals as goal

pub returns-in_err-sum-clause-wide : goal.returns-in_err-sum-clause-wide
returns-in_err-sum-clause-wide c =
    let I = c.args.program.now in
    let n = c.requires.count in
    at_err c.from_residual.result
    (wide none (λ j. minimising I (cost_at I j)) (value_at (ratios c.args.ray.now)) none-number (turned-number I c.requires.numbers) (ratios-number c.args.ray.now)
    c.loop-j.j (width I) (ratio c.loop-j.sum) (ratio c.cost_at.result) (ratio c.index-ray-j.result)
    (sym c.cost_at.ensures) (read c.args.ray.now c.loop-j.j c.index-ray-j.result c.loop-j-test.true c.index-ray-j.is) (let t = c.loop-j-test.true in omega arith) c.loop-j.sum.above c.loop-j.invariant c.in_err-sum.ensures.wide)

pub loop-j-preserved : goal.loop-j-preserved
loop-j-preserved c =
    let I = c.args.program.now in
    more none (λ j. minimising I (cost_at I j)) (value_at (ratios c.args.ray.now)) none-number (turned-number I c.requires.numbers) (ratios-number c.args.ray.now)
    c.loop-j.j (ratio c.loop-j.sum) (ratio c.in_ok-sum.sum) (ratio c.cost_at.result) (ratio c.index-ray-j.result)
    (sym c.cost_at.ensures) (read c.args.ray.now c.loop-j.j c.index-ray-j.result c.loop-j-test.true c.index-ray-j.is) c.loop-j.sum.above c.in_ok-sum.sum.above c.loop-j.invariant c.in_ok-sum.ensures.ok c.in_ok-sum.ensures.fits
