use Rattle.std.proofs.Common.{◌≡◌, length, arith, ap, below_more}
use Rattle.std.proofs.lemmas.Result.{err_from_is_err_and}
use Rattle.fraction.specs.Frac.{ratios}
use Rattle.instance.specs.Program.{problem}
use Rattle.cert_checker.specs.Points.{HoldsValue}
use Rattle.cert_checker.proofs.Values.{has_values, first_value}
use Rattle.cert_checker.proofs.point.check_values.Goals as goal

pub returns-in_err-check_value-clause-err : goal.returns-in_err-check_value-clause-err
returns-in_err-check_value-clause-err c =
    let p = err_from_is_err_and c.from_residual.result c.from_residual.ensures.1 in
    let v = ap length c.goals-goals.ensures.value in
    rw (p.1, p.2) (first_value c.args.instance.now c.goals-goals.ensures.valid c.args.point.now c.args.values.now c.loop-k.k c.in_err-check_value.field-0.0 (omega arith) (omega arith) c.loop-k.invariant c.in_err-check_value.ensures.err)

pub loop-k-preserved : goal.loop-k-preserved
loop-k-preserved c = below_more (HoldsValue (problem c.args.instance.now) (ratios c.args.point.now) (ratios c.args.values.now)) c.loop-k.k c.loop-k.invariant c.in_ok-check_value.ensures.ok

pub returns-clause-values : goal.returns-clause-values
returns-clause-values c =
    let v = ap length c.goals-goals.ensures.value in
    let count : length c.args.values.now ≡ length c.args.instance.now.goals = omega arith in
    has_values c.args.instance.now c.goals-goals.ensures.valid c.args.point.now c.args.values.now count c.requires.feasible (λ k h. c.loop-k.invariant k (omega arith))
