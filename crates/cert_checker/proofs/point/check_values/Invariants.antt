use Rattle.fraction.specs.Frac.{ratios}
use Rattle.instance.specs.Program.{problem}
use Rattle.cert_checker.specs.Points.{ValuesBelow}
use Rattle.cert_checker.proofs.point.check_values.Given as goal

abbrev pub invariant-loop-k : goal.invariant-loop-k
invariant-loop-k l = ValuesBelow (problem l.instance) (ratios l.point) (ratios l.values) l.k
