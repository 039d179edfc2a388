use Rattle.fraction.specs.Frac.{ratio, ratios}
use Rattle.evidence.specs.Sums.{none}
use Rattle.evidence.specs.Instance.{minimising, cost_at}
use Rattle.evidence.specs.Point.{value_at}
use Rattle.evidence.proofs.Steps.{IsSum}
use Rattle.cert_checker.proofs.ray.slope_of.Given as goal

abbrev pub invariant-loop-j : goal.invariant-loop-j
invariant-loop-j l = IsSum none l.j (λ j. minimising l.program (cost_at l.program j)) (value_at (ratios l.ray)) (ratio l.sum)
