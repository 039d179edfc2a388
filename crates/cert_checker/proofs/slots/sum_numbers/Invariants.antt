use Rattle.fraction.specs.Frac.{ratio, ratios}
use Rattle.evidence.specs.Sums.{none}
use Rattle.evidence.specs.Point.{value_at}
use Rattle.evidence.proofs.Steps.{IsSum}
use Rattle.cert_checker.proofs.slots.sum_numbers.Given as goal

abbrev pub invariant-loop-j : goal.invariant-loop-j
invariant-loop-j l = IsSum none l.j (value_at (ratios l.numbers)) (value_at (ratios l.point)) (ratio l.sum)
