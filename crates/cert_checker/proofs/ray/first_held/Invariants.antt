use Rattle.fraction.specs.Frac.{ratios}
use Rattle.cert_checker.specs.Rays.{VariablesMove}
use Rattle.cert_checker.proofs.ray.first_held.Given as goal

abbrev pub invariant-loop-j : goal.invariant-loop-j
invariant-loop-j l = VariablesMove l.program (ratios l.point) (ratios l.ray) l.j
