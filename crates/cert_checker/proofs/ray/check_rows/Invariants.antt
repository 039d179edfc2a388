use Rattle.fraction.specs.Frac.{ratios}
use Rattle.cert_checker.specs.Rays.{RowsMove}
use Rattle.cert_checker.proofs.ray.check_rows.Given as goal

abbrev pub invariant-loop-i : goal.invariant-loop-i
invariant-loop-i l = RowsMove l.program (ratios l.ray) l.i
