use Rattle.std.proofs.Common.{◌≡◌, length}
use Rattle.fraction.specs.Frac.{ratios}
use Rattle.simplex.specs.Memory.{point_in}
use Rattle.simplex.specs.Answers.{listed}
use Rattle.branch_bound.proofs.points.read_point.Given as goal

abbrev pub invariant-loop-j : goal.invariant-loop-j
invariant-loop-j g l = record {
  count : length l.point ≡ l.j;
  values : ratios l.point ≡ listed l.j (point_in l.work);
}
