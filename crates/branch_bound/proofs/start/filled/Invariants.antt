use Rattle.std.proofs.Common.{◌≡◌, length, map}
use Rattle.fraction.specs.Frac.{ratios}
use Rattle.search_rules.specs.Beginnings.{point_given}
use Rattle.branch_bound.specs.Beginnings.{given_ratio}
use Rattle.branch_bound.proofs.start.filled.Given as goal

abbrev pub invariant-loop-j : goal.invariant-loop-j
invariant-loop-j l = record {
  count : length l.point ≡ l.j;
  values : ratios l.point ≡ point_given (map given_ratio l.given) l.j;
}
