use Rattle.std.proofs.Common.{◌≡◌, ℕ, ◌<◌, length}
use Rattle.fraction.specs.Frac.{ratios}
use Rattle.evidence.specs.Instance.{asking}
use Rattle.evidence.specs.Point.{value_at}
use Rattle.evidence.specs.Width.{GoalFits}
use Rattle.instance.specs.Program.{problem}
use Rattle.search_rules.specs.Search.{IsValue}
use Rattle.branch_bound.proofs.values.values_at.Given as goal

abbrev pub invariant-loop-k : goal.invariant-loop-k
invariant-loop-k l = record {
  fit : (k : ℕ) → k < l.k → GoalFits (asking (problem l.instance) k) (ratios l.point);
  count : length l.values ≡ l.k;
  are : (k : ℕ) → k < l.k → IsValue (asking (problem l.instance) k) (ratios l.point) (value_at (ratios l.values) k);
}
