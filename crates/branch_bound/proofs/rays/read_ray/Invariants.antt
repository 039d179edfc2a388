use Rattle.std.proofs.Common.{◌≡◌, ℕ, ◌<◌, length}
use Rattle.std.specs.Prelude.{unsigned_abs}
use Rattle.fraction.specs.Frac.{ratios}
use Rattle.evidence.specs.Point.{value_at}
use Rattle.simplex.specs.Memory.{ray_of}
use Rattle.search_rules.specs.Rays.{IsMultiple}
use Rattle.branch_bound.proofs.rays.read_ray.Given as goal

abbrev pub invariant-loop-j : goal.invariant-loop-j
invariant-loop-j g l = record {
  count : length l.ray ≡ l.j;
  movements : (i : ℕ) → i < l.j → IsMultiple (unsigned_abs l.by.numer) (value_at (ray_of l.work) i) (value_at (ratios l.ray) i);
}
