use Rattle.std.proofs.Common.{pos, ◌<ℤ◌}
use Rattle.std.specs.Prelude.{unsigned_abs}
use Rattle.instance.specs.Program.{program}
use Rattle.simplex.specs.Memory.{ray_of}
use Rattle.search_rules.specs.Rays.{IsFactor}
use Rattle.branch_bound.proofs.rays.factor.Given as goal

abbrev pub invariant-loop-j : goal.invariant-loop-j
invariant-loop-j g l = record {
  above : pos 0 <ℤ l.factor;
  is : IsFactor (program l.instance) (ray_of l.work) l.j (unsigned_abs l.factor);
}
