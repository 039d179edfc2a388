use Rattle.std.proofs.Common.{◌≡◌, ℕ, ◌<◌, cond, nat_lt}
use Rattle.simplex_rules.specs.declared.columns.Status.TheVariants.{Basic}
use Rattle.simplex_rules.specs.Statuses.{status_at, first_status}
use Rattle.simplex.specs.Cuts.{ranges_in}
use Rattle.simplex.proofs.beginning.set_first.Given as goal

abbrev pub invariant-loop-c : goal.invariant-loop-c
invariant-loop-c l = (k : ℕ) → k < l.c → status_at l.statuses k ≡ cond (nat_lt k l.vars) (first_status (ranges_in l.ends k).lb (ranges_in l.ends k).ub) Basic
