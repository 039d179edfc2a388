use Rattle.std.proofs.Common.{ℕ, ◌-◌, ◌^◌, ◌<◌, ◌≤◌, nat_eq}
use Rattle.simplex_rules.specs.Statuses.{basic_in}
use Rattle.simplex_rules.specs.Turns.{rate, limit_one}
use Rattle.simplex_rules.specs.Widths.{OneFits}
use Rattle.dictionary.specs.Dict.{entry_of}
use Rattle.simplex.specs.Cuts.{ranges_in}
use Rattle.simplex.specs.Tables.{values_in}
use Rattle.simplex.specs.Limits.{IsLeastOf}
use Rattle.simplex.proofs.limits.first_limit.Given as goal

abbrev pub invariant-loop-c : goal.invariant-loop-c
invariant-loop-c g l = record {
  best : IsLeastOf (λ c. limit_one (basic_in l.statuses c) (nat_eq c l.moving.col) (ranges_in l.ends c) (values_in l.values c) (rate l.moving.way (entry_of l.dict c l.moving.col))) l.from l.best;
  fits : (k : ℕ) → k < l.from → OneFits (basic_in l.statuses k) (nat_eq k l.moving.col) (ranges_in l.ends k) (values_in l.values k) (rate l.moving.way (entry_of l.dict k l.moving.col));
  inside : l.from ≤ l.goal;
}

abbrev pub decreases-loop-c : goal.decreases-loop-c
decreases-loop-c g l = 2 ^ 32 - l.from
