use Rattle.std.proofs.Common.{◌≡◌, ℕ, ◌-◌, ◌^◌, ◌<◌, true}
use Rattle.marks.specs.Walks.{KeepsWord}
use Rattle.marks.specs.Marks.{is_marked}
use Rattle.simplex_rules.specs.declared.columns.Way.{Way}
use Rattle.simplex_rules.specs.Statuses.{basic_in}
use Rattle.simplex_rules.specs.Turns.{Misses}
use Rattle.simplex.specs.Cuts.{ranges_in}
use Rattle.simplex.specs.Tables.{values_in}
use Rattle.simplex.proofs.valued.first_out.Given as goal

abbrev pub invariant-loop-c : goal.invariant-loop-c
invariant-loop-c g l = record {
  kept : KeepsWord (is_marked l.basic) l.from l.walk;
  before : (k : ℕ) → k < l.from → k < l.goal → (v : Way) → basic_in l.statuses k ≡ true → Misses v (ranges_in l.ends k) (values_in l.values k) → ⊥;
}

abbrev pub decreases-loop-c : goal.decreases-loop-c
decreases-loop-c g l = 2 ^ 32 - l.from
