use Rattle.std.proofs.Common.{◌≡◌, true, length}
use Rattle.fraction.specs.Frac.{ratios}
use Rattle.evidence.specs.Point.{value_at}
use Rattle.dictionary.specs.ProgramRows.{times_sign}
use Rattle.dictionary.proofs.FilledColumns.{IsFilled}
use Rattle.dictionary.proofs.loading.gather_costs.Given as goal

abbrev pub invariant-loop-j : goal.invariant-loop-j
invariant-loop-j l = record {
  count : length l.scratch.values.items ≡ length l.fn.scratch.values.items;
  filled : IsFilled l.scratch (λ c. true) (λ c x. x ≡ times_sign l.factor (value_at (ratios l.costs) c)) l.j;
}
