use Rattle.std.proofs.Common.{ℕ, ◌+◌, ◌-◌, ◌^◌, ◌≤◌}
use Rattle.marks.specs.Walks.{KeepsWord}
use Rattle.dictionary.specs.Rows.{numbers_of, IsRow, either_at}
use Rattle.dictionary.specs.Steps.{nonzeros}
use Rattle.dictionary.proofs.Quotients.{IsDividing}
use Rattle.dictionary.proofs.changing.write_quotients.Given as goal

abbrev pub invariant-loop-c : goal.invariant-loop-c
invariant-loop-c g l = record {
  kept : KeepsWord (either_at l.row l.by) l.from l.walk;
  dividing : IsDividing l.initial.row l.by l.row l.fn.parts.scale l.fn.parts.factor l.divisor.size l.from;
  cost : (k n : ℕ) → IsRow k n l.initial.row → IsRow k n l.by → l.steps ≤ l.initial.steps + (nonzeros l.from (numbers_of l.initial.row) + nonzeros l.from (numbers_of l.by));
  counted : l.initial.steps ≤ l.steps;
}

abbrev pub decreases-loop-c : goal.decreases-loop-c
decreases-loop-c g l = 2 ^ 32 - l.from
