use Rattle.std.proofs.Common.{◌≡◌, ℕ, ◌<◌, ◌-◌, ◌^◌, true}
use Rattle.std.specs.Prelude.{unsigned_abs}
use Rattle.fraction.specs.Frac.{ratios}
use Rattle.evidence.specs.Point.{value_at}
use Rattle.marks.specs.Marks.{is_marked}
use Rattle.marks.specs.Walks.{KeepsWord}
use Rattle.dictionary.specs.Numbers.{IsOver}
use Rattle.dictionary.proofs.settling.common_denom.Given as goal

abbrev pub invariant-loop-c : goal.invariant-loop-c
invariant-loop-c l = record {
  kept : KeepsWord (is_marked l.scratch.found) l.from l.walk;
  over : (c : ℕ) → c < l.from → is_marked l.scratch.found c ≡ true → IsOver (unsigned_abs l.denom) (value_at (ratios l.scratch.values.items) c);
}

abbrev pub decreases-loop-c : goal.decreases-loop-c
decreases-loop-c l = 2 ^ 32 - l.from
