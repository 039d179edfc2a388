use Rattle.std.proofs.Common.{◌≡◌, ◌-◌, ◌^◌, pos, true, false, length}
use Rattle.std.specs.Prelude.{unsigned_abs, slice_index_or}
use Rattle.evidence.specs.Sums.{none}
use Rattle.marks.specs.Walks.{KeepsWord}
use Rattle.dictionary.specs.Lowest.{lowest}
use Rattle.dictionary.specs.Rows.{changes}
use Rattle.dictionary.proofs.FilledColumns.{IsFilled}
use Rattle.dictionary.proofs.changing.reduce_sums.Given as goal

abbrev pub invariant-loop-c : goal.invariant-loop-c
invariant-loop-c l = record {
  kept : KeepsWord (changes l.marks l.by false) l.from l.walk;
  filled : IsFilled l.scratch (changes l.marks l.by false) (λ c x. (changes l.marks l.by false c ≡ true → x ≡ lowest (slice_index_or l.fn.scratch.sums.items c (pos 0)) (unsigned_abs l.fn.denom)) × (changes l.marks l.by false c ≡ false → x ≡ none)) l.from;
  count : length l.scratch.values.items ≡ length l.fn.scratch.values.items;
  sums : l.scratch.sums.items ≡ l.fn.scratch.sums.items;
}

abbrev pub decreases-loop-c : goal.decreases-loop-c
decreases-loop-c l = 2 ^ 32 - l.from
