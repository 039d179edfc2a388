use Rattle.std.proofs.Common.{◌≡◌, ℕ, ◌<◌, ◌-◌, ◌^◌, true, false, pos}
use Rattle.std.specs.Prelude.{slice_index_or}
use Rattle.marks.specs.Marks.{is_marked}
use Rattle.marks.specs.Walks.{KeepsWord}
use Rattle.dictionary.proofs.row.clear_numbers.Given as goal

abbrev pub invariant-loop-col : goal.invariant-loop-col
invariant-loop-col l = record {
  kept : KeepsWord (is_marked l.marks) l.from l.walk;
  zeros : (c : ℕ) → c < l.from → is_marked l.marks c ≡ true → slice_index_or l.numers c (pos 0) ≡ pos 0;
  others : (c : ℕ) → is_marked l.marks c ≡ false → slice_index_or l.numers c (pos 0) ≡ slice_index_or l.initial.numers c (pos 0);
}

abbrev pub decreases-loop-col : goal.decreases-loop-col
decreases-loop-col l = 2 ^ 32 - l.from
