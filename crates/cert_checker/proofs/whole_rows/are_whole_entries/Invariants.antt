use Rattle.std.proofs.Common.{ℕ, ◌<◌, slice_index_or}
use Rattle.fraction.specs.Frac.{ratio}
use Rattle.fraction.specs.declared.ends.Entry.{Entry}
use Rattle.case_tree.specs.Cuts.{cut_at}
use Rattle.cert_checker.specs.Columns.{MayStand}
use Rattle.cert_checker.proofs.whole_rows.are_whole_entries.Given as goal

abbrev pub invariant-loop-k : goal.invariant-loop-k
invariant-loop-k l = (s : ℕ) (d : Entry) → s < l.k → MayStand (cut_at l.cuts (slice_index_or l.row s d).col) (ratio (slice_index_or l.row s d).value)
