use Rattle.std.proofs.Common.{◌≡◌, ℕ, ◌+◌, ◌<◌, take}
use Rattle.evidence.specs.Instance.{row_at}
use Rattle.case_tree.specs.Cuts.{cut_at}
use Rattle.cert_checker.specs.Columns.{ends}
use Rattle.cert_checker.proofs.walk.uncut_rows.Given as goal

abbrev pub invariant-loop-i : goal.invariant-loop-i
invariant-loop-i l = record {
  variables : take l.n l.cuts ≡ take l.n l.initial.cuts;
  rows : (i : ℕ) → i < l.i → ends (cut_at l.cuts (l.n + i)) ≡ row_at l.program i;
}
