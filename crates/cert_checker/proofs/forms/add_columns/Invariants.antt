use Rattle.std.proofs.Common.{◌<◌, ℕ, length}
use Rattle.certificate.specs.Meanings.{multipliers}
use Rattle.case_tree.specs.Cuts.{cut}
use Rattle.cert_checker.specs.Slots.{slot_at, HoldsSum}
use Rattle.cert_checker.proofs.forms.add_columns.Given as goal

abbrev pub invariant-loop-k : goal.invariant-loop-k
invariant-loop-k l = (j : ℕ) → j < length l.cuts → HoldsSum (cut l.program l.cuts) (multipliers l.mults) j l.k (slot_at l.slots j)
