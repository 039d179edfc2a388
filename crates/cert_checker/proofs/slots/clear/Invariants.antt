use Rattle.std.proofs.Common.{◌≡◌, ◌<◌, ℕ, Some}
use Rattle.fraction.specs.Frac.{ratio}
use Rattle.fraction.specs.declared.frac.Frac.{Frac}
use Rattle.evidence.specs.Sums.{none}
use Rattle.cert_checker.specs.Slots.{slot_at}
use Rattle.cert_checker.proofs.slots.clear.Given as goal

abbrev pub invariant-loop-j : goal.invariant-loop-j
invariant-loop-j l = (j : ℕ) → j < l.j → (f : Frac) × (slot_at l.slots j ≡ Some f) × (ratio f ≡ none)
