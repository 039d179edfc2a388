use Rattle.std.proofs.Common.{◌≡◌, ◌<◌, ℕ, Some}
use Rattle.fraction.specs.Frac.{ratio, ratios}
use Rattle.fraction.specs.declared.frac.Frac.{Frac}
use Rattle.evidence.specs.Point.{value_at}
use Rattle.cert_checker.specs.Slots.{slot_at}
use Rattle.cert_checker.proofs.added.fill.Given as goal

abbrev pub invariant-loop-j : goal.invariant-loop-j
invariant-loop-j l = (i : ℕ) (x : Frac) → i < l.j → slot_at l.slots i ≡ Some x → value_at (ratios l.numbers) i ≡ ratio x
