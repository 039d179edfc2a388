use Rattle.std.proofs.Common.{◌≡◌, ℕ, ◌<◌, ◌^◌, ◌%◌}
use Rattle.decimal_text.proofs.places.has_decimal.Given as goal

abbrev pub invariant-loop-places : goal.invariant-loop-places
invariant-loop-places l = (j : ℕ) → j < l.places → 10 ^ j % l.denom ≡ 0 → ⊥
