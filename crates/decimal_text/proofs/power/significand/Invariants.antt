use Rattle.std.proofs.Common.{ℕ, ◌+◌, ◌≤◌, take}
use Rattle.std.specs.Str.Parse.{digits_value_after}
use Rattle.decimal_text.specs.Parts.{IsSignificand}
use Rattle.decimal_text.proofs.power.significand.Given as goal

abbrev pub invariant-loop-byte : goal.invariant-loop-byte
invariant-loop-byte l = ((v : ℕ) → IsSignificand v l.fn.kept l.fn.zeros → IsSignificand (digits_value_after 10 v (take l.byte-index l.digits)) l.kept l.zeros) × (l.zeros ≤ l.fn.zeros + l.byte-index)
