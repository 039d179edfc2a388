use Rattle.std.proofs.Common.{◌≡◌, ℕ, ◌<◌, ◌-◌, ◌^◌, pos, ◌<ℤ◌, true}
use Rattle.std.specs.Prelude.{unsigned_abs}
use Rattle.std.specs.Int.{◌∣◌}
use Rattle.fraction.specs.Frac.{ratios}
use Rattle.evidence.specs.Point.{value_at}
use Rattle.marks.specs.Walks.{KeepsWord}
use Rattle.marks.specs.Marks.{is_marked}
use Rattle.dictionary.specs.Scratch.{AreDivided}
use Rattle.dictionary.proofs.settling.joined_denom.Given as goal

abbrev pub invariant-loop-c : goal.invariant-loop-c
invariant-loop-c l = record {
  kept : KeepsWord (is_marked l.scratch.found) l.from l.walk;
  above : pos 0 <ℤ l.all;
  divided : (c : ℕ) → c < l.from → is_marked l.scratch.found c ≡ true → (value_at (ratios l.scratch.values.items) c).den ∣ unsigned_abs l.all;
  least : (m : ℕ) → AreDivided l.scratch m → unsigned_abs l.all ∣ m;
}

abbrev pub decreases-loop-c : goal.decreases-loop-c
decreases-loop-c l = 2 ^ 32 - l.from
