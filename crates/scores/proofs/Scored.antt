-- Scores that are cut.
use Rattle.std.proofs.Common.{◌≡◌, ◌^◌, ◌<◌, ◌≤◌}
use Rattle.scores.specs.declared.score.Score.{Score}
use Rattle.scores.specs.Scores.{IsCut}
use Rattle.scores.specs.Scores.IsCut.{zero_so, digits_so}

-- one that isn't 0 has 31 digits
pub digits_of : (s : Score) → IsCut s → (s.digits ≡ 0 → ⊥) → (2 ^ 30 ≤ s.digits) × (s.digits < 2 ^ 31)
digits_of s c some = elim c [ zero_so none flat ↦ absurd (some none) | digits_so many few ↦ (many, few) ]
