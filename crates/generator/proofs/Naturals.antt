-- Whole numbers as fractions.
use Rattle.std.proofs.Common.{◌≡◌, ℕ, ◌≤◌, pos}
use Rattle.rational.specs.Ratio.{whole}
use Rattle.rational.specs.Width.{most}
use Rattle.fraction.specs.declared.frac.Frac.{Frac}
use Rattle.fraction.specs.Frac.{ratio}
use Rattle.fraction.proofs.Equality.{one_fraction}
use Rattle.generator.specs.Instances.{natural}

pub is_natural : (x : Frac) (k : ℕ) (fits : k ≤ most) → ratio x ≡ whole (pos k) → x ≡ natural k fits
is_natural x k fits same = one_fraction x (natural k fits) same
