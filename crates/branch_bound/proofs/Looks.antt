-- Answers of looks that went on.
use Rattle.std.proofs.Common.{◌≡◌, ℕ, zero, suc, refl}
use Rattle.os_io.specs.Looks.{stops_of}
use Rattle.simplex_rules.specs.Looks.{went_on}

pub no_stops : (n : ℕ) → stops_of (went_on n) ≡ 0
no_stops zero = refl
no_stops (suc n) = no_stops n
