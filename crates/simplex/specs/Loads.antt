-- With which factor of the costs a dictionary is loaded, and where the sum of a bound starts.
use Rattle.std.specs.Prelude.{◌≡◌, Bool, true, false, ℤ, pos, negsuc, Option, None, Some}
use Rattle.rational.specs.Ratio.{Ratio}
use Rattle.fraction.specs.Frac.{ratio}
use Rattle.fraction.specs.declared.frac.Frac.{Frac}
use Rattle.instance.specs.declared.parts.Sense.{Sense}
use Rattle.instance.specs.declared.parts.Sense.TheVariants.{Min, Max}

-- 0 under the goal zero, else the sign that makes less better
abbrev pub factor_of : Bool → Sense → ℤ
factor_of true s = pos 0
factor_of false Min = pos 1
factor_of false Max = negsuc 0

-- the start of the bound: none under the goal zero, and else this number
abbrev pub IsStart : Bool → Ratio → Option Frac → Type 0
IsStart zeroed x None = zeroed ≡ true
IsStart zeroed x (Some s) = (zeroed ≡ false) × (ratio s ≡ x)
