-- The values that a search may begin with.
use Rattle.std.specs.Prelude.{Option, None, Some}
use Rattle.rational.specs.Ratio.{Ratio}
use Rattle.fraction.specs.Frac.{ratio}
use Rattle.fraction.specs.declared.frac.Frac.{Frac}

-- what is given for a variable
abbrev pub given_ratio : Option Frac → Option Ratio
given_ratio None = None
given_ratio (Some x) = Some (ratio x)
