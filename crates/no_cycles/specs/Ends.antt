-- Programs in whose variables' ends no number is too great.
use Rattle.std.specs.Prelude.{ℕ, ◌<◌, IfSome}
use Rattle.rational.specs.Width.{IsWithin}
use Rattle.evidence.specs.Instance.{Range, Variable, Instance, width, variable_at}

-- the ends, where there are any, are within the greatest size
abbrev pub IsRangeWithin : Range → Type 0
IsRangeWithin r = IfSome r.lb IsWithin × IfSome r.ub IsWithin

-- and so are those of a variable that may be 0 besides
abbrev pub IsVariableWithin : Variable → Type 0
IsVariableWithin v = IsRangeWithin v.range × IfSome v.unless_zero IsRangeWithin

abbrev pub HasEndsWithin : Instance → Type 0
HasEndsWithin I = (j : ℕ) → j < width I → IsVariableWithin (variable_at I j)
