-- The names of steps.
use Rattle.std.specs.Prelude.{ℕ, List, codes}
use Rattle.certificate.specs.declared.causes.Step.{Step}
use Rattle.certificate.specs.declared.causes.Step.TheVariants as steps

abbrev pub step_text : Step → List ℕ
step_text steps.Values = codes "values"
step_text steps.Ratio = codes "ratio"
step_text steps.Pivot = codes "pivot"
step_text steps.Point = codes "point"
step_text steps.Ray = codes "ray"
step_text steps.Round = codes "round"
step_text steps.Check = codes "check"
