-- The numbers that a sum of products goes through.
use Rattle.rational.specs.Ratio.{Ratio}
use Rattle.common_rows.specs.Row.{over}
use Rattle.common_rows.specs.declared.accumulator.Accumulator.{Accumulator}
use Rattle.common_rows.specs.declared.form.Form.{Form}

-- the number of a form
abbrev pub form_of : Form → Ratio
form_of f = over f.numer f.denom

-- the sum so far
abbrev pub sum_of : Accumulator → Ratio
sum_of s = over s.numer s.denom
