-- Rows whose ends are cut as those of variables are: a walk has one list of columns, of which those behind the variables are rows.
use Rattle.std.specs.Prelude.{ℕ, IsTrue, Option, List, [], ◌∷◌, map, take, drop}
use Rattle.rational.specs.Ratio.{Ratio, IsSame}
use Rattle.evidence.specs.Sums.{none, IsWhole}
use Rattle.evidence.specs.Instance.{Range, Variable, Instance}
use Rattle.instance.specs.Program.{range}
use Rattle.case_tree.specs.declared.cuts.Cut.{Cut}
use Rattle.case_tree.specs.declared.path.Branch.{Branch}
use Rattle.case_tree.specs.Cuts.{cases}

-- the ends of a column at hand
abbrev pub ends : Cut → Range
ends c = range c.lb c.ub

-- the rows, the first of them with the ends of these columns
abbrev pub over : List Cut → List Range → List Range
over [] rs = rs
over (c ∷ cs) [] = []
over (c ∷ cs) (r ∷ rs) = ends c ∷ over cs rs

abbrev pub with_ends : Instance → List Cut → Instance
with_ends I cs = record I { rows = over cs I.rows }

-- the instance of which the variables behind the first n are rows
abbrev pub parted : ℕ → Instance → Instance
parted n I = record I { variables = take n I.variables; rows = map (λ (v : Variable). v.range) (drop n I.variables) }

-- all that is still to show, of n variables and the rows behind them
abbrev pub open_cases : ℕ → Instance → List Cut → List Branch → Option ℕ → List Instance
open_cases n I cs bs o = map (parted n) (cases I cs bs o)

-- a coefficient of a row whose sum is whole: a whole number, and 0 where the variable isn't whole
abbrev pub MayStand : Cut → Ratio → Type 0
MayStand c x = IsWhole x × ((IsTrue c.var.whole → ⊥) → IsSame x none)
