-- The program that an instance stands for.
use Rattle.std.specs.Prelude.{Bool, true, false, Option, None, Some, List, map, drop, get_or}
use Rattle.rational.specs.Ratio.{Ratio}
use Rattle.fraction.specs.Frac.{ratio, ratios}
use Rattle.fraction.specs.declared.ends.End.{End}
use Rattle.fraction.specs.declared.ends.End.TheVariants.{NegInf, At, Inf}
use Rattle.fraction.specs.declared.ends.Entry.{Entry}
use Rattle.evidence.specs.Instance as Of
use Rattle.evidence.specs.SemiVariables.{relaxed}
use Rattle.instance.specs.declared.parts.Var.{Var}
use Rattle.instance.specs.declared.parts.Row.{Row}
use Rattle.instance.specs.declared.parts.Goal.{Goal}
use Rattle.instance.specs.declared.parts.Sense.{Sense}
use Rattle.instance.specs.declared.parts.Sense.TheVariants.{Min, Max}
use Rattle.instance.specs.Parts.{Parts}

-- an infinite end asks nothing
abbrev pub limit : End → Option Ratio
limit NegInf = None
limit (At x) = Some (ratio x)
limit Inf = None

-- the range between two ends
abbrev pub range : End → End → Of.Range
range lb ub = record { lb = limit lb; ub = limit ub }

-- the ends that a variable has besides 0, where it may be 0, and those that it has in any case
abbrev pub further_by : Bool → Of.Range → Option Of.Range
further_by true r = Some r
further_by false r = None

abbrev pub range_by : Bool → Of.Range → Of.Range
range_by true r = relaxed r
range_by false r = r

-- each part as the program has it
abbrev pub variable : Var → Of.Variable
variable v = record { range = range_by v.zero (range v.lb v.ub); whole = v.whole; unless_zero = further_by v.zero (range v.lb v.ub) }

abbrev pub row : Row → Of.Range
row r = range r.lb r.ub

abbrev pub entry : Entry → Of.Entry
entry e = record { row = e.row; variable = e.col; value = ratio e.value }

abbrev pub entries : List Entry → List Of.Entry
entries es = map entry es

abbrev pub sense : Sense → Of.Sense
sense Min = Of.Minimum
sense Max = Of.Maximum

abbrev pub goal : Goal → Of.Goal
goal g = record { sense = sense g.sense; constant = ratio g.constant; costs = ratios g.costs }

abbrev pub goals : List Goal → List Of.Goal
goals gs = map goal gs

-- the program of an instance's parts, with their first goal; its columns are the variables and then the rows
abbrev pub program : Parts → Of.Instance
program p = record {
  variables = map variable p.vars;
  rows = map row p.rows;
  entries = entries p.entries;
  goal = get_or (goals p.goals) 0 Of.no_goal;
}

-- the problem of an instance's parts: their program, and the goals after the first
abbrev pub problem : Parts → Of.Problem
problem p = record { program = program p; later = drop 1 (goals p.goals) }
