-- Linear and integer programs: variables and rows between two ends, and a goal (Chvátal, Linear Programming, 1983).
use Rattle.std.specs.Prelude.{ℕ, Bool, false, ◌&&◌, cond, ◌-◌, Option, None, IfSome, List, [], ◌∷◌, length, get_or, nat_eq, nat_lt, pos}
use Rattle.std.specs.List.{All}
use Rattle.rational.specs.Ratio.{Ratio, whole, negative, IsNumber}
use Rattle.evidence.specs.Sums.{none}

-- between a lower and an upper end; where there is none, nothing is asked
pub record Range : Type 0 where
  pub lb : Option Ratio
  pub ub : Option Ratio

-- within a range; where it has a further one, it is 0 or within that too (semi-continuous variables, which are 0 or between two ends)
pub record Variable : Type 0 where
  pub range : Range
  pub whole : Bool
  pub unless_zero : Option Range

-- a coefficient that isn't 0
pub record Entry : Type 0 where
  pub row : ℕ
  pub variable : ℕ
  pub value : Ratio

pub data Sense : Type 0 where
  Minimum : Sense
  Maximum : Sense

pub record Goal : Type 0 where
  pub sense : Sense
  pub constant : Ratio
  pub costs : List Ratio

abbrev pub no_goal : Goal
no_goal = record { sense = Minimum; constant = none; costs = [] }

pub record Instance : Type 0 where
  pub variables : List Variable
  pub rows : List Range
  pub entries : List Entry
  pub goal : Goal

-- an instance, and the goals that are asked after its own, each of the points that are best by those before it (lexicographic optimisation)
pub record Problem : Type 0 where
  pub program : Instance
  pub later : List Goal

-- the instance with no goal but its own
abbrev pub alone : Instance → Problem
alone I = record { program = I; later = [] }

-- all goals, in order
abbrev pub goals : Problem → List Goal
goals P = P.program.goal ∷ P.later

-- the instance with goal k
abbrev pub asking : Problem → ℕ → Instance
asking P k = record P.program { goal = get_or (goals P) k no_goal }

abbrev pub width : Instance → ℕ
width I = length I.variables

abbrev pub height : Instance → ℕ
height I = length I.rows

abbrev pub free : Range
free = record { lb = None; ub = None }

-- a number, as it comes, asks nothing
abbrev pub no_variable : Variable
no_variable = record { range = free; whole = false; unless_zero = None }

abbrev pub variable_at : Instance → ℕ → Variable
variable_at I j = get_or I.variables j no_variable

abbrev pub row_at : Instance → ℕ → Range
row_at I i = get_or I.rows i free

abbrev pub cost_at : Instance → ℕ → Ratio
cost_at I j = get_or I.goal.costs j none

-- the value of the entry at row i and variable j, 0 where there is none
abbrev pub entry_at : List Entry → ℕ → ℕ → Ratio
entry_at [] i j = none
entry_at (e ∷ es) i j = cond (nat_eq e.row i && nat_eq e.variable j) e.value (entry_at es i j)

-- columns are the variables and then the rows, whose activities are further bounded variables (Chvátal, chapter 8)
abbrev pub coefficient_at : Instance → ℕ → ℕ → Ratio
coefficient_at I k j = cond (nat_lt k (width I)) (cond (nat_eq k j) (whole (pos 1)) none) (entry_at I.entries (k - width I) j)

abbrev pub column_at : Instance → ℕ → Range
column_at I k = cond (nat_lt k (width I)) (variable_at I k).range (row_at I (k - width I))

-- a value of the goal, turned so that less is better
abbrev pub minimising_by : Sense → Ratio → Ratio
minimising_by Minimum x = x
minimising_by Maximum x = negative x

abbrev pub minimising : Instance → Ratio → Ratio
minimising I x = minimising_by I.goal.sense x

abbrev pub HasNumbers : Range → Type 0
HasNumbers r = IfSome r.lb IsNumber × IfSome r.ub IsNumber

-- each number has a denominator of at least 1
pub record IsInstance (I : Instance) : Type 0 where
  pub variables : All (λ v. HasNumbers v.range) I.variables
  pub further : All (λ v. IfSome v.unless_zero HasNumbers) I.variables
  pub rows : All HasNumbers I.rows
  pub entries : All (λ e. IsNumber e.value) I.entries
  pub constant : IsNumber I.goal.constant
  pub costs : All IsNumber I.goal.costs

pub record IsGoalOfNumbers (g : Goal) : Type 0 where
  pub constant : IsNumber g.constant
  pub costs : All IsNumber g.costs

pub record IsProblem (P : Problem) : Type 0 where
  pub program : IsInstance P.program
  pub later : All IsGoalOfNumbers P.later
