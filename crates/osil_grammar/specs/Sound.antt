-- What is so of each state that marks leave, whatever marks they are.
use Rattle.std.specs.Prelude.{◌≡◌, ℕ, ◌+◌, ◌<◌, ◌≤◌, cond, List, [], length}
use Rattle.std.specs.List.{All}
use Rattle.instance.specs.declared.parts.Var.{Var}
use Rattle.instance.specs.declared.parts.Row.{Row}
use Rattle.instance.specs.declared.parts.Goal.{Goal}
use Rattle.fraction.specs.declared.ends.Entry.{Entry}
use Rattle.instance.specs.Limits.{most_vars, most_rows, most_entries}
use Rattle.instance.specs.Parts.{AreEnds, IsAscending, IsInside}
use Rattle.osil_grammar.specs.declared.elements.Place.{Place}
use Rattle.osil_grammar.specs.declared.elements.Place.TheVariants as places
use Rattle.osil_grammar.specs.declared.elements.Place.TheVariants.{Obj, Coef, El}
use Rattle.osil_grammar.specs.ParseState.{State}
use Rattle.osil_grammar.specs.Table.{part_row}
use Rattle.osil_grammar.specs.Failing.{most, most_lines, list_length}
use Rattle.osil_grammar.specs.VarTags.{IsVar}

-- the variables and the rows of an instance
pub record AreItems (vars : List Var) (rows : List Row) : Type 0 where
  pub few_vars : length vars ≤ most_vars
  pub few_rows : length rows ≤ most_rows
  pub var_ends : All IsVar vars
  pub row_ends : All (λ r. AreEnds r.lb r.ub) rows

-- entries in order, all in a matrix of so many rows and columns, and none 0
pub record AreWithin (rows cols : ℕ) (es : List Entry) : Type 0 where
  pub few : length es ≤ most_entries
  pub ascending : IsAscending es
  pub inside : All (IsInside rows cols) es

-- each index is that of a row, where columns are stored, or else of a variable
abbrev pub AreBelow : State → List ℕ → Type 0
AreBelow s indices = All (λ n. n < cond s.by_columns (length s.rows) (length s.vars)) indices

-- what is said so far makes an instance as far as it goes: the items, the lists of the matrix, and its entries
abbrev pub IsSoundSoFar : State → Type 0
IsSoundSoFar s = AreItems s.vars s.rows × (length s.starts ≤ most_lines + 1) × (length s.indices ≤ most_entries) × AreBelow s s.indices × (length s.values ≤ most_entries) × AreWithin (length s.rows) (length s.vars) s.entries

-- the variable of a `coef` that is open is one of those; an `el` that is open stands for some numbers, for which its list has room
abbrev pub IsSoundAt : Place → State → Type 0
IsSoundAt Coef s = s.variable < length s.vars
IsSoundAt (El l) s = (0 < s.times) × (list_length s l + s.times ≤ most (El l))
IsSoundAt p s = Unit {0}

-- a sound state in such an element
abbrev pub IsSoundIn : Place → State → Type 0
IsSoundIn p s = IsSoundSoFar s × IsSoundAt p s

abbrev pub IsSound : State → Type 0
IsSound s = IsSoundIn s.place s

-- THE GOALS, each with a cost for each of so many variables
pub record AreGoals (n : ℕ) (gs : List Goal) : Type 0 where
  pub few : length gs ≤ most Obj
  pub one_each : All (λ g. length g.costs ≡ n) gs

-- none is said before the objectives, so that no variable comes behind one
abbrev pub AreGoalsLate : State → Type 0
AreGoalsLate s = s.part < 2 → s.goals ≡ []

-- the part that an element is or stands in, by its place in their order; 0 where it is none and stands in none
abbrev pub part_in : Place → ℕ
part_in (places.Part part) = part_row part
part_in places.Var = 1
part_in places.Obj = 2
part_in places.Coef = 2
part_in places.Con = 3
part_in (places.Listed l) = 4
part_in (places.El l) = 4
part_in p = 0

-- it is the latest one
abbrev pub IsInPart : Place → ℕ → Type 0
IsInPart p n = 0 < part_in p → n ≡ part_in p

-- an `obj` that is open has a cost for each variable, and the goals have room for those that it stands for
abbrev pub IsGoalOpen : State → Type 0
IsGoalOpen s = (length s.costs ≡ length s.vars) × (length s.goals + s.times ≤ most Obj)

-- elsewhere no costs are held but those of the goals
abbrev pub AreCostsAt : Place → State → Type 0
AreCostsAt Obj s = IsGoalOpen s
AreCostsAt Coef s = IsGoalOpen s
AreCostsAt p s = s.costs ≡ []

-- they are those of an instance as far as it goes, in such an element
abbrev pub HasGoalsIn : Place → State → Type 0
HasGoalsIn p s = AreGoals (length s.vars) s.goals × AreGoalsLate s × IsInPart p s.part × AreCostsAt p s

abbrev pub HasGoals : State → Type 0
HasGoals s = HasGoalsIn s.place s
