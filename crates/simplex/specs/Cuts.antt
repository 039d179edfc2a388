-- The programs of runs: an instance with other ends of its variables, with rows beside its own, and with one of its goals.
use Rattle.std.specs.Prelude.{◌≡◌, ℕ, ◌+◌, ◌<◌, ◌≤◌, ◌-◌, pos, cond, nat_lt, List, [], length, map, get_or}
use Rattle.std.specs.List.{All}
use Rattle.rational.specs.Ratio.{Ratio}
use Rattle.fraction.specs.declared.ends.End.TheVariants.{NegInf, Inf}
use Rattle.fraction.specs.declared.ends.Entry.{Entry}
use Rattle.evidence.specs.Instance as Of
use Rattle.evidence.specs.Instance.{Range, Instance, free, no_goal, variable_at, row_at, entry_at, column_at}
use Rattle.bases.specs.Dictionary.{Entries}
use Rattle.bases.specs.Program.{goal_column}
use Rattle.instance.specs.declared.parts.Row.{Row}
use Rattle.instance.specs.declared.parts.Var.{Var}
use Rattle.instance.specs.Parts.{Parts, IsAscending}
use Rattle.instance.specs.Program.{range, row, entries, goals}
use Rattle.simplex.specs.declared.cuts.Added.{Added}
use Rattle.simplex.specs.declared.ends.Ends.{Ends}

abbrev pub range_of : Ends → Range
range_of e = range e.lb e.ub

-- the ranges of a list, and past it ranges without ends
abbrev pub ranges_in : List Ends → ℕ → Range
ranges_in es c = get_or (map range_of es) c free

-- what a run is given beside an instance: the ends of its variables, the rows beside its own, and which of its goals is asked
pub record Cutting : Type 0 where
  pub ends : List Ends
  pub rows : List Added
  pub goal : ℕ

abbrev pub no_row : Added
no_row = record { ends = record { lb = NegInf; ub = Inf }; entries = [] }

abbrev pub added_at : List Added → ℕ → Added
added_at rs i = get_or rs i no_row

-- how many columns a run has: those of the variables, and then those of the rows
abbrev pub columns_by : Parts → Cutting → ℕ
columns_by p c = length p.vars + (length p.rows + length c.rows)

-- row i: one of the instance's own, and past them one of those beside
abbrev pub row_range : List Row → List Added → ℕ → Range
row_range own rs i = cond (nat_lt i (length own)) (get_or (map row own) i free) (range_of (added_at rs (i - length own)).ends)

abbrev pub row_entry : Parts → List Added → ℕ → ℕ → Ratio
row_entry p rs i j = cond (nat_lt i (length p.rows)) (entry_at (entries p.entries) i j) (entry_at (entries (added_at rs (i - length p.rows)).entries) i j)

-- row i's entries are of its own row, at ascending columns below n, none 0, and its ends are a lower and an upper one
pub record IsAdded (n i : ℕ) (r : Added) : Type 0 where
  pub rows : All (λ (e : Entry). e.row ≡ i) r.entries
  pub ascending : IsAscending r.entries
  pub inside : All (λ (e : Entry). e.col < n) r.entries
  pub nonzero : All (λ (e : Entry). e.value.numer ≡ pos 0 → ⊥) r.entries
  pub low : r.ends.lb ≡ Inf → ⊥
  pub high : r.ends.ub ≡ NegInf → ⊥

-- a run may be given this of an instance: ends for each variable, rows as they must be, and a goal that it has
pub record Suits (p : Parts) (c : Cutting) : Type 0 where
  pub ends : length c.ends ≡ length p.vars
  pub rows : (i : ℕ) → i < length c.rows → IsAdded (length p.vars) (length p.rows + i) (added_at c.rows i)
  pub goal : c.goal < length p.goals

-- I is the instance's program with these ends in place of its variables' own, with these rows past its own, and with this goal; which of its variables are whole is nothing to a run
pub record IsCutBy (p : Parts) (c : Cutting) (I : Instance) : Type 0 where
  pub width : Of.width I ≡ length c.ends
  pub height : Of.height I ≡ length p.rows + length c.rows
  pub variables : (j : ℕ) → j < length c.ends → (variable_at I j).range ≡ ranges_in c.ends j
  pub rows : (i : ℕ) → i < Of.height I → row_at I i ≡ row_range p.rows c.rows i
  pub entries : (i j : ℕ) → i < Of.height I → j < Of.width I → entry_at I.entries i j ≡ row_entry p c.rows i j
  pub goal : I.goal ≡ get_or (goals p.goals) c.goal no_goal

-- the ends of the columns: the cuts, and then those of the rows
abbrev pub range_at : List Ends → List Row → List Added → ℕ → Range
range_at cs own rs k = cond (nat_lt k (length cs)) (ranges_in cs k) (row_range own rs (k - length cs))

-- the added rows' entries, of which the first stands at row `first`, are those of B, and the other rows are those of A; so many were set so far
pub record AreRowsBeside (A : Entries) (first : ℕ) (rs : List Added) (count : ℕ) (B : Entries) : Type 0 where
  pub before : (i j : ℕ) → i < first → B i j ≡ A i j
  pub set : (k j : ℕ) → k < count → B (first + k) j ≡ entry_at (entries (added_at rs k).entries) (first + k) j
  pub past : (i j : ℕ) → first + count ≤ i → B i j ≡ A i j

-- they are the ends of the program's columns
pub record AreEndsOf (I : Instance) (es : List Ends) : Type 0 where
  pub count : length es ≡ goal_column I
  pub is : (c : ℕ) → column_at I c ≡ ranges_in es c

abbrev pub own_ends : Var → Ends
own_ends v = record { lb = v.lb; ub = v.ub }
