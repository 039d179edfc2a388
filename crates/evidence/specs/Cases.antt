-- Trees of cases over whole variables (Land and Doig, 1960) and over variables that are 0 or within further ends (Beale, 1979), whose leaves have multipliers by which no point is feasible (Farkas, 1902), or none is better than a bound (weak duality; Chvátal, Linear Programming, 1983, chapter 5).
use Rattle.std.specs.Prelude.{◌≡◌, ◌⊎◌, Bool, true, false, nat_lt, ℕ, zero, suc, ◌+◌, ◌<◌, ◌≤◌, ◌-◌, ℤ, pos, negsuc, ◌+ℤ◌, cond, IsTrue, Option, None, Some, IsSome, List, [], ◌∷◌, ◌++◌, length, get_or, neg_ℤ, ◌≤ℤ◌, ◌<ℤ◌, slice_set}
use Rattle.std.specs.List.{All}
use Rattle.rational.specs.Ratio.{Ratio, whole, sum, product, negative, quotient, IsSame, IsBelow, IsNumber, IsAtMost}
use Rattle.rational.specs.Width.{most}
use Rattle.evidence.specs.Sums.{none, is_below, total, IsWhole, IsCeiling, IsMultiple}
use Rattle.evidence.specs.Instance.{Range, free, Instance, width, height, variable_at, row_at, entry_at, coefficient_at, column_at, cost_at, minimising}

-- a factor of one column: of a variable, or of a row's activity
pub record Multiplier : Type 0 where
  pub column : ℕ
  pub by : Ratio

-- a leaf, of one of seven kinds, or two cases: of a column, or of a variable that may be 0
pub data Tree : Type 0 where
  Clash : ℕ → Tree
  Farkas : List Multiplier → Tree
  Bound : List Multiplier → Tree
  Grid : Ratio → List Multiplier → Tree
  FarkasRows : List Multiplier → Tree
  BoundRows : List Multiplier → Tree
  GridRows : Ratio → List Multiplier → Tree
  Split : ℕ → ℤ → Tree → Tree → Tree
  Zero : ℕ → Tree → Tree → Tree

abbrev pub multiplier_at : List Multiplier → ℕ → Multiplier
multiplier_at ms k = get_or ms k (record { column = 0; by = none })

-- the end on the side of a sign
abbrev pub end_by : ℤ → Range → Option Ratio
end_by (pos n) r = r.lb
end_by (negsuc n) r = r.ub

-- the end that a multiplier bounds its column by: the lower one where it is positive, the upper one where it is negative
abbrev pub end_of : Instance → Multiplier → Option Ratio
end_of I m = end_by m.by.num (column_at I m.column)

-- multipliers by ascending columns, none 0, each with a finite end on its side: their sum of columns is then at least that of the ends
pub record AreLegal (I : Instance) (ms : List Multiplier) : Type 0 where
  pub numbers : All (λ m. IsNumber m.by) ms
  pub columns : All (λ m. m.column < width I + height I) ms
  pub ascending : (k : ℕ) → k + 1 < length ms → (multiplier_at ms k).column < (multiplier_at ms (k + 1)).column
  pub nonzero : All (λ m. m.by.num ≡ pos 0 → ⊥) ms
  pub ends : All (λ m. IsSome (end_of I m)) ms

-- at variable j: the sum of the multipliers, each times its column's coefficient
abbrev pub form : Instance → List Multiplier → ℕ → Ratio
form I ms j = total none (length ms) (λ k. product (multiplier_at ms k).by (coefficient_at I (multiplier_at ms k).column j))

-- the number, or 0 where there is none
abbrev pub or_none : Option Ratio → Ratio
or_none None = none
or_none (Some x) = x

-- a start, and the multipliers, each times its end
abbrev pub low_sum : Instance → Ratio → List Multiplier → Ratio
low_sum I start ms = total start (length ms) (λ k. product (multiplier_at ms k).by (or_none (end_of I (multiplier_at ms k))))

-- its lower end is above its upper one
abbrev pub IsEmpty : Range → Type 0
IsEmpty r = (l u : Ratio) × (r.lb ≡ Some l) × (r.ub ≡ Some u) × IsBelow u l

-- no point is feasible: the sum of its columns would be 0, and above 0 (Farkas)
pub record IsFarkas (I : Instance) (ms : List Multiplier) : Type 0 where
  pub legal : AreLegal I ms
  pub vanishes : (j : ℕ) → j < width I → IsSame (form I ms j) none
  pub above : IsBelow none (low_sum I none ms)

-- no point's minimising objective is below z: it is the sum of its columns, which is at least z (weak duality)
pub record IsBound (I : Instance) (ms : List Multiplier) (z : Ratio) : Type 0 where
  pub legal : AreLegal I ms
  pub costs : (j : ℕ) → j < width I → IsSame (form I ms j) (minimising I (cost_at I j))
  pub reaches : IsAtMost z (low_sum I (minimising I I.goal.constant) ms)

-- the goal goes in steps of g: each cost of a whole variable is a whole multiple of it, and the others are 0; so bounds may be rounded (Wolsey, Integer Programming, 1998, chapter 7)
pub record HasStep (I : Instance) (g : Ratio) : Type 0 where
  pub number : IsNumber g
  pub above : IsBelow none g
  pub multiples : (j : ℕ) → j < width I → IsTrue (variable_at I j).whole → IsMultiple g (minimising I (cost_at I j))
  pub others : (j : ℕ) → j < width I → (IsTrue (variable_at I j).whole → ⊥) → IsSame (minimising I (cost_at I j)) none

-- no point's minimising objective is below z: it is the constant and a whole multiple of g, and the sum of its columns is at least z once it is rounded up to the next such number
pub record IsGrid (I : Instance) (g : Ratio) (ms : List Multiplier) (z : Ratio) : Type 0 where
  pub legal : AreLegal I ms
  pub costs : (j : ℕ) → j < width I → IsSame (form I ms j) (minimising I (cost_at I j))
  pub step : HasStep I g
  pub steps : ℤ
  pub rounded : IsCeiling (quotient (low_sum I none ms) g) steps
  pub reaches : IsAtMost z (sum (minimising I I.goal.constant) (product (whole steps) g))

-- what is left of t at variable j: the multiplier of j by which the form there is t. Of costs, what rows leave is a reduced cost (Chvátal, chapter 5)
abbrev pub left_at : Instance → (ℕ → Ratio) → List Multiplier → ℕ → Ratio
left_at I t ms j = sum (t j) (negative (form I ms j))

abbrev pub is_zero : ℤ → Bool
is_zero (pos zero) = true
is_zero (pos (suc n)) = false
is_zero (negsuc n) = false

-- one more multiplier before the others, if it isn't 0
abbrev pub put_before : Multiplier → List Multiplier → List Multiplier
put_before m ms = cond (is_zero m.by.num) ms (m ∷ ms)

-- what is left at each variable below n, before the rest
abbrev pub filled : Instance → (ℕ → Ratio) → List Multiplier → ℕ → List Multiplier → List Multiplier
filled I t ms zero rest = rest
filled I t ms (suc n) rest = filled I t ms n (put_before (record { column = n; by = left_at I t ms n }) rest)

-- multipliers of rows, and those of variables by which the form is t
abbrev pub completed : Instance → (ℕ → Ratio) → List Multiplier → List Multiplier
completed I t ms = filled I t ms (width I) ms

-- the forms of Farkas, and those of a bound
abbrev pub no_costs : ℕ → Ratio
no_costs j = none

abbrev pub goal_costs : Instance → ℕ → Ratio
goal_costs I j = minimising I (cost_at I j)

abbrev pub AreOfRows : Instance → List Multiplier → Type 0
AreOfRows I ms = All (λ m. width I ≤ m.column) ms

-- what is left of multipliers once those of variables are left out, which stand first
abbrev pub rows_from : ℕ → List Multiplier → List Multiplier
rows_from n [] = []
rows_from n (m ∷ ms) = cond (nat_lt m.column n) (rows_from n ms) (m ∷ ms)

abbrev pub rows_of : Instance → List Multiplier → List Multiplier
rows_of I ms = rows_from (width I) ms

-- the upper end is the lesser of itself and k
abbrev pub lesser_end : Option Ratio → Ratio → Option Ratio
lesser_end None k = Some k
lesser_end (Some u) k = cond (is_below k u) (Some k) (Some u)

-- the lower end is the greater of itself and k
abbrev pub greater_end : Option Ratio → Ratio → Option Ratio
greater_end None k = Some k
greater_end (Some l) k = cond (is_below l k) (Some k) (Some l)

-- the greater of two lower ends, the lesser of two upper ones; where there is none, nothing is asked
abbrev pub either_low : Option Ratio → Option Ratio → Option Ratio
either_low o None = o
either_low o (Some l) = greater_end o l

abbrev pub either_high : Option Ratio → Option Ratio → Option Ratio
either_high o None = o
either_high o (Some u) = lesser_end o u

-- the instance with another range for variable j
abbrev pub with_range : Instance → ℕ → Range → Instance
with_range I j r = record I { variables = slice_set I.variables j (record (variable_at I j) { range = r }) }

-- variable j is at most k
abbrev pub at_most : Instance → ℕ → ℤ → Instance
at_most I j k = let r = (variable_at I j).range in with_range I j (record r { ub = lesser_end r.ub (whole k) })

-- variable j is at least k
abbrev pub at_least : Instance → ℕ → ℤ → Instance
at_least I j k = let r = (variable_at I j).range in with_range I j (record r { lb = greater_end r.lb (whole k) })

abbrev pub or_free : Option Range → Range
or_free None = free
or_free (Some r) = r

-- the greater of both lower ends, and the lesser of both upper ones
abbrev pub both : Range → Range → Range
both r s = record { lb = either_low r.lb s.lb; ub = either_high r.ub s.ub }

-- variable j is 0
abbrev pub at_zero : Instance → ℕ → Instance
at_zero I j = let r = (variable_at I j).range in with_range I j (both r (record { lb = Some none; ub = Some none }))

-- variable j is within its further ends
abbrev pub unless_zero : Instance → ℕ → Instance
unless_zero I j = let v = variable_at I j in with_range I j (both v.range (or_free v.unless_zero))

-- variable j is 0 or within its further ends
pub record IsZeroBranch (I : Instance) (j : ℕ) : Type 0 where
  pub variable : j < width I
  pub further : IsSome (variable_at I j).unless_zero

-- variable j is whole, so that each of its values is at most k or at least k + 1, and both numbers fit
pub record IsBranch (I : Instance) (j : ℕ) (k : ℤ) : Type 0 where
  pub variable : j < width I
  pub whole : IsTrue (variable_at I j).whole
  pub low : neg_ℤ (pos most) ≤ℤ k
  pub high : k <ℤ pos most

-- the instance with another range for row i
abbrev pub with_row_range : Instance → ℕ → Range → Instance
with_row_range I i r = record I { rows = slice_set I.rows i r }

-- row i is at most k
abbrev pub row_at_most : Instance → ℕ → ℤ → Instance
row_at_most I i k = let r = row_at I i in with_row_range I i (record r { ub = lesser_end r.ub (whole k) })

-- row i is at least k
abbrev pub row_at_least : Instance → ℕ → ℤ → Instance
row_at_least I i k = let r = row_at I i in with_row_range I i (record r { lb = greater_end r.lb (whole k) })

-- column c, a variable or a row, is at most k
abbrev pub low_case : Instance → ℕ → ℤ → Instance
low_case I c k = cond (nat_lt c (width I)) (at_most I c k) (row_at_most I (c - width I) k)

-- column c is at least k
abbrev pub high_case : Instance → ℕ → ℤ → Instance
high_case I c k = cond (nat_lt c (width I)) (at_least I c k) (row_at_least I (c - width I) k)

-- row i's sum is whole at each feasible point: its entries are whole at whole variables, and 0 at the others
pub record IsWholeRow (I : Instance) (i : ℕ) : Type 0 where
  pub entries : (j : ℕ) → j < width I → IsTrue (variable_at I j).whole → IsWhole (entry_at I.entries i j)
  pub others : (j : ℕ) → j < width I → (IsTrue (variable_at I j).whole → ⊥) → IsSame (entry_at I.entries i j) none

-- column c is a row whose sum is whole, so that each of its values is at most k or at least k + 1 (constraint branching: Ryan and Foster, 1981; general disjunctions: Owen and Mehrotra, 2001), and both numbers fit
pub record IsRowBranch (I : Instance) (c : ℕ) (k : ℤ) : Type 0 where
  pub past : width I ≤ c
  pub inside : c < width I + height I
  pub whole : IsWholeRow I (c - width I)
  pub low : neg_ℤ (pos most) ≤ℤ k
  pub high : k <ℤ pos most

-- a branch over a whole variable, or over a row that is whole
abbrev pub IsSplit : Instance → ℕ → ℤ → Type 0
IsSplit I c k = IsBranch I c k ⊎ IsRowBranch I c k

-- the tree shows that no feasible point's minimising objective is below z; without z, that no point is feasible
abbrev pub Shows : Instance → Tree → Option Ratio → Type 0
Shows I (Clash c) z = (c < width I + height I) × IsEmpty (column_at I c)
Shows I (Farkas ms) z = IsFarkas I ms
Shows I (Bound ms) None = ⊥
Shows I (Bound ms) (Some z) = IsBound I ms z
Shows I (Grid g ms) None = ⊥
Shows I (Grid g ms) (Some z) = IsGrid I g ms z
Shows I (FarkasRows ms) z = AreOfRows I ms × IsFarkas I (completed I no_costs ms)
Shows I (BoundRows ms) None = ⊥
Shows I (BoundRows ms) (Some z) = AreOfRows I ms × IsBound I (completed I (goal_costs I) ms) z
Shows I (GridRows g ms) None = ⊥
Shows I (GridRows g ms) (Some z) = AreOfRows I ms × IsGrid I g (completed I (goal_costs I) ms) z
Shows I (Split c k a b) z = IsSplit I c k × Shows (low_case I c k) a z × Shows (high_case I c (k +ℤ pos 1)) b z
Shows I (Zero j a b) z = IsZeroBranch I j × Shows (at_zero I j) a z × Shows (unless_zero I j) b z

-- a node of a tree, as texts have it
pub data Node : Type 0 where
  ClashAt : ℕ → Node
  FarkasBy : List Multiplier → Node
  BoundBy : List Multiplier → Node
  GridBy : Ratio → List Multiplier → Node
  FarkasByRows : List Multiplier → Node
  BoundByRows : List Multiplier → Node
  GridByRows : Ratio → List Multiplier → Node
  SplitAt : ℕ → ℤ → Node
  ZeroAt : ℕ → Node

-- a node, then the nodes of its first case, then those of its second
abbrev pub preorder : Tree → List Node
preorder (Clash c) = ClashAt c ∷ []
preorder (Farkas ms) = FarkasBy ms ∷ []
preorder (Bound ms) = BoundBy ms ∷ []
preorder (Grid g ms) = GridBy g ms ∷ []
preorder (FarkasRows ms) = FarkasByRows ms ∷ []
preorder (BoundRows ms) = BoundByRows ms ∷ []
preorder (GridRows g ms) = GridByRows g ms ∷ []
preorder (Split j k a b) = SplitAt j k ∷ (preorder a ++ preorder b)
preorder (Zero j a b) = ZeroAt j ∷ (preorder a ++ preorder b)
