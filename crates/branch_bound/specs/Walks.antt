-- The cases of a search that a walk through them stands before.
use Rattle.std.specs.Prelude.{◌≡◌, ℕ, zero, suc, ◌+◌, ◌≤◌, Bool, false, cond, nat_lt, Option, None, Some, IfSome, List, [], ◌∷◌, ◌++◌, length}
use Rattle.rational.specs.Ratio.{Ratio}
use Rattle.fraction.specs.Frac.{ratios}
use Rattle.evidence.specs.Instance.{Instance}
use Rattle.evidence.specs.Cases.{Node, SplitAt, ZeroAt}
use Rattle.certificate.specs.Meanings as Means
use Rattle.case_tree.specs.declared.cuts.Cut.{Cut}
use Rattle.case_tree.specs.declared.cuts.Division.{Division}
use Rattle.case_tree.specs.declared.cuts.Division.TheVariants.{Split, Zero}
use Rattle.case_tree.specs.declared.path.Branch.{Branch}
use Rattle.case_tree.specs.Cuts.{cut, pending, pending_places, branch_at, AreBranches}
use Rattle.search_rules.specs.Branching.{Case, split_cases, divided_cases}
use Rattle.search_rules.specs.Search.{Found}
use Rattle.branch_bound.specs.declared.found.Found as Best
use Rattle.branch_bound.specs.declared.walk.RayAt.{RayAt}
use Rattle.branch_bound.specs.declared.walk.Walk.{Walk}

abbrev pub found : Best.Found → Found
found f = record { point = ratios f.point; values = ratios f.values }

abbrev pub best : Option Best.Found → Option Found
best None = None
best (Some f) = Some (found f)

-- the columns that the first d branches divided into 0 and further ends, the last first
abbrev pub with_zero : Division → ℕ → List ℕ → List ℕ
with_zero (Split k) j js = js
with_zero Zero j js = j ∷ js

abbrev pub divided : List Branch → ℕ → List ℕ
divided bs zero = []
divided bs (suc d) = with_zero (branch_at bs d).by (branch_at bs d).col (divided bs d)

-- the ray of the case at hand
abbrev pub ray : Option RayAt → Option (List Ratio)
ray None = None
ray (Some r) = Some (ratios r.ray)

-- that of the second case of the branch at place e: none where the branch is above the case whose direction gave it
abbrev pub ray_at : Option RayAt → ℕ → Option (List Ratio)
ray_at None e = None
ray_at (Some r) e = cond (nat_lt e r.depth) None (Some (ratios r.ray))

-- the next case has it, with so many branches above
abbrev pub keeps_ray : Option RayAt → Option ℕ → Bool
keeps_ray None next = false
keeps_ray (Some r) None = false
keeps_ray (Some r) (Some d) = nat_lt r.depth d

-- the second cases of the branches at these places
abbrev pub second_cases : List Branch → Option RayAt → List Instance → List ℕ → List Case
second_cases bs r [] es = []
second_cases bs r (J ∷ Js) [] = []
second_cases bs r (J ∷ Js) (e ∷ es) = record { program = J; divided = divided bs (e + 1); ray = ray_at r e } ∷ second_cases bs r Js es

-- with these variables and branches, of which d are above: the case at hand, and the cases after it
abbrev pub case_by : Instance → List Cut → List Branch → Option RayAt → ℕ → Case
case_by I cs bs r d = record { program = cut I cs; divided = divided bs d; ray = ray r }

abbrev pub rest_by : Instance → List Cut → List Branch → Option RayAt → ℕ → List Case
rest_by I cs bs r d = second_cases bs r (pending I cs bs d) (pending_places bs d)

-- and all of them, where there is a next one
abbrev pub waiting_by : Instance → List Cut → List Branch → Option RayAt → Option ℕ → List Case
waiting_by I cs bs r None = []
waiting_by I cs bs r (Some d) = case_by I cs bs r d ∷ rest_by I cs bs r d

-- those of a walk
abbrev pub case : Instance → Walk → ℕ → Case
case I w d = case_by I w.cuts.items w.branches.items w.ray d

abbrev pub rest : Instance → Walk → ℕ → List Case
rest I w d = rest_by I w.cuts.items w.branches.items w.ray d

abbrev pub waiting : Instance → Walk → Option ℕ → List Case
waiting I w o = waiting_by I w.cuts.items w.branches.items w.ray o

-- the node of a division, and the two cases that come in place of one
abbrev pub node_by : Division → ℕ → Node
node_by (Split k) j = SplitAt j k
node_by Zero j = ZeroAt j

abbrev pub divided_cases_by : Division → Case → ℕ → List Case → List Case
divided_cases_by (Split k) C j rest = split_cases C j k rest
divided_cases_by Zero C j rest = divided_cases C j rest

-- a walk through cases of n variables
pub record IsWalk (n : ℕ) (w : Walk) : Type 0 where
  pub width : length w.cuts.items ≡ n
  pub room : IfSome w.next (λ d. d ≤ length w.branches.items)
  pub above : IfSome w.next (λ d. AreBranches n w.branches.items d)
  pub ray : IfSome w.next (λ d. IfSome w.ray (λ r. r.depth ≤ d))

-- it is at a case with d branches above
pub record IsAt (n : ℕ) (w : Walk) (d : ℕ) : Type 0 where
  pub width : length w.cuts.items ≡ n
  pub next : w.next ≡ Some d
  pub room : d ≤ length w.branches.items
  pub above : AreBranches n w.branches.items d
  pub ray : IfSome w.ray (λ r. r.depth ≤ d)

-- a leaf closed the case at hand, and the walk went on to the next one
pub record IsClosedBy (w x : Walk) (d : ℕ) (n : Node) : Type 0 where
  pub nodes : Means.nodes x.nodes ≡ Means.nodes w.nodes ++ n ∷ []
  pub cases : (I : Instance) → waiting I x x.next ≡ rest I w d
  pub point : x.best ≡ w.best

-- or the case was divided, and the walk went on to the first of the two
pub record IsDividedBy (w x : Walk) (d : ℕ) (by : Division) (j : ℕ) : Type 0 where
  pub nodes : Means.nodes x.nodes ≡ Means.nodes w.nodes ++ node_by by j ∷ []
  pub cases : (I : Instance) → waiting I x x.next ≡ divided_cases_by by (case I w d) j (rest I w d)
  pub point : x.best ≡ w.best
