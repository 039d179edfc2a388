-- The instances that a walk through a tree of cases has before it: that of the case at hand, and those of the second cases above.
use Rattle.std.specs.Prelude.{◌≡◌, ℕ, zero, suc, ◌<◌, pos, ◌+ℤ◌, ◌≤ℤ◌, ◌<ℤ◌, neg_ℤ, false, cond, Option, None, Some, List, [], ◌∷◌, map, get_or, slice_set}
use Rattle.rational.specs.Ratio.{whole}
use Rattle.rational.specs.Width.{most}
use Rattle.fraction.specs.declared.ends.End.TheVariants.{NegInf, Inf}
use Rattle.evidence.specs.Sums.{none}
use Rattle.evidence.specs.Instance as Of
use Rattle.evidence.specs.Cases.{with_range, lesser_end, greater_end, both, or_free}
use Rattle.instance.specs.Program.{range, further_by}
use Rattle.instance.specs.declared.parts.Row.{Row}
use Rattle.case_tree.specs.declared.cuts.Cut.{Cut}
use Rattle.case_tree.specs.declared.cuts.Division.{Division}
use Rattle.case_tree.specs.declared.cuts.Division.TheVariants.{Split, Zero}
use Rattle.case_tree.specs.declared.path.Branch.{Branch}

-- a variable as the case at hand has it
abbrev pub cut_variable : Cut → Of.Variable
cut_variable c = record { range = range c.lb c.ub; whole = c.var.whole; unless_zero = further_by c.var.zero (range c.var.lb c.var.ub) }

-- the instance with these variables in place of its own
abbrev pub cut : Of.Instance → List Cut → Of.Instance
cut I cs = record I { variables = map cut_variable cs }

-- the variable's range in the first case
abbrev pub first_range : Division → Of.Variable → Of.Range
first_range (Split k) v = record { lb = v.range.lb; ub = lesser_end v.range.ub (whole k) }
first_range Zero v = both v.range (record { lb = Some none; ub = Some none })

-- and in the second
abbrev pub second_range : Division → Of.Variable → Of.Range
second_range (Split k) v = record { lb = greater_end v.range.lb (whole (k +ℤ pos 1)); ub = v.range.ub }
second_range Zero v = both v.range (or_free v.unless_zero)

-- the first case of a division: at most k, or 0
abbrev pub first_case : Of.Instance → ℕ → Division → Of.Instance
first_case I j by = with_range I j (first_range by (Of.variable_at I j))

-- the second case: at least k + 1, or within the further ends
abbrev pub second_case : Of.Instance → ℕ → Division → Of.Instance
second_case I j by = with_range I j (second_range by (Of.variable_at I j))

-- its number, and the next one, fit
abbrev pub HasNext : Division → Type 0
HasNext (Split k) = (neg_ℤ (pos most) ≤ℤ k) × (k <ℤ pos most)
HasNext Zero = Unit {0}

abbrev pub no_cut : Cut
no_cut = record { lb = NegInf; ub = Inf; var = record { lb = NegInf; ub = Inf; whole = false; zero = false } }

abbrev pub no_branch : Branch
no_branch = record { col = 0; by = Zero; before = record { lb = NegInf; ub = Inf }; is_second = false }

abbrev pub branch_at : List Branch → ℕ → Branch
branch_at bs d = get_or bs d no_branch

abbrev pub cut_at : List Cut → ℕ → Cut
cut_at cs j = get_or cs j no_cut

-- the variable with these ends
abbrev pub with_ends : Cut → Row → Cut
with_ends c r = record c { lb = r.lb; ub = r.ub }

-- what is still to show after the case at hand, whose variables are cs: at each branch above whose first case it is in, the second
abbrev pub pending : Of.Instance → List Cut → List Branch → ℕ → List Of.Instance
pending I cs bs zero = []
pending I cs bs (suc d) =
    let b = branch_at bs d in
    let before = slice_set cs b.col (with_ends (cut_at cs b.col) b.before) in
    cond b.is_second (pending I before bs d) (second_case (cut I before) b.col b.by ∷ pending I before bs d)

-- at which branches above the second case is still to show, the last one first
abbrev pub pending_places : List Branch → ℕ → List ℕ
pending_places bs zero = []
pending_places bs (suc d) = cond (branch_at bs d).is_second (pending_places bs d) (d ∷ pending_places bs d)

-- both divide one variable in one way
pub record HaveOneDivision (b c : Branch) : Type 0 where
  pub col : b.col ≡ c.col
  pub by : b.by ≡ c.by

-- all that is still to show: nothing, where the walk is at its end
abbrev pub cases : Of.Instance → List Cut → List Branch → Option ℕ → List Of.Instance
cases I cs bs None = []
cases I cs bs (Some d) = cut I cs ∷ pending I cs bs d

-- the branches above have variables, and numbers whose next one fits
pub record AreBranches (n : ℕ) (bs : List Branch) (d : ℕ) : Type 0 where
  pub columns : (e : ℕ) → e < d → (branch_at bs e).col < n
  pub next : (e : ℕ) → e < d → HasNext (branch_at bs e).by
