-- The instances that are generated, one for each number of variables: groups of four variables, each group with a row, and the first group whole.
use Rattle.std.specs.Prelude.{ℕ, suc, ◌+◌, ◌-◌, ◌/◌, ◌%◌, ◌≤◌, pos, false, List, [], ◌∷◌, map, replicate, nat_lt}
use Rattle.std.specs.List.{range_with_len}
use Rattle.std.proofs.Common.{lit<, lit≤}
use Rattle.std.proofs.Math.Nat.{one-dvd, mod-lt, le_trans}
use Rattle.std.proofs.lemmas.Nat.Gcd.{dvd_refl}
use Rattle.rational.specs.Width.{most}
use Rattle.fraction.specs.declared.frac.Frac.{Frac}
use Rattle.fraction.specs.declared.ends.End.TheVariants.{NegInf, At}
use Rattle.fraction.specs.declared.ends.Entry.{Entry}
use Rattle.instance.specs.declared.parts.Var.{Var}
use Rattle.instance.specs.declared.parts.Row.{Row}
use Rattle.instance.specs.declared.parts.Goal.{Goal}
use Rattle.instance.specs.declared.parts.Sense.TheVariants.{Max}
use Rattle.instance.specs.Parts.{Parts}

-- a whole number within the width as a fraction
abbrev pub natural : (k : ℕ) → k ≤ most → Frac
natural k fits = record { numer = pos k; denom = 1; above = lit< tt; reduced = (one-dvd k, dvd_refl 1, λ d p q. q); numer_within = fits; denom_within = lit≤ tt }

-- variable j goes from 0 to 3, the first four in whole steps
abbrev pub group_variable : ℕ → Var
group_variable j = record { lb = At (natural 0 (lit≤ tt)); ub = At (natural 3 (lit≤ tt)); whole = nat_lt j 4; zero = false }

pub cost_fits : (j : ℕ) → suc (j % 4) ≤ most
cost_fits j = le_trans (mod-lt j (lit< tt)) (lit≤ tt)

-- its cost: 1, 2, 3 and 4 in turn
abbrev pub cost : ℕ → Frac
cost j = natural (suc (j % 4)) (cost_fits j)

-- it stands twice in the row of its group
abbrev pub group_entry : ℕ → Entry
group_entry j = record { row = j / 4; col = j; value = natural 2 (lit≤ tt) }

-- a row's sum is at most 7
abbrev pub row_limit : Row
row_limit = record { lb = NegInf; ub = At (natural 7 (lit≤ tt)) }

-- how many groups n variables make, the last one maybe in part
abbrev pub group_count : ℕ → ℕ
group_count n = (n - 1) / 4 + 1

-- what f is for each of n variables
abbrev pub each : {X : Type 0} → ℕ → (ℕ → X) → List X
each n f = map f (range_with_len 0 n)

-- the goal of n variables: the greatest sum of their costs
abbrev pub greatest : ℕ → Goal
greatest n = record { sense = Max; constant = natural 0 (lit≤ tt); costs = each n cost }

-- the instance of n variables
abbrev pub generated : ℕ → Parts
generated n = record {
  vars = each n group_variable;
  rows = replicate (group_count n) row_limit;
  entries = each n group_entry;
  goals = greatest n ∷ [];
}
