-- The program that a check has at hand: an instance's, with rows added, asked for one goal.
use Rattle.std.specs.Prelude.{◌≡◌, ℕ, ◌<◌, ℤ, pos, neg_ℤ, ◌≤ℤ◌, Option, None, Some, List, [], ◌∷◌, map, length, ◌≤◌}
use Rattle.std.specs.List.{All}
use Rattle.rational.specs.Ratio.{Ratio, whole, IsSame}
use Rattle.rational.specs.Width.{most}
use Rattle.fraction.specs.Frac.{ratio, ratios}
use Rattle.fraction.specs.declared.frac.Frac.{Frac}
use Rattle.evidence.specs.Instance as Of
use Rattle.evidence.specs.Point.{value_at}
use Rattle.evidence.specs.Sums.{none}
use Rattle.evidence.specs.Cases.{Multiplier, low_sum}
use Rattle.evidence.specs.Width.{LowFits}
use Rattle.evidence.specs.OneDenominator.{number_at}
use Rattle.evidence.specs.Rounds.{IsCeiling, Round, RoundBy, IsRound, RoundFits}
use Rattle.evidence.specs.AddedRows.{with_row}
use Rattle.instance.specs.declared.parts.Goal.{Goal}
use Rattle.instance.specs.Parts.{Parts}
use Rattle.instance.specs.Program.{row, goal, program}
use Rattle.case_tree.specs.declared.cuts.Cut.{Cut}
use Rattle.case_tree.specs.Cuts.{cut_variable}
use Rattle.cert_checker.specs.declared.at_hand.Added.{Added}
use Rattle.cert_checker.specs.Slots.{slot_at}
use Rattle.cert_checker.specs.RoundRefusals.{WholeFormsBelow}

-- the row's coefficient at variable j
abbrev pub coefficient : Added → ℕ → Ratio
coefficient a j = value_at (ratios a.coefficients.items) j

-- the instance with these rows, each the last one when it is added
abbrev pub with_rows : Of.Instance → List Added → Of.Instance
with_rows I [] = I
with_rows I (a ∷ rs) = with_rows (with_row I (row a.ends) (coefficient a)) rs

-- the parts' program with these rows and this goal
abbrev pub at_hand : Parts → List Added → Goal → Of.Instance
at_hand p rs g = record (with_rows (program p) rs) { goal = goal g }

-- the variables are as they are before any branch
abbrev pub AreUncut : Of.Instance → List Cut → Type 0
AreUncut I cs = map cut_variable cs ≡ I.variables

-- each row has room for n coefficients
abbrev pub AreWide : ℕ → List Added → Type 0
AreWide n rs = All (λ (a : Added). n ≤ length a.coefficients.items) rs

-- one number for each variable
pub record HoldsRow (n : ℕ) (f : ℕ → Ratio) (slots : List (Option Frac)) : Type 0 where
  pub number : (j : ℕ) → j < n → (x : Frac) × (slot_at slots j ≡ Some x) × (ratio x ≡ f j)

-- a value that is aimed at, turned so that less is better
abbrev pub bound : Of.Instance → Option Frac → Option Ratio
bound I None = None
bound I (Some v) = Some (Of.minimising I (ratio v))

-- the numerators of the sums, 0 where there is none
abbrev pub numerator : Option Frac → ℤ
numerator None = pos 0
numerator (Some x) = x.numer

abbrev pub numerators : List (Option Frac) → List ℤ
numerators slots = map numerator slots

-- the round has this row, with these coefficients and this lower end, by sums that fit
pub record GivesRow (I : Of.Instance) (r : Round) (slots : List (Option Frac)) (k : ℤ) : Type 0 where
  pub cut : IsRound I r (numerators slots) k
  pub fits : RoundFits I r (numerators slots)
  pub low : neg_ℤ (pos most) ≤ℤ k
  pub row : HoldsRow (Of.width I) (λ j. whole (number_at (numerators slots) j)) slots

-- the multipliers do by themselves
abbrev pub MakesRound : Of.Instance → List Multiplier → List (Option Frac) → ℤ → Type 0
MakesRound I ms slots k = GivesRow I (RoundBy ms) slots k

-- legal multipliers have sums as a round's must be, which fit, and this is the sum of the ends: rounded up, it makes the round
pub record MayRound (I : Of.Instance) (ms : List Multiplier) (slots : List (Option Frac)) (sum : Frac) : Type 0 where
  pub forms : WholeFormsBelow I ms (Of.width I)
  pub fits : LowFits I none ms
  pub same : IsSame (ratio sum) (low_sum I none ms)
  pub makes : (k : ℤ) → IsCeiling (ratio sum) k → neg_ℤ (pos most) ≤ℤ k → MakesRound I ms slots k
