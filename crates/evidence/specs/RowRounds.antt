-- Rounds that leave the multipliers of variables out: each variable gives what is left to a whole number, by its lower end where it has one, else by its upper one.
use Rattle.std.specs.Prelude.{◌≡◌, ℕ, ◌<◌, ℤ, pos, IsTrue, None, IsSome, List, length}
use Rattle.rational.specs.Ratio.{Ratio, whole, IsFloor}
use Rattle.evidence.specs.Sums.{none, IsCeiling}
use Rattle.evidence.specs.OneDenominator.{number_at}
use Rattle.evidence.specs.Instance.{Instance, width, variable_at}
use Rattle.evidence.specs.Cases.{Multiplier, form, low_sum, AreLegal, AreOfRows, completed}

-- the numbers of the row
abbrev pub numbers_of : List ℤ → ℕ → Ratio
numbers_of cs j = whole (number_at cs j)

-- each form is rounded up where the variable has a lower end, since its own multiplier is then above 0, and down where it has none; the sum of all ends is at most k
pub record IsRowsRound (I : Instance) (ms : List Multiplier) (cs : List ℤ) (k : ℤ) : Type 0 where
  pub rows : AreOfRows I ms
  pub count : length cs ≡ width I
  pub up : (j : ℕ) → j < width I → IsTrue (variable_at I j).whole → IsSome (variable_at I j).range.lb → IsCeiling (form I ms j) (number_at cs j)
  pub down : (j : ℕ) → j < width I → IsTrue (variable_at I j).whole → (variable_at I j).range.lb ≡ None → IsFloor (form I ms j) (number_at cs j)
  pub others : (j : ℕ) → j < width I → (IsTrue (variable_at I j).whole → ⊥) → number_at cs j ≡ pos 0
  pub legal : AreLegal I (completed I (numbers_of cs) ms)
  pub rounded : IsCeiling (low_sum I none (completed I (numbers_of cs) ms)) k
