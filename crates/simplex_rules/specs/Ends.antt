-- How a run ends, and what each end says of its program.
use Rattle.std.specs.Prelude.{◌≡◌, ℕ, ◌+◌, ◌<◌, Bool, false, Option, List, length}
use Rattle.std.specs.List.{All}
use Rattle.rational.specs.Ratio.{Ratio, product, IsSame, IsBelow, IsNumber}
use Rattle.evidence.specs.Sums.{none, total}
use Rattle.evidence.specs.Instance.{Instance, IsInstance, width, height, variable_at, row_at, cost_at, column_at, minimising}
use Rattle.evidence.specs.Point.{value_at, activity, objective, IsBetween, NeverLeaves}
use Rattle.evidence.specs.Cases.{Multiplier, IsEmpty, IsFarkas, IsBound}
use Rattle.certificate.specs.declared.causes.Step.{Step}

-- the most nodes and turns of a search and the most rounding cuts that it derives, and the number of the look that stops it, if one does
pub record Terms : Type 0 where
  pub nodes : ℕ
  pub turns : ℕ
  pub rounds : ℕ
  pub stop : Option ℕ

-- how many turns were done and how many looks were made, both since the search began
pub record Clock : Type 0 where
  pub turns : ℕ
  pub looks : ℕ

-- a column whose ends pass each other; multipliers that rule out each point; a bound with the point that reaches it and the multipliers that show it; a point and a direction without end; or an early stop: at the limit of turns, at a number that doesn't fit, or by a look
pub data End : Type 0 where
  Clash : ℕ → End
  Empty : List Multiplier → End
  Best : Ratio → List Ratio → List Multiplier → End
  Endless : List Ratio → List Ratio → End
  TurnsOut : End
  TooWide : Step → End
  Stopped : End

-- feasible, but for the wholeness of its variables
pub record IsRelaxed (I : Instance) (x : List Ratio) : Type 0 where
  pub count : length x ≡ width I
  pub numbers : All IsNumber x
  pub variables : (j : ℕ) → j < width I → IsBetween (variable_at I j).range (value_at x j)
  pub rows : (i : ℕ) → i < height I → IsBetween (row_at I i) (activity I x i)

-- along it, relaxed points stay relaxed, and become better without end
pub record IsDirection (I : Instance) (d : List Ratio) : Type 0 where
  pub count : length d ≡ width I
  pub numbers : All IsNumber d
  pub variables : (j : ℕ) → j < width I → NeverLeaves (variable_at I j).range (value_at d j)
  pub rows : (i : ℕ) → i < height I → NeverLeaves (row_at I i) (activity I d i)
  pub better : IsBelow (minimising I (total none (width I) (λ j. product (cost_at I j) (value_at d j)))) none

-- the bound is a number, the multipliers show it, and the point reaches it
pub record IsBest (I : Instance) (b : Ratio) (x : List Ratio) (ms : List Multiplier) : Type 0 where
  pub number : IsNumber b
  pub bound : IsBound I ms b
  pub reached : IsSame b (minimising I (objective I x))
  pub relaxed : IsRelaxed I x

-- what an end says of the program; under the goal zero a point is any one, and no direction comes
abbrev pub Shown : Bool → Instance → End → Type 0
Shown zeroed I (Clash c) = (c < width I + height I) × IsEmpty (column_at I c)
Shown zeroed I (Empty ms) = IsFarkas I ms
Shown zeroed I (Best b x ms) = IsRelaxed I x × (zeroed ≡ false → IsBest I b x ms)
Shown zeroed I (Endless x d) = (zeroed ≡ false) × IsRelaxed I x × IsDirection I d
Shown zeroed I TurnsOut = Unit {0}
Shown zeroed I (TooWide s) = Unit {0}
Shown zeroed I Stopped = Unit {0}

-- the runs of programs: the program, whether the goal is zero, the terms, the clock at the beginning, the end, and the clock then
abbrev pub ProgramRuns : Type 1
ProgramRuns = Instance → Bool → Terms → Clock → End → Clock → Type 0

-- each end says something true of its program
abbrev pub AreSound : ProgramRuns → Type 0
AreSound R = (I : Instance) (zeroed : Bool) (t : Terms) (c : Clock) (e : End) (d : Clock) → IsInstance I → R I zeroed t c e d → Shown zeroed I e

-- a run has one end
abbrev pub HaveOneEnd : ProgramRuns → Type 0
HaveOneEnd R = (I : Instance) (zeroed : Bool) (t : Terms) (c : Clock) (e f : End) (d b : Clock) → IsInstance I → R I zeroed t c e d → R I zeroed t c f b → (e ≡ f) × (d ≡ b)
