-- The end of a run, as an answer and lists of numbers tell it.
use Rattle.std.specs.Prelude.{ℕ, zero, suc, Bool, true, false, Option, None, Some, List, [], ◌∷◌, ◌++◌}
use Rattle.rational.specs.Ratio.{Ratio}
use Rattle.fraction.specs.Frac.{ratio}
use Rattle.evidence.specs.Cases.{Multiplier}
use Rattle.bases.specs.Dictionary.{Values}
use Rattle.simplex_rules.specs.Ends.{End, Clash, Empty, Best, Endless, TurnsOut, TooWide, Stopped}
use Rattle.simplex_rules.specs.declared.columns.Status.{Status}
use Rattle.simplex_rules.specs.declared.columns.Status.TheVariants.{Basic, Lower, Upper, Zero}
use Rattle.simplex.specs.declared.answer.Side.{Side}
use Rattle.simplex.specs.declared.answer.Side.TheVariants as Sides
use Rattle.simplex.specs.declared.answer.LpEnd.{LpEnd}
use Rattle.simplex.specs.declared.answer.LpEnd.TheVariants as Has

-- the first n of these values
abbrev pub listed : ℕ → Values → List Ratio
listed zero w = []
listed (suc n) w = listed n w ++ w n ∷ []

-- the end that an answer tells, with this point, these multipliers and this direction
abbrev pub ended : LpEnd → List Ratio → List Multiplier → List Ratio → End
ended (Has.Best b) x ms d = Best (ratio b) x ms
ended (Has.Clash c) x ms d = Clash c
ended Has.Empty x ms d = Empty ms
ended Has.Endless x ms d = Endless x d
ended Has.TurnLimit x ms d = TurnsOut
ended (Has.Wide s) x ms d = TooWide s
ended Has.Stopped x ms d = Stopped

-- a look said to stop
abbrev pub was_stopped : LpEnd → Bool
was_stopped (Has.Best b) = false
was_stopped (Has.Clash c) = false
was_stopped Has.Empty = false
was_stopped Has.Endless = false
was_stopped Has.TurnLimit = false
was_stopped (Has.Wide s) = false
was_stopped Has.Stopped = true

-- a best point was found
abbrev pub was_best : LpEnd → Bool
was_best (Has.Best b) = true
was_best (Has.Clash c) = false
was_best Has.Empty = false
was_best Has.Endless = false
was_best Has.TurnLimit = false
was_best (Has.Wide s) = false
was_best Has.Stopped = false

-- the place of a column that isn't basic; one that isn't there counts as basic
abbrev pub side_of : Status → Option Side
side_of Basic = None
side_of Lower = Some Sides.Lower
side_of Upper = Some Sides.Upper
side_of Zero = Some Sides.Zero
