-- The point that a search begins with, its best one from the start, and the search from there.
use Rattle.std.specs.Prelude.{◌≡◌, ℕ, suc, zero, ◌≤◌, Option, None, Some, List, [], ◌∷◌, length}
use Rattle.rational.specs.Ratio.{Ratio}
use Rattle.evidence.specs.Sums.{none}
use Rattle.evidence.specs.Instance.{Problem, width}
use Rattle.certificate.specs.declared.causes.Cause.TheVariants.{Memory}
use Rattle.simplex_rules.specs.Ends.{Terms, Clock, End}
use Rattle.search_rules.specs.Search.{Found, SearchMoment, Outcome, To, Out, begun_at, early, IsCaseRun, IsNextInSearch}
use Rattle.search_rules.specs.Outcomes.{IsPoint}

-- the value that is given, and 0 where none is
abbrev pub value_given : Option Ratio → Ratio
value_given None = none
value_given (Some v) = v

-- the values of n variables
abbrev pub point_given : List (Option Ratio) → ℕ → List Ratio
point_given gs zero = []
point_given [] (suc n) = none ∷ point_given [] n
point_given (g ∷ gs) (suc n) = value_given g ∷ point_given gs n

-- values are given for no variable that the problem doesn't have, and they are a point of it, all of whose sums fit
pub record BeginsWith (P : Problem) (gs : List (Option Ratio)) (f : Found) : Type 0 where
  pub few : length gs ≤ width P.program
  pub is : f.point ≡ point_given gs (width P.program)
  pub point : IsPoint P f.point f.values

-- the best point from the start: that of the values that are given, where it is one, and else none
abbrev pub IsFirstBest : Problem → Option (List (Option Ratio)) → Option Found → Type 0
IsFirstBest P None best = best ≡ None
IsFirstBest P (Some gs) None = (f : Found) → BeginsWith P gs f → ⊥
IsFirstBest P (Some gs) (Some f) = BeginsWith P gs f

-- the search before its first case
abbrev pub first_with : Problem → Option Found → SearchMoment
first_with P best = begun_at (record { program = P.program; later = P.later; shown = [] }) (record { turns = 0; looks = 0 }) best

-- P is searched from this best point on, within these terms
module _ (P : Problem) (t : Terms) (start : Option Found) where
  -- the moments of the search
  pub data ComesFrom : SearchMoment → Type 0 where
    begins : ComesFrom (first_with P start)
    goes_on : {m n : SearchMoment} → ComesFrom m → IsNextInSearch P t m (To n) → ComesFrom n

  -- the search ends so, with this clock
  pub record SearchFrom (o : Outcome) (c : Clock) : Type 0 where
    pub last : SearchMoment
    pub comes : ComesFrom last
    pub ends : IsNextInSearch P t last (Out o c)

  -- what may be answered of it once the clock is this, as of each search
  pub data IsAnswerFrom : Outcome → Clock → Type 0 where
    searched : {o : Outcome} {c : Clock} → SearchFrom o c → IsAnswerFrom o c
    given_up : {m : SearchMoment} → ComesFrom m → IsAnswerFrom (early m.best Memory) m.clock
    given_up_after : {m : SearchMoment} {e : End} {c : Clock} → ComesFrom m → IsCaseRun P t m e c → IsAnswerFrom (early m.best Memory) c
