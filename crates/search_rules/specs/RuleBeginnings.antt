-- The search by rules from a point that is its best one from the start.
use Rattle.std.specs.Prelude.{Option, None, []}
use Rattle.evidence.specs.Instance.{Problem}
use Rattle.certificate.specs.declared.causes.Cause.TheVariants.{Memory}
use Rattle.simplex_rules.specs.Ends.{Terms, Clock}
use Rattle.simplex_rules.specs.Rules.{Given}
use Rattle.simplex_rules.specs.RuleRuns.{Finish}
use Rattle.search_rules.specs.Search.{Found, Outcome, early}
use Rattle.search_rules.specs.Beginnings.{first_with}
use Rattle.search_rules.specs.RuleSearch.{SearchRules, MomentBy, On, Off, IsRunOfCase, IsNextBy}

-- P is searched by rules S from this best point on, within these terms
module _ (S : SearchRules) (P : Problem) (t : Terms) (start : Option Found) where
  -- the moments of the search; in the beginning no run has ended
  pub data ComesFromBy : MomentBy → Type 0 where
    begins : ComesFromBy (record { moment = first_with P start; basis = None; turned = [] })
    goes_on : {m n : MomentBy} → ComesFromBy m → IsNextBy S P t m (On n) → ComesFromBy n

  -- the search ends so, with this clock
  pub record SearchFromBy (o : Outcome) (c : Clock) : Type 0 where
    pub last : MomentBy
    pub comes : ComesFromBy last
    pub ends : IsNextBy S P t last (Off o c)

  -- what may be answered of it once the clock is this
  pub data IsAnswerFromBy : Outcome → Clock → Type 0 where
    searched : {o : Outcome} {c : Clock} → SearchFromBy o c → IsAnswerFromBy o c
    given_up : {m : MomentBy} → ComesFromBy m → IsAnswerFromBy (early m.moment.best Memory) m.moment.clock
    given_up_after : {m : MomentBy} {f : Finish} {c : Clock} {h : Given} → ComesFromBy m → IsRunOfCase S P t m f c h → IsAnswerFromBy (early m.moment.best Memory) c
