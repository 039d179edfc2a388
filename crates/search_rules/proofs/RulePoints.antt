-- Searches by rules from a first point: what they end with, that there is one outcome, and that from none they are the searches by these rules.
use Rattle.std.proofs.Common.{◌≡◌, Option, None, List, [], refl, subst}
use Rattle.rational.specs.Ratio.{Ratio}
use Rattle.evidence.specs.Instance.{Problem, IsProblem}
use Rattle.simplex_rules.specs.Ends.{Terms, Clock}
use Rattle.search_rules.specs.Search.{Found, Outcome}
use Rattle.search_rules.specs.Outcomes.{IsShown}
use Rattle.search_rules.specs.Beginnings.{IsFirstBest, first_with}
use Rattle.search_rules.specs.RuleSearch as Plain
use Rattle.search_rules.specs.RuleSearch.{SearchRules, AreLegalSearches, AreSingleSearches, MomentBy, ComesBy, SearchBy, IsAnswerBy}
use Rattle.search_rules.specs.RuleBeginnings.{ComesFromBy, begins, goes_on, SearchFromBy, IsAnswerFromBy, searched, given_up, given_up_after}
use Rattle.search_rules.proofs.SidedMoments.{HoldsBy, begun_by}
use Rattle.search_rules.proofs.Outcomes.{early_shown}
use Rattle.search_rules.proofs.FirstPoints.{first_holds, first_once}
use Rattle.search_rules.proofs.RuleSearches.{next_holds, next_shown}
use Rattle.search_rules.proofs.RuleOutcomes.{Halts, now, later, halts_once}

abbrev pub beginning : Problem → Option Found → MomentBy
beginning P start = record { moment = first_with P start; basis = None; turned = [] }

-- from the point of these values
module _ (S : SearchRules) (legal : AreLegalSearches S) (P : Problem) (t : Terms) (good : IsProblem P) (gs : Option (List (Option Ratio))) (start : Option Found) (is : IsFirstBest P gs start) where
  pub start_holds : HoldsBy P (first_with P start) []
  start_holds = begun_by P (first_with P start) (first_holds P t good gs start is) refl

  from_holds : (s : MomentBy) → ComesFromBy S P t start s → HoldsBy P s.moment s.turned
  from_holds s begins = start_holds
  from_holds s (goes_on {m = before} c next) = next_holds S legal P t before s (from_holds before c) next

  pub from_shown : (o : Outcome) (c : Clock) → IsAnswerFromBy S P t start o c → IsShown P o
  from_shown o c (searched s) = next_shown S legal P t s.last o c (from_holds s.last s.comes) s.ends
  from_shown o c (given_up {m} k) = let h = from_holds m k in early_shown P m.moment h.holds m.moment.best _ refl
  from_shown o c (given_up_after {m} k r) = let h = from_holds m k in early_shown P m.moment h.holds m.moment.best _ refl

  module _ (single : AreSingleSearches S) where
    from_start : (m : MomentBy) (o : Outcome) (c : Clock) → ComesFromBy S P t start m → Halts S legal single P good t m o c → Halts S legal single P good t (beginning P start) o c
    from_start m o c begins h = h
    from_start m o c (goes_on {m = before} k next) h = from_start before o c k (later next h)

    from_once : (o p : Outcome) (c d : Clock) → SearchFromBy S P t start o c → SearchFromBy S P t start p d → (o ≡ p) × (c ≡ d)
    from_once o p c d s u =
        halts_once S legal single P good t (beginning P start) o c start_holds (from_start s.last o c s.comes (now s.ends)) (beginning P start) p d refl (from_start u.last p d u.comes (now u.ends))

pub searches_once : (S : SearchRules) → AreLegalSearches S → AreSingleSearches S → (P : Problem) (t : Terms) → IsProblem P → (gs : Option (List (Option Ratio))) (a b : Option Found) → IsFirstBest P gs a → IsFirstBest P gs b → (o p : Outcome) (c d : Clock) → SearchFromBy S P t a o c → SearchFromBy S P t b p d → (o ≡ p) × (c ≡ d)
searches_once S legal single P t good gs a b is other o p c d s u =
    from_once S legal P t good gs a is single o p c d s (subst (λ e. SearchFromBy S P t e p d) (first_once P gs b a good other is) u)

-- from none
module _ (S : SearchRules) (P : Problem) (t : Terms) where
  pub from_none : (m : MomentBy) → ComesFromBy S P t None m → ComesBy S P t m
  from_none m begins = Plain.begins
  from_none m (goes_on {m = before} k next) = Plain.goes_on (from_none before k) next

  pub to_none : (m : MomentBy) → ComesBy S P t m → ComesFromBy S P t None m
  to_none m Plain.begins = begins
  to_none m (Plain.goes_on {m = before} k next) = goes_on (to_none before k) next

  pub plain_answer : (o : Outcome) (c : Clock) → IsAnswerFromBy S P t None o c → IsAnswerBy S P t o c
  plain_answer o c (searched s) = Plain.searched (record { last = s.last; comes = from_none s.last s.comes; ends = s.ends })
  plain_answer o c (given_up {m} k) = Plain.given_up (from_none m k)
  plain_answer o c (given_up_after {m} k r) = Plain.given_up_after (from_none m k) r

  pub answer_plain : (o : Outcome) (c : Clock) → IsAnswerBy S P t o c → IsAnswerFromBy S P t None o c
  answer_plain o c (Plain.searched s) = searched (record { last = s.last; comes = to_none s.last s.comes; ends = s.ends })
  answer_plain o c (Plain.given_up {m} k) = given_up (to_none m k)
  answer_plain o c (Plain.given_up_after {m} k r) = given_up_after (to_none m k) r
