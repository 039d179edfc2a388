-- Searches from a first point: what holds at their moments, what they end with, and that from none they are the searches.
use Rattle.std.proofs.Common.{◌≡◌, inr, Option, None, Some, List, [], refl, sym, ◌∙◌, ap, ap₂, subst}
use Rattle.std.proofs.lemmas.List.Elements.{All-nil}
use Rattle.rational.specs.Ratio.{Ratio}
use Rattle.evidence.specs.Instance.{Problem, IsProblem}
use Rattle.evidence.specs.Point.{IsFeasible}
use Rattle.simplex_rules.specs.Ends.{Terms, Clock}
use Rattle.search_rules.specs.Search as Plain
use Rattle.search_rules.specs.Search.{Found, Level, SearchMoment, Outcome, AreValuesAt, ComesInSearch, IsSearchAnswer}
use Rattle.search_rules.specs.Outcomes.{IsShown}
use Rattle.search_rules.specs.Beginnings.{IsFirstBest, first_with, ComesFrom, begins, goes_on, SearchFrom, IsAnswerFrom, searched, given_up, given_up_after}
use Rattle.search_rules.proofs.Levels.{level_first}
use Rattle.search_rules.proofs.Moments.{HasNoRounds, Holds, IsFound, begun_holds, next_holds}
use Rattle.search_rules.proofs.Outcomes.{early_shown, next_shown}
use Rattle.search_rules.proofs.OneOutcome.{one_values, Halts, now, later, halts_once}

abbrev first_level : Problem → Level
first_level P = record { program = P.program; later = P.later; shown = [] }

first_found : (P : Problem) (gs : Option (List (Option Ratio))) (best : Option Found) → IsFirstBest P gs best → (f : Found) → best ≡ Some f → IsFound P (first_level P) f
first_found P None best is f e = let same : None ≡ Some f = sym is ∙ e in absurd (cc)
first_found P (Some gs) None is f e = absurd (cc)
first_found P (Some gs) (Some g) is f e =
    let same : g ≡ f = cc in
    let point = is.point in
    subst (IsFound P (first_level P)) same (record { feasible = point.feasible; values = point.values; fits = point.fits })

same_found : (f g : Found) → f.point ≡ g.point → f.values ≡ g.values → f ≡ g
same_found f g p v = ap₂ (λ x vs. record { point = x; values = vs }) p v

pub first_once : (P : Problem) (gs : Option (List (Option Ratio))) (a b : Option Found) → IsProblem P → IsFirstBest P gs a → IsFirstBest P gs b → a ≡ b
first_once P None a b n is other = is ∙ sym other
first_once P (Some gs) None None n is other = refl
first_once P (Some gs) None (Some f) n is other = absurd (is f other)
first_once P (Some gs) (Some f) None n is other = absurd (other f is)
first_once P (Some gs) (Some f) (Some g) n is other =
    let point : f.point ≡ g.point = is.is ∙ sym other.is in
    let p = is.point in
    let q = other.point in
    let values : f.values ≡ g.values = one_values P n g.point f.values g.values (subst (λ x. AreValuesAt P x f.values) point p.values) q.values in
    ap (λ (h : Found). Some h) (same_found f g point values)

pub first_feasible : (P : Problem) (gs : Option (List (Option Ratio))) (f : Found) → IsFirstBest P gs (Some f) → IsFeasible P.program f.point
first_feasible P None f is = absurd (cc)
first_feasible P (Some gs) f is = let point = is.point in point.feasible

-- from the point of these values
module _ (P : Problem) (t : Terms) (good : IsProblem P) (gs : Option (List (Option Ratio))) (start : Option Found) (is : IsFirstBest P gs start) where
  pub first_holds : Holds P (first_with P start)
  first_holds = begun_holds P (first_level P) (record { turns = 0; looks = 0 }) start (level_first P good) (first_found P gs start is) (λ e. refl) (inr (All-nil HasNoRounds))

  from_holds : (m : SearchMoment) → ComesFrom P t start m → Holds P m
  from_holds m begins = first_holds
  from_holds m (goes_on {m = before} c next) = next_holds P t before m (from_holds before c) next

  pub from_shown : (o : Outcome) (c : Clock) → IsAnswerFrom P t start o c → IsShown P o
  from_shown o c (searched s) = next_shown P t s.last (from_holds s.last s.comes) o c s.ends
  from_shown o c (given_up {m} k) = early_shown P m (from_holds m k) m.best _ refl
  from_shown o c (given_up_after {m} k r) = early_shown P m (from_holds m k) m.best _ refl

  from_start : (m : SearchMoment) (o : Outcome) (c : Clock) → ComesFrom P t start m → Halts P good t m o c → Halts P good t (first_with P start) o c
  from_start m o c begins h = h
  from_start m o c (goes_on {m = before} k next) h = from_start before o c k (later next h)

  from_once : (o p : Outcome) (c d : Clock) → SearchFrom P t start o c → SearchFrom P t start p d → (o ≡ p) × (c ≡ d)
  from_once o p c d s u =
      halts_once P good t (first_with P start) o c first_holds (from_start s.last o c s.comes (now s.ends)) (first_with P start) p d refl (from_start u.last p d u.comes (now u.ends))

pub searches_once : (P : Problem) (t : Terms) → IsProblem P → (gs : Option (List (Option Ratio))) (a b : Option Found) → IsFirstBest P gs a → IsFirstBest P gs b → (o p : Outcome) (c d : Clock) → SearchFrom P t a o c → SearchFrom P t b p d → (o ≡ p) × (c ≡ d)
searches_once P t good gs a b is other o p c d s u = from_once P t good gs a is o p c d s (subst (λ e. SearchFrom P t e p d) (first_once P gs b a good other is) u)

-- from none
module _ (P : Problem) (t : Terms) where
  pub from_none : (m : SearchMoment) → ComesFrom P t None m → ComesInSearch P t m
  from_none m begins = Plain.begins
  from_none m (goes_on {m = before} k next) = Plain.goes_on (from_none before k) next

  pub comes_from_none : (m : SearchMoment) → ComesInSearch P t m → ComesFrom P t None m
  comes_from_none m Plain.begins = begins
  comes_from_none m (Plain.goes_on {m = before} k next) = goes_on (comes_from_none before k) next

  pub plain_answer : (o : Outcome) (c : Clock) → IsAnswerFrom P t None o c → IsSearchAnswer P t o c
  plain_answer o c (searched s) = Plain.searched (record { last = s.last; comes = from_none s.last s.comes; ends = s.ends })
  plain_answer o c (given_up {m} k) = Plain.given_up (from_none m k)
  plain_answer o c (given_up_after {m} k r) = Plain.given_up_after (from_none m k) r

  pub answer_plain : (o : Outcome) (c : Clock) → IsSearchAnswer P t o c → IsAnswerFrom P t None o c
  answer_plain o c (Plain.searched s) = searched (record { last = s.last; comes = comes_from_none s.last s.comes; ends = s.ends })
  answer_plain o c (Plain.given_up {m} k) = given_up (comes_from_none m k)
  answer_plain o c (Plain.given_up_after {m} k r) = given_up_after (comes_from_none m k) r
