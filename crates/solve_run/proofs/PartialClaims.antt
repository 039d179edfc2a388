-- What is left of a claim that is given up, or told without its bound, or with another cause, is shown too.
use Rattle.std.proofs.Common.{◌≡◌, ◌∙◌, true, false, Option, None, Some, List, refl, ap, sym}
use Rattle.std.specs.Prelude.{IfSome, option_map}
use Rattle.rational.specs.Ratio.{Ratio}
use Rattle.fraction.specs.declared.frac.Frac.{Frac}
use Rattle.evidence.specs.Instance.{Problem, IsProblem}
use Rattle.evidence.specs.ProvedBounds.{ProvedBound}
use Rattle.evidence.specs.Claim as Says
use Rattle.instance.specs.Parts.{Parts}
use Rattle.instance.specs.Program.{problem}
use Rattle.certificate.specs.Meanings as Means
use Rattle.certificate.specs.declared.causes.Cause.{Cause}
use Rattle.certificate.specs.declared.causes.Cause.TheVariants.{Memory}
use Rattle.certificate.specs.declared.claims.Claim.{Claim}
use Rattle.certificate.specs.declared.claims.Claim.TheVariants as Has
use Rattle.simplex_rules.specs.Ends.{Terms, Clock}
use Rattle.search_rules.specs.Search.{Found, Outcome, Optimal, Infeasible, Unbounded, BestSoFar, Unsure, early}
use Rattle.search_rules.specs.Outcomes.{IsShown}
use Rattle.search_rules.specs.Bounds.{IsShownBound, claimed}
use Rattle.search_rules.specs.Beginnings.{IsFirstBest}
use Rattle.search_rules.specs.Asked.{Asked, IsAskedAnswer}
use Rattle.branch_bound.specs.Claims.{ClaimTells, ClaimTellsWith, cause_of, claimed_cause}
use Rattle.solve_run.specs.Untils.{by_time, renamed, timed_claim}
use Rattle.certificate.specs.GivenUp.{given_up, without_bound}
use Rattle.solve_run.specs.Judging.{IsShownClaim, IsFinal, is_bounded}

-- what the laws say of whatever is asked of a search: its outcome is shown, and its bound
pub record AskedAreShown : Type 0 where
  pub outcome : (P : Problem) (t : Terms) (a : Asked) (gs : Option (List (Option Ratio))) (start : Option Found) (o : Outcome) (b : Option ProvedBound) (c : Clock) → IsProblem P → IsFirstBest P gs start → IsAskedAnswer P t a start o b c → IsShown P o
  pub bound : (P : Problem) (t : Terms) (a : Asked) (gs : Option (List (Option Ratio))) (start : Option Found) (o : Outcome) (b : ProvedBound) (c : Clock) → IsProblem P → IsFirstBest P gs start → IsAskedAnswer P t a start o (Some b) c → IsShownBound P b

abbrev pub BoundIsShown : Problem → Option ProvedBound → Type 0
BoundIsShown P b = IfSome b (λ d. IsShownBound P d)

pub bound_shown : AskedAreShown → (P : Problem) (t : Terms) (a : Asked) (gs : Option (List (Option Ratio))) (start : Option Found) (o : Outcome) (b : Option ProvedBound) (c : Clock) → IsProblem P → IsFirstBest P gs start → IsAskedAnswer P t a start o b c → BoundIsShown P b
bound_shown shows P t a gs start o None c good first answer = tt
bound_shown shows P t a gs start o (Some b) c good first answer = shows.bound P t a gs start o b c good first answer

-- ---- final claims, and those with a bound

pub given_other : (c : Claim) (cause : Cause) → IsFinal (given_up c cause) → ⊥
given_other (Has.Optimal x vs cs) cause f = f
given_other (Has.Infeasible cert) cause f = f
given_other (Has.Unbounded x vs cs r) cause f = f
given_other (Has.BestSoFar x vs c b) cause f = f
given_other (Has.Unsure c b) cause f = f

pub given_plain : (c : Claim) (cause : Cause) → is_bounded (given_up c cause) ≡ false
given_plain (Has.Optimal x vs cs) cause = refl
given_plain (Has.Infeasible cert) cause = refl
given_plain (Has.Unbounded x vs cs r) cause = refl
given_plain (Has.BestSoFar x vs c b) cause = refl
given_plain (Has.Unsure c b) cause = refl

pub without_given : (c : Claim) (cause : Cause) → given_up (without_bound c) cause ≡ given_up c cause
without_given (Has.Optimal x vs cs) cause = refl
without_given (Has.Infeasible cert) cause = refl
without_given (Has.Unbounded x vs cs r) cause = refl
without_given (Has.BestSoFar x vs c b) cause = refl
without_given (Has.Unsure c b) cause = refl

pub final_whole : (c : Claim) → IsFinal c → without_bound c ≡ c
final_whole (Has.Optimal x vs cs) f = refl
final_whole (Has.Infeasible cert) f = refl
final_whole (Has.Unbounded x vs cs r) f = refl
final_whole (Has.BestSoFar x vs c b) f = absurd f
final_whole (Has.Unsure c b) f = absurd f

pub bounded_other : (c : Claim) → is_bounded c ≡ true → IsFinal c → ⊥
bounded_other (Has.Optimal x vs cs) e f = absurd (cc)
bounded_other (Has.Infeasible cert) e f = absurd (cc)
bounded_other (Has.Unbounded x vs cs r) e f = absurd (cc)
bounded_other (Has.BestSoFar x vs c b) e f = f
bounded_other (Has.Unsure c b) e f = f

pub without_other : (c : Claim) → (IsFinal c → ⊥) → IsFinal (without_bound c) → ⊥
without_other (Has.Optimal x vs cs) other f = other f
without_other (Has.Infeasible cert) other f = other f
without_other (Has.Unbounded x vs cs r) other f = other f
without_other (Has.BestSoFar x vs c b) other f = f
without_other (Has.Unsure c b) other f = f

-- the bound of what is said
abbrev pub bound_said : Says.Claim → Option ProvedBound
bound_said (Says.Optimal x vs cs) = None
bound_said (Says.Infeasible c) = None
bound_said (Says.Unbounded x vs cs r) = None
bound_said (Says.BestSoFar x vs b) = b
bound_said (Says.Unsure b) = b

none_said : (o : Outcome) → bound_said (claimed o None) ≡ None
none_said (Optimal x vs cs) = refl
none_said (Infeasible c) = refl
none_said (Unbounded x vs cs r) = refl
none_said (BestSoFar x vs c) = refl
none_said (Unsure c) = refl

pub plain_told : (c : Claim) (o : Outcome) → Means.claim c ≡ claimed o None → is_bounded c ≡ false
plain_told (Has.Optimal x vs cs) o e = refl
plain_told (Has.Infeasible cert) o e = refl
plain_told (Has.Unbounded x vs cs r) o e = refl
plain_told (Has.BestSoFar x vs c None) o e = refl
plain_told (Has.BestSoFar x vs c (Some b)) o e = let clash : Some (Means.proved b) ≡ None = ap bound_said e ∙ none_said o in absurd (cc)
plain_told (Has.Unsure c None) o e = refl
plain_told (Has.Unsure c (Some b)) o e = let clash : Some (Means.proved b) ≡ None = ap bound_said e ∙ none_said o in absurd (cc)

-- ---- given up

-- what is left of an outcome that is given up for this cause
abbrev left : Outcome → Cause → Outcome
left (Optimal x vs cs) c = BestSoFar x vs c
left (Infeasible cert) c = Unsure c
left (Unbounded x vs cs r) c = BestSoFar x vs c
left (BestSoFar x vs old) c = BestSoFar x vs c
left (Unsure old) c = Unsure c

left_shown : (P : Problem) (o : Outcome) (cause : Cause) → IsShown P o → IsShown P (left o cause)
left_shown P (Optimal x vs cs) cause s = s.0
left_shown P (Infeasible cert) cause s = tt
left_shown P (Unbounded x vs cs r) cause s = s.0
left_shown P (BestSoFar x vs c) cause s = s
left_shown P (Unsure c) cause s = tt

-- the point of what is said
abbrev point_said : Says.Claim → Option (List Ratio × List Ratio)
point_said (Says.Optimal x vs cs) = Some (x, vs)
point_said (Says.Infeasible c) = None
point_said (Says.Unbounded x vs cs r) = Some (x, vs)
point_said (Says.BestSoFar x vs b) = Some (x, vs)
point_said (Says.Unsure b) = None

abbrev with_point : Option (List Ratio × List Ratio) → Says.Claim
with_point None = Says.Unsure None
with_point (Some xv) = Says.BestSoFar xv.0 xv.1 None

given_says : (c : Claim) (cause : Cause) → Means.claim (given_up c cause) ≡ with_point (point_said (Means.claim c))
given_says (Has.Optimal x vs cs) cause = refl
given_says (Has.Infeasible cert) cause = refl
given_says (Has.Unbounded x vs cs r) cause = refl
given_says (Has.BestSoFar x vs c b) cause = refl
given_says (Has.Unsure c b) cause = refl

left_says : (o : Outcome) (b : Option ProvedBound) (cause : Cause) → claimed (left o cause) None ≡ with_point (point_said (claimed o b))
left_says (Optimal x vs cs) b cause = refl
left_says (Infeasible cert) b cause = refl
left_says (Unbounded x vs cs r) b cause = refl
left_says (BestSoFar x vs c) b cause = refl
left_says (Unsure c) b cause = refl

given_cause : (c : Claim) (cause : Cause) → claimed_cause (given_up c cause) ≡ Some cause
given_cause (Has.Optimal x vs cs) cause = refl
given_cause (Has.Infeasible cert) cause = refl
given_cause (Has.Unbounded x vs cs r) cause = refl
given_cause (Has.BestSoFar x vs c b) cause = refl
given_cause (Has.Unsure c b) cause = refl

left_cause : (o : Outcome) (cause : Cause) → cause_of (left o cause) ≡ Some cause
left_cause (Optimal x vs cs) cause = refl
left_cause (Infeasible cert) cause = refl
left_cause (Unbounded x vs cs r) cause = refl
left_cause (BestSoFar x vs c) cause = refl
left_cause (Unsure c) cause = refl

pub given_shown : (p : Parts) (c : Claim) (cause : Cause) → IsShownClaim p c → IsShownClaim p (given_up c cause)
given_shown p c cause s = record {
  outcome = left s.outcome cause;
  bound = None;
  tells = record {
    says = given_says c cause ∙ ap (λ d. with_point (point_said d)) s.tells.says ∙ sym (left_says s.outcome s.bound cause);
    cause = given_cause c cause ∙ sym (left_cause s.outcome cause);
  };
  shown = left_shown (problem p) s.outcome cause s.shown;
  bounded = tt;
}

-- ---- without a bound

abbrev plain : Says.Claim → Says.Claim
plain (Says.Optimal x vs cs) = Says.Optimal x vs cs
plain (Says.Infeasible c) = Says.Infeasible c
plain (Says.Unbounded x vs cs r) = Says.Unbounded x vs cs r
plain (Says.BestSoFar x vs b) = Says.BestSoFar x vs None
plain (Says.Unsure b) = Says.Unsure None

without_says : (c : Claim) → Means.claim (without_bound c) ≡ plain (Means.claim c)
without_says (Has.Optimal x vs cs) = refl
without_says (Has.Infeasible cert) = refl
without_says (Has.Unbounded x vs cs r) = refl
without_says (Has.BestSoFar x vs c b) = refl
without_says (Has.Unsure c b) = refl

plain_says : (o : Outcome) (b : Option ProvedBound) → claimed o None ≡ plain (claimed o b)
plain_says (Optimal x vs cs) b = refl
plain_says (Infeasible cert) b = refl
plain_says (Unbounded x vs cs r) b = refl
plain_says (BestSoFar x vs c) b = refl
plain_says (Unsure c) b = refl

without_cause : (c : Claim) → claimed_cause (without_bound c) ≡ claimed_cause c
without_cause (Has.Optimal x vs cs) = refl
without_cause (Has.Infeasible cert) = refl
without_cause (Has.Unbounded x vs cs r) = refl
without_cause (Has.BestSoFar x vs c b) = refl
without_cause (Has.Unsure c b) = refl

pub without_shown : (p : Parts) (c : Claim) → IsShownClaim p c → IsShownClaim p (without_bound c)
without_shown p c s = record {
  outcome = s.outcome;
  bound = None;
  tells = record {
    says = without_says c ∙ ap plain s.tells.says ∙ sym (plain_says s.outcome s.bound);
    cause = without_cause c ∙ s.tells.cause;
  };
  shown = s.shown;
  bounded = tt;
}

-- ---- with a time as its cause

timed_says : (c : Claim) (s : Frac) → Means.claim (timed_claim s c) ≡ Means.claim c
timed_says (Has.Optimal x vs cs) s = refl
timed_says (Has.Infeasible cert) s = refl
timed_says (Has.Unbounded x vs cs r) s = refl
timed_says (Has.BestSoFar x vs c b) s = refl
timed_says (Has.Unsure c b) s = refl

pub renamed_says : (timed : Option Frac) (o : Outcome) (b : Option ProvedBound) → claimed (renamed timed o) b ≡ claimed o b
renamed_says None o b = refl
renamed_says (Some s) (Optimal x vs cs) b = refl
renamed_says (Some s) (Infeasible cert) b = refl
renamed_says (Some s) (Unbounded x vs cs r) b = refl
renamed_says (Some s) (BestSoFar x vs c) b = refl
renamed_says (Some s) (Unsure c) b = refl

timed_cause : (c : Claim) (s : Frac) → claimed_cause (timed_claim s c) ≡ option_map (by_time s) (claimed_cause c)
timed_cause (Has.Optimal x vs cs) s = refl
timed_cause (Has.Infeasible cert) s = refl
timed_cause (Has.Unbounded x vs cs r) s = refl
timed_cause (Has.BestSoFar x vs c b) s = refl
timed_cause (Has.Unsure c b) s = refl

renamed_cause : (o : Outcome) (s : Frac) → cause_of (renamed (Some s) o) ≡ option_map (by_time s) (cause_of o)
renamed_cause (Optimal x vs cs) s = refl
renamed_cause (Infeasible cert) s = refl
renamed_cause (Unbounded x vs cs r) s = refl
renamed_cause (BestSoFar x vs c) s = refl
renamed_cause (Unsure c) s = refl

-- the claim tells the outcome as well, with the same bound
pub timed_tells : (c : Claim) (o : Outcome) (b : Option ProvedBound) (s : Frac) → ClaimTellsWith c o b → ClaimTellsWith (timed_claim s c) (renamed (Some s) o) b
timed_tells c o b s tells = record {
  says = timed_says c s ∙ tells.says ∙ sym (renamed_says (Some s) o b);
  cause = timed_cause c s ∙ ap (option_map (by_time s)) tells.cause ∙ sym (renamed_cause o s);
}

-- an outcome is shown so as well
pub renamed_shown : (P : Problem) (timed : Option Frac) (o : Outcome) → IsShown P o → IsShown P (renamed timed o)
renamed_shown P None o s = s
renamed_shown P (Some x) (Optimal y vs cs) s = s
renamed_shown P (Some x) (Infeasible cert) s = s
renamed_shown P (Some x) (Unbounded y vs cs r) s = s
renamed_shown P (Some x) (BestSoFar y vs c) s = s
renamed_shown P (Some x) (Unsure c) s = s

-- want of memory is no time
memory_stays : (timed : Option Frac) (best : Option Found) → renamed timed (early best Memory) ≡ early best Memory
memory_stays None best = refl
memory_stays (Some s) None = refl
memory_stays (Some s) (Some f) = refl

pub memory_tells : (c : Claim) (timed : Option Frac) (best : Option Found) → ClaimTellsWith c (renamed timed (early best Memory)) None → ClaimTells c (early best Memory)
memory_tells c timed best tells = record {
  says = tells.says ∙ renamed_says timed (early best Memory) None;
  cause = tells.cause ∙ ap cause_of (memory_stays timed best);
}

pub with_none : (c : Claim) (o : Outcome) → ClaimTells c o → ClaimTellsWith c o None
with_none c o tells = record { says = tells.says; cause = tells.cause }
