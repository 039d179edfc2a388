-- What is left of an accepted claim that is given up is accepted where it claims something, and its document isn't too long.
use Rattle.std.proofs.Common.{◌≡◌, ℕ, Option, None, Some, List, arith}
use Rattle.std.proofs.lemmas.List.{length-map, length-drop}
use Rattle.fraction.specs.Frac.{ratio, ratios}
use Rattle.fraction.specs.declared.frac.Frac.{Frac}
use Rattle.evidence.specs.Instance.{Problem}
use Rattle.evidence.specs.Levels.{HasGoalValues}
use Rattle.evidence.specs.Claim.{Accepts}
use Rattle.instance.specs.Parts.{Parts, IsValid}
use Rattle.instance.specs.Program.{problem, variable, goal, goals}
use Rattle.certificate.specs.GivenUp.{given_up, without_bound}
use Rattle.certificate.specs.Meanings as Means
use Rattle.certificate.specs.declared.causes.Cause.{Cause}
use Rattle.certificate.specs.declared.claims.Claim.{Claim}
use Rattle.certificate.specs.declared.claims.Claim.TheVariants as Has
use Rattle.document_checker.specs.declared.documents.Kind.{Kind}
use Rattle.document_checker.specs.Documents.{kind}
use Rattle.solve_run.specs.Closings.{IsShort}
use Rattle.solve_run.proofs.Lengths.{IsShortName, unsure_short, best_short}

pub left_accepted : (P : Problem) (c : Claim) (cause : Cause) (k : Kind) → Accepts P (Means.claim c) → kind (given_up c cause) ≡ Some k → Accepts P (Means.claim (given_up c cause))
left_accepted P (Has.Optimal x vs cs) cause k a says = (a.0, a.1, tt)
left_accepted P (Has.Infeasible c) cause k a says = absurd (cc)
left_accepted P (Has.Unbounded x vs cs r) cause k a says = (a.0, a.1, tt)
left_accepted P (Has.BestSoFar x vs old None) cause k a says = (a.0, a.1, tt)
left_accepted P (Has.BestSoFar x vs old (Some b)) cause k a says = (a.0, a.1, tt)
left_accepted P (Has.Unsure old b) cause k a says = absurd (cc)

-- and so is an accepted claim without its bound
pub without_accepted : (P : Problem) (c : Claim) (k : Kind) → Accepts P (Means.claim c) → kind (without_bound c) ≡ Some k → Accepts P (Means.claim (without_bound c))
without_accepted P (Has.Optimal x vs cs) k a says = a
without_accepted P (Has.Infeasible c) k a says = a
without_accepted P (Has.Unbounded x vs cs r) k a says = a
without_accepted P (Has.BestSoFar x vs cause None) k a says = a
without_accepted P (Has.BestSoFar x vs cause (Some b)) k a says = (a.0, a.1, tt)
without_accepted P (Has.Unsure cause b) k a says = absurd (cc)

-- a point with its values has a number for each variable, and a value for each goal
module _ (p : Parts) (job : Option (List ℕ)) (valid : IsValid p) (name : IsShortName job) where
  point_short : (x vs : List Frac) (cause : Cause) → HasGoalValues (problem p) (ratios x) (ratios vs) → IsShort job (Has.BestSoFar x vs cause None)
  point_short x vs cause has =
      let count = has.feasible.count in
      let values = has.count in
      let few = valid.few_vars in
      let some = valid.some_goal in
      let asked = valid.few_goals in
      best_short job name x vs cause (omega (arith, count, few, length-map x ratio, length-map p.vars variable)) (omega (arith, values, some, asked, length-map vs ratio, length-drop 1 (goals p.goals), length-map p.goals goal))

  pub left_short : (c : Claim) (cause : Cause) → Accepts (problem p) (Means.claim c) → IsShort job (given_up c cause)
  left_short (Has.Optimal x vs cs) cause a = point_short x vs cause a.0
  left_short (Has.Infeasible c) cause a = unsure_short job name cause
  left_short (Has.Unbounded x vs cs r) cause a = point_short x vs cause a.0
  left_short (Has.BestSoFar x vs old None) cause a = point_short x vs cause a.0
  left_short (Has.BestSoFar x vs old (Some b)) cause a = point_short x vs cause a.0
  left_short (Has.Unsure old b) cause a = unsure_short job name cause
