-- A search that is given up tells its bound, where its sums fit and its document isn't too long.
use Rattle.std.proofs.Common.{◌≡◌, ◌∙◌, ℕ, inl, inr, Bool, true, false, Option, None, Some, List, refl, ap, sym, subst}
use Rattle.std.specs.Prelude.{nat_eq}
use Rattle.std.proofs.lemmas.Bool.{eqb-true}
use Rattle.fraction.specs.declared.frac.Frac.{Frac}
use Rattle.evidence.specs.Instance.{Problem, IsProblem}
use Rattle.evidence.specs.ProvedBounds.{ProvedBound, IsProvedBound}
use Rattle.evidence.specs.Claim.{Accepts}
use Rattle.instance.specs.Parts.{Parts}
use Rattle.instance.specs.Program.{problem}
use Rattle.certificate.specs.Meanings as Means
use Rattle.certificate.specs.declared.claims.Claim.{Claim}
use Rattle.certificate.specs.declared.claims.Claim.TheVariants as Has
use Rattle.search_rules.specs.Search.{SearchMoment, Outcome, Optimal, Infeasible, Unbounded, BestSoFar, Unsure}
use Rattle.search_rules.specs.Outcomes.{IsShown}
use Rattle.search_rules.specs.Bounds.{Carried, claimed}
use Rattle.search_rules.specs.Asked.{FindsAsked, asked as searched}
use Rattle.osrl_writing.specs.declared.report.Report.{Report}
use Rattle.solve_run.specs.declared.closing.Judged.{Judged}
use Rattle.solve_run.specs.declared.closing.Judged.TheVariants.{Width, Bound}
use Rattle.solve_run.specs.Judging.{is_bounded, IsJudged, checked}
use Rattle.solve_run.specs.Closings.{IsShort, IsFitted, IsFormed, IsToldOf}
use Rattle.solve_run.specs.Asking.{job_asked}
use Rattle.solve_run.specs.Untils.{job_terms, renamed}
use Rattle.solve_run.specs.JobAnswers.{SolvedBeside}
use Rattle.solve_run.proofs.PartialClaims.{AskedAreShown, bound_said, bounded_other, renamed_says}
use Rattle.solve_run.proofs.WidthRefusals.{has_values}

-- only what is given up has a bound
bound_is : (P : Problem) (asks : Bool) (m : SearchMoment) (ks : List Carried) (o : Outcome) (b : ProvedBound) → FindsAsked P asks m ks o (Some b) → bound_said (claimed o (Some b)) ≡ Some b
bound_is P false m ks o b none = absurd (cc)
bound_is P true m ks (Optimal x vs cs) b none = absurd (cc)
bound_is P true m ks (Infeasible c) b none = absurd (cc)
bound_is P true m ks (Unbounded x vs cs r) b none = absurd (cc)
bound_is P true m ks (BestSoFar x vs c) b found = refl
bound_is P true m ks (Unsure c) b found = refl

-- with a bound whose sums fit it is accepted
bound_accepted : (P : Problem) (o : Outcome) (b : ProvedBound) → IsShown P o → bound_said (claimed o (Some b)) ≡ Some b → IsProvedBound P b → Accepts P (claimed o (Some b))
bound_accepted P (Optimal x vs cs) b s has proved = absurd (cc)
bound_accepted P (Infeasible c) b s has proved = absurd (cc)
bound_accepted P (Unbounded x vs cs r) b s has proved = absurd (cc)
bound_accepted P (BestSoFar x vs c) b s has proved = (has_values P x vs s, s.fits, proved)
bound_accepted P (Unsure c) b s has proved = proved

claim_bounded : (c : Claim) (b : ProvedBound) → bound_said (Means.claim c) ≡ Some b → is_bounded c ≡ true
claim_bounded (Has.Optimal x vs cs) b e = absurd (cc)
claim_bounded (Has.Infeasible cert) b e = absurd (cc)
claim_bounded (Has.Unbounded x vs cs r) b e = absurd (cc)
claim_bounded (Has.BestSoFar x vs c None) b e = absurd (cc)
claim_bounded (Has.BestSoFar x vs c (Some d)) b e = refl
claim_bounded (Has.Unsure c None) b e = absurd (cc)
claim_bounded (Has.Unsure c (Some d)) b e = refl

-- an accepted claim with a bound is told as it is
told_whole : (p : Parts) (job : Option (List ℕ)) (form turns : ℕ) (found told : Claim) → is_bounded found ≡ true → Accepts (problem p) (Means.claim found) → IsShort job found → IsToldOf p job form turns found told → told ≡ found
told_whole p job form turns found told bounded accepted short c = by c.verdict c.judged c.forms c.fitted
  where
    as_it_is : IsFormed p job form found c.formed → IsFitted job c.formed told → told ≡ found
    as_it_is (inl (one, fine, is)) fitted = absurd (bounded_other found bounded fine.0)
    as_it_is (inr (other_form, is)) (inl (few, same)) = same ∙ is
    as_it_is (inr (other_form, is)) (inr (inl (long, few, same))) = absurd (long (subst (IsShort job) (sym is) short))
    as_it_is (inr (other_form, is)) (inr (inr (long, longer, same))) = absurd (long (subst (IsShort job) (sym is) short))

    by : (verdict : Judged) → IsJudged p found verdict → IsFormed p job form (checked found turns verdict) c.formed → IsFitted job c.formed told → told ≡ found
    by (Width None) judged forms fitted = let clash : false ≡ true = sym judged.0 ∙ bounded in absurd (cc)
    by (Width (Some n)) judged forms fitted = absurd (bounded_other found bounded judged.0)
    by (Bound true) judged forms fitted = as_it_is forms fitted
    by (Bound false) judged forms fitted = absurd (judged.1 accepted)

pub told_bounds : AskedAreShown → ((p : Parts) → IsProblem (problem p)) → (beside : Option (List ℕ)) (osil osol : List ℕ) (stop : Option ℕ) (timed : Option Frac) (looks : ℕ) (r : Report) (s : SolvedBeside beside osil osol stop timed looks r) (b : ProvedBound) → s.bound ≡ Some b → IsProvedBound (problem s.given.parts) b → IsShort s.given.options.job s.found
    → Means.claim s.told ≡ claimed (renamed timed s.outcome) (Some b)
told_bounds shows numbers beside osil osol stop timed looks r s b is proved short =
    let p = s.given.parts in
    let shown = shows.outcome (problem p) (job_terms s.given.options stop) (job_asked s.given.options) _ s.start s.outcome s.bound _ (numbers p) s.first (searched s.ends) in
    let has : bound_said (claimed s.outcome (Some b)) ≡ Some b = bound_is (problem p) (nat_eq s.given.options.bound 1) s.ends.last s.ends.carried s.outcome b (subst (FindsAsked (problem p) (nat_eq s.given.options.bound 1) s.ends.last s.ends.carried s.outcome) is s.ends.has) in
    let says : Means.claim s.found ≡ claimed (renamed timed s.outcome) (Some b) = s.tells.says ∙ ap (claimed (renamed timed s.outcome)) is in
    let plainly : Means.claim s.found ≡ claimed s.outcome (Some b) = says ∙ renamed_says timed s.outcome (Some b) in
    let bounded = claim_bounded s.found b (ap bound_said plainly ∙ has) in
    let accepted = subst (Accepts (problem p)) (sym plainly) (bound_accepted (problem p) s.outcome b shown has proved) in
    ap Means.claim (told_whole p s.given.options.job s.given.options.form s.turns s.found s.told bounded accepted short s.closed) ∙ says

-- of which none is asked
pub none_unasked : (beside : Option (List ℕ)) (osil osol : List ℕ) (stop : Option ℕ) (timed : Option Frac) (looks : ℕ) (r : Report) (s : SolvedBeside beside osil osol stop timed looks r) → (s.given.options.bound ≡ 1 → ⊥) → s.bound ≡ None
none_unasked beside osil osol stop timed looks r s unasked = by (nat_eq s.given.options.bound 1) refl s.ends.has
  where
    by : (asks : Bool) → nat_eq s.given.options.bound 1 ≡ asks → FindsAsked (problem s.given.parts) asks s.ends.last s.ends.carried s.outcome s.bound → s.bound ≡ None
    by false e none = none
    by true e found = absurd (unasked (eqb-true s.given.options.bound 1 e))
