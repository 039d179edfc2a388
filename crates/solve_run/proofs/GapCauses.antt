-- A search is given up for a gap only where one is asked for, and then no feasible point is better than its best one by more than the gap allows.
use Rattle.std.proofs.Common.{◌≡◌, ◌∙◌, ℕ, inl, inr, Bool, true, false, cond, Option, None, Some, List, [], ◌∷◌, refl, ap, sym, subst}
use Rattle.rational.specs.Ratio.{Ratio, IsAtMost}
use Rattle.fraction.specs.declared.frac.Frac.{Frac}
use Rattle.evidence.specs.Sums.{none}
use Rattle.evidence.specs.Instance.{Goal, Problem, IsProblem}
use Rattle.evidence.specs.Point.{objective, IsFeasible}
use Rattle.evidence.specs.ProvedBounds.{IsWithinGap}
use Rattle.evidence.specs.Cases.{Multiplier}
use Rattle.instance.specs.Parts.{Parts}
use Rattle.instance.specs.Program.{problem}
use Rattle.certificate.specs.declared.causes.Cause.{Cause}
use Rattle.certificate.specs.declared.causes.Cause.TheVariants as causes
use Rattle.simplex_rules.specs.Ends.{Terms, Clock, End, Clash, Empty, Best, Endless, TurnsOut, TooWide, Stopped}
use Rattle.simplex_rules.specs.Runs.{looked_once}
use Rattle.search_rules.specs.Branching.{Case}
use Rattle.search_rules.specs.Cuts.{Trial, NoCut, WideCut, Cut}
use Rattle.search_rules.specs.Search.{Found, SearchMoment, Outcome, Optimal, Infeasible, Unbounded, BestSoFar, Unsure, To, Out, StopsBefore, Branches, TakesFound, TakesPoint, MeetsPoint, GoesFromTrial, GoesFromBest, GoesFrom, ClosesLevel, IsNextInSearch, early, reached}
use Rattle.search_rules.specs.Bounds.{Carried}
use Rattle.search_rules.specs.Beginnings.{IsFirstBest}
use Rattle.search_rules.specs.Gaps as gaps
use Rattle.search_rules.specs.Gaps.{IsNearBy, IsNearEnough}
use Rattle.search_rules.specs.Asked.{Asked, ComesAsked, EndsAsked, near as stops_near, ends as ends_so}
use Rattle.branch_bound.specs.Claims.{cause_of}
use Rattle.osol_grammar.specs.declared.gaps.Gap.{Gap}
use Rattle.osrl_writing.specs.declared.report.Report.{Report}
use Rattle.solve_run.specs.Asking.{gap_as, search_gap, job_asked, GapHolds}
use Rattle.solve_run.specs.Untils.{job_terms}
use Rattle.solve_run.specs.JobAnswers.{SolvedBeside}

-- the cause of a gap
abbrev is_near : Cause → Bool
is_near causes.Killed = false
is_near (causes.NodeLimit n) = false
is_near (causes.TurnLimit n) = false
is_near causes.Gap = true
is_near (causes.TimeLimit x) = false
is_near (causes.Wide p) = false
is_near causes.Length = false
is_near causes.Memory = false

abbrev is_for : (Cause → Bool) → Outcome → Bool
is_for such (Optimal x vs cs) = false
is_for such (Infeasible cert) = false
is_for such (Unbounded x vs cs r) = false
is_for such (BestSoFar x vs c) = such c
is_for such (Unsure c) = such c

early_is : (such : Cause → Bool) (best : Option Found) (c : Cause) → is_for such (early best c) ≡ such c
early_is such None c = refl
early_is such (Some f) c = refl

told : {o p : Outcome} {c d : Clock} → Out o c ≡ Out p d → is_for is_near p ≡ false → is_for is_near o ≡ false
told {o} {p} {c} {d} e other = let f : o ≡ p = cc in ap (is_for is_near) f ∙ other

module _ (P : Problem) (t : Terms) (m : SearchMoment) (o : Outcome) (c : Clock) where
  stops_within : StopsBefore P t m (Out o c) → is_for is_near o ≡ false
  stops_within (inl (limit, e)) = told e (early_is is_near m.best _)
  stops_within (inr (under, stop, e)) = told e (early_is is_near m.best _)

  closes_within : (best : Option Found) (gs : List Goal) → ClosesLevel P t m best gs (Out o c) → is_for is_near o ≡ false
  closes_within None gs e = told e refl
  closes_within (Some f) [] e = told e refl
  closes_within (Some f) (g ∷ gs) (inl (e, end, q)) = absurd (cc)
  closes_within (Some f) (g ∷ gs) (inr (wide, inl s)) = stops_within s
  closes_within (Some f) (g ∷ gs) (inr (wide, inr (goes, q))) = told q (early_is is_near m.best _)

  module _ (C : Case) (rest : List Case) where
    branches_on : (x : List Ratio) → Branches C rest m x (Out o c) → is_for is_near o ≡ false
    branches_on x (inl (j, k, s, e)) = absurd (cc)
    branches_on x (inr (j, s, e)) = absurd (cc)

    taken_within : (ray : Option (List Ratio)) (f : Found) (ms : List Multiplier) → TakesFound P t ray rest m f ms (Out o c) → is_for is_near o ≡ false
    taken_within None f ms e = absurd (cc)
    taken_within (Some r) f ms e = told e refl

    takes_within : (x : List Ratio) (ms : List Multiplier) → TakesPoint P t C rest m x ms (Out o c) → is_for is_near o ≡ false
    takes_within x ms (met, inl (f, e)) = told e (early_is is_near m.best _)
    takes_within x ms (met, inr (vs, fits, values, takes)) = taken_within C.ray (record { point = x; values = vs }) ms takes

    trial_within : (x : List Ratio) (trial : Trial) → GoesFromTrial P t C rest m x trial (Out o c) → is_for is_near o ≡ false
    trial_within x NoCut g = branches_on x g
    trial_within x WideCut g = told g (early_is is_near m.best _)
    trial_within x (Cut ms cs k) g = absurd (cc)

    meets_within : (x : List Ratio) (ms : List Multiplier) → MeetsPoint P t C rest m x ms (Out o c) → is_for is_near o ≡ false
    meets_within x ms (inl b) = branches_on x b
    meets_within x ms (inr p) = takes_within x ms p

    best_within : (ray : Option (List Ratio)) (before : Clock) (b : Ratio) (x : List Ratio) (ms : List Multiplier) → GoesFromBest P t ray C rest m before b x ms (Out o c) → is_for is_near o ≡ false
    best_within None before b x ms (inl (p, e)) = absurd (cc)
    best_within None before b x ms (inr (hope, inl p)) = takes_within x ms p
    best_within None before b x ms (inr (hope, inr (inl (never, p)))) = branches_on x p
    best_within None before b x ms (inr (hope, inr (inr (ss, trial, may, other, ends, tries, g)))) = trial_within x trial g
    best_within (Some r) before b x ms g = meets_within x ms g

module _ (P : Problem) (t : Terms) (m : SearchMoment) (o : Outcome) (c : Clock) (C : Case) (rest : List Case) where
  goes_within : (before : Clock) (e : End) → GoesFrom P t C rest m before e (Out o c) → is_for is_near o ≡ false
  goes_within before (Clash k) e = absurd (cc)
  goes_within before (Empty ms) e = absurd (cc)
  goes_within before (Best b x ms) g = best_within P t m o c C rest C.ray before b x ms g
  goes_within before (Endless x d) (inl (j, f, e)) = absurd (cc)
  goes_within before (Endless x d) (inr (inl (still, f, e))) = told e (early_is is_near m.best _)
  goes_within before (Endless x d) (inr (inr (r, still, s, g))) = meets_within P t m o c (record C { ray = Some r }) rest x [] g
  goes_within before TurnsOut e = told e (early_is is_near m.best _)
  goes_within before (TooWide w) e = told e (early_is is_near m.best _)
  goes_within before Stopped e = told e (early_is is_near m.best _)

module _ (P : Problem) (t : Terms) (m : SearchMoment) (o : Outcome) (c : Clock) where
  -- a search of which nothing is asked isn't given up for a gap
  next_within : IsNextInSearch P t m (Out o c) → is_for is_near o ≡ false
  next_within (inl (none, closes)) = closes_within P t m o c m.best m.level.later closes
  next_within (inr (inl (some, stops))) = stops_within P t m o c stops
  next_within (inr (inr v)) = goes_within P t (record m { clock = v.clock }) o c v.visit.case v.visit.rest (looked_once m.clock) v.end v.goes

near_cause : (o : Outcome) → cause_of o ≡ Some causes.Gap → is_for is_near o ≡ true
near_cause (Optimal x vs cs) e = absurd (cc)
near_cause (Infeasible cert) e = absurd (cc)
near_cause (Unbounded x vs cs r) e = absurd (cc)
near_cause (BestSoFar x vs c) e = let is : c ≡ causes.Gap = cc in ap is_near is
near_cause (Unsure c) e = let is : c ≡ causes.Gap = cc in ap is_near is

-- where it is, the best point is near enough
ends_near : (P : Problem) (t : Terms) (a : Asked) (m : SearchMoment) (xs : List (Option Ratio)) (o : Outcome) (c : Clock) → cause_of o ≡ Some causes.Gap → EndsAsked P t a m xs o c → IsNearEnough P a.gap m xs
ends_near P t a m xs o c cause (stops_near s) = s.near
ends_near P t a m xs o c cause (ends_so far next) = let clash : true ≡ false = sym (near_cause o cause) ∙ next_within P t m o c next in absurd (cc)

-- what the law of near points says
abbrev NearLaw : Type 0
NearLaw = (P : Problem) (t : Terms) (a : Asked) (gs : Option (List (Option Ratio))) (start : Option Found) (g : gaps.Gap) (m : SearchMoment) (ks : List Carried) (xs : List (Option Ratio)) → IsProblem P → IsFirstBest P gs start → ComesAsked P t a start m ks xs → (near : IsNearBy P g m xs) → IsAtMost none near.allowed → (y : List Ratio) → IsFeasible P.program y → IsWithinGap P.program (reached m.level near.found) (objective P.program y) near.allowed

pub gap_held : NearLaw → ((p : Parts) → IsProblem (problem p)) → (beside : Option (List ℕ)) (osil osol : List ℕ) (stop : Option ℕ) (timed : Option Frac) (looks : ℕ) (r : Report) (s : SolvedBeside beside osil osol stop timed looks r) → cause_of s.outcome ≡ Some causes.Gap
    → (g : Gap) × (s.given.options.gap ≡ Some g) × GapHolds (problem s.given.parts) g s.ends.last s.ends.numbers
gap_held law numbers beside osil osol stop timed looks r s cause = by s.given.options.gap refl (ends_near (problem s.given.parts) (job_terms s.given.options stop) (job_asked s.given.options) s.ends.last s.ends.numbers s.outcome _ cause s.ends.ends)
  where
    by : (said : Option Gap) → s.given.options.gap ≡ said → IsNearEnough (problem s.given.parts) (search_gap said) s.ends.last s.ends.numbers → (g : Gap) × (s.given.options.gap ≡ Some g) × GapHolds (problem s.given.parts) g s.ends.last s.ends.numbers
    by None is near = absurd near
    by (Some g) is near = (
      g,
      is,
      record {
        near = near;
        holds = λ above y feasible. law (problem s.given.parts) (job_terms s.given.options stop) (job_asked s.given.options) _ s.start (gap_as g) s.ends.last s.ends.carried s.ends.numbers (numbers s.given.parts) s.first s.ends.comes near above y feasible;
      },
    )
