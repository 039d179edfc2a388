-- A search of one goal, without variables that are whole or may be 0 besides, ends at the limit of turns only where the run of its one case does.
use Rattle.std.proofs.Common.{◌≡◌, ◌+◌, ◌^◌, ◌≤◌, ◌⊎◌, inl, inr, Bool, false, Option, None, Some, List, [], ◌∷◌, refl, ◌∙◌, ap, subst, arith}
use Rattle.std.specs.Option.{is_some}
use Rattle.rational.specs.Ratio.{Ratio}
use Rattle.evidence.specs.Instance.{Goal, Instance, Problem, IsInstance, alone, width, height}
use Rattle.evidence.specs.Cases.{Multiplier}
use Rattle.certificate.specs.declared.causes.Cause.{Cause}
use Rattle.simplex_rules.specs.Ends.{Terms, Clock, End, Clash, Empty, Best, Endless, TurnsOut, TooWide, Stopped}
use Rattle.simplex_rules.specs.Runs.{Run, looked_once}
use Rattle.search_rules.specs.Branching.{Case}
use Rattle.search_rules.specs.Cuts.{Trial, NoCut, WideCut, Cut}
use Rattle.search_rules.specs.Search.{Found, SearchMoment, Outcome, To, Out, StopsBefore, Branches, TakesFound, TakesPoint, MeetsPoint, GoesFromTrial, GoesFromBest, GoesFrom, ClosesLevel, IsNextInSearch, IsVisit, IsSearchAnswer, early, undivided}
use Rattle.search_rules.specs.Outcomes.{HaveOneRange, IsPlain}
use Rattle.search_rules.specs.Beginnings.{first_with, ComesFrom, begins, goes_on, IsAnswerFrom, searched, given_up, given_up_after}
use Rattle.search_rules.proofs.PlainSearches.{from_plain, visit_closed}
use Rattle.search_rules.proofs.FirstPoints.{answer_plain}
use Rattle.no_cycles.specs.Beginning.{BeginsFeasible}
use Rattle.no_cycles.specs.Searches.{is_turn_limit, is_for, is_out_of_turns}
use Rattle.no_cycles.proofs.SecondPhase.{never_out}
use Rattle.no_cycles.proofs.FirstBasis.{settled_first}

pub early_is : (such : Cause → Bool) (best : Option Found) (c : Cause) → is_for such (early best c) ≡ such c
early_is such None c = refl
early_is such (Some f) c = refl

-- an outcome that is told is within its turns
told : {o p : Outcome} {c d : Clock} → Out o c ≡ Out p d → is_out_of_turns p ≡ false → is_out_of_turns o ≡ false
told {o} {p} {c} {d} e within = let f : o ≡ p = cc in ap is_out_of_turns f ∙ within

module _ (P : Problem) (t : Terms) (m : SearchMoment) (o : Outcome) (c : Clock) where
  stops_within : StopsBefore P t m (Out o c) → is_out_of_turns o ≡ false
  stops_within (inl (limit, e)) = told e (early_is is_turn_limit m.best _)
  stops_within (inr (under, stop, e)) = told e (early_is is_turn_limit m.best _)

  closes_within : (best : Option Found) (gs : List Goal) → ClosesLevel P t m best gs (Out o c) → is_out_of_turns o ≡ false
  closes_within None gs e = told e refl
  closes_within (Some f) [] e = told e refl
  closes_within (Some f) (g ∷ gs) (inl (e, end, q)) = absurd (cc)
  closes_within (Some f) (g ∷ gs) (inr (wide, inl s)) = stops_within s
  closes_within (Some f) (g ∷ gs) (inr (wide, inr (goes, q))) = told q (early_is is_turn_limit m.best _)

  module _ (C : Case) (rest : List Case) where
    branches_on : (x : List Ratio) → Branches C rest m x (Out o c) → is_out_of_turns o ≡ false
    branches_on x (inl (j, k, s, e)) = absurd (cc)
    branches_on x (inr (j, s, e)) = absurd (cc)

    taken_within : (ray : Option (List Ratio)) (f : Found) (ms : List Multiplier) → TakesFound P t ray rest m f ms (Out o c) → is_out_of_turns o ≡ false
    taken_within None f ms e = absurd (cc)
    taken_within (Some r) f ms e = told e refl

    takes_within : (x : List Ratio) (ms : List Multiplier) → TakesPoint P t C rest m x ms (Out o c) → is_out_of_turns o ≡ false
    takes_within x ms (met, inl (f, e)) = told e (early_is is_turn_limit m.best _)
    takes_within x ms (met, inr (vs, fits, values, takes)) = taken_within C.ray (record { point = x; values = vs }) ms takes

    trial_within : (x : List Ratio) (trial : Trial) → GoesFromTrial P t C rest m x trial (Out o c) → is_out_of_turns o ≡ false
    trial_within x NoCut g = branches_on x g
    trial_within x WideCut g = told g (early_is is_turn_limit m.best _)
    trial_within x (Cut ms cs k) g = absurd (cc)

    meets_within : (x : List Ratio) (ms : List Multiplier) → MeetsPoint P t C rest m x ms (Out o c) → is_out_of_turns o ≡ false
    meets_within x ms (inl b) = branches_on x b
    meets_within x ms (inr p) = takes_within x ms p

    best_within : (ray : Option (List Ratio)) (before : Clock) (b : Ratio) (x : List Ratio) (ms : List Multiplier) → GoesFromBest P t ray C rest m before b x ms (Out o c) → is_out_of_turns o ≡ false
    best_within None before b x ms (inl (p, e)) = absurd (cc)
    best_within None before b x ms (inr (hope, inl p)) = takes_within x ms p
    best_within None before b x ms (inr (hope, inr (inl (never, p)))) = branches_on x p
    best_within None before b x ms (inr (hope, inr (inr (ss, trial, may, other, ends, tries, g)))) = trial_within x trial g
    best_within (Some r) before b x ms g = meets_within x ms g

module _ (P : Problem) (t : Terms) (m : SearchMoment) (o : Outcome) (c : Clock) (C : Case) (rest : List Case) where
  goes_within : (before : Clock) (e : End) → (e ≡ TurnsOut → ⊥) → GoesFrom P t C rest m before e (Out o c) → is_out_of_turns o ≡ false
  goes_within before (Clash k) off e = absurd (cc)
  goes_within before (Empty ms) off e = absurd (cc)
  goes_within before (Best b x ms) off g = best_within P t m o c C rest C.ray before b x ms g
  goes_within before (Endless x d) off (inl (j, f, e)) = absurd (cc)
  goes_within before (Endless x d) off (inr (inl (still, f, e))) = told e (early_is is_turn_limit m.best _)
  goes_within before (Endless x d) off (inr (inr (r, still, s, g))) = meets_within P t m o c (record C { ray = Some r }) rest x [] g
  goes_within before TurnsOut off e = absurd (off refl)
  goes_within before (TooWide w) off e = told e (early_is is_turn_limit m.best _)
  goes_within before Stopped off e = told e (early_is is_turn_limit m.best _)

module _ (I : Instance) (t : Terms) (plain : IsPlain I) (ranges : HaveOneRange I) (start : Option Found) where
  abbrev P : Problem
  P = alone I

  -- the first moment, or one at which no case is left, and no goal is asked after it
  abbrev IsWholeOrClosed : SearchMoment → Type 0
  IsWholeOrClosed m = (m ≡ first_with P start) ⊎ ((m.waiting ≡ []) × (m.level.later ≡ []))

  closed_ends : (m n : SearchMoment) (best : Option Found) (gs : List Goal) → gs ≡ [] → ClosesLevel P t m best gs (To n) → ⊥
  closed_ends m n None gs e f = cc
  closed_ends m n (Some f) [] e q = cc
  closed_ends m n (Some f) (g ∷ gs) e q = cc

  next_closed : (m n : SearchMoment) → ComesFrom P t start m → IsWholeOrClosed m → IsNextInSearch P t m (To n) → IsWholeOrClosed n
  next_closed m n comes (inl e) (inl (none, closes)) = let w = ap (λ k. k.waiting) e in absurd (cc)
  next_closed m n comes (inr (none, later)) (inl (empty, closes)) = absurd (closed_ends m n m.best m.level.later later closes)
  next_closed m n comes at (inr (inl (some, inl (limit, e)))) = absurd (cc)
  next_closed m n comes at (inr (inl (some, inr (under, stop, e)))) = absurd (cc)
  next_closed m n comes (inl e) (inr (inr v)) =
      let c = visit_closed P t plain ranges m n (from_plain P t plain ranges start m comes) v in
      inr (c.1, ap (λ l. l.later) c.0 ∙ ap (λ k. k.level.later) e)
  next_closed m n comes (inr (none, later)) (inr (inr v)) = let q = v.visit.is in absurd (cc)

  whole_or_closed : (m : SearchMoment) → ComesFrom P t start m → IsWholeOrClosed m
  whole_or_closed m begins = inl refl
  whole_or_closed m (goes_on {m = before} c next) = next_closed before m c (whole_or_closed before c) next

  module _ (good : IsInstance I) (feasible : BeginsFeasible I) (enough : 4 ^ (width I + height I) ≤ t.turns) where
    visit_within : (o : Outcome) (c : Clock) → IsVisit P t (first_with P start) (Out o c) → is_out_of_turns o ≡ false
    visit_within o c v =
        let same : undivided I ∷ [] ≡ v.visit.case ∷ v.visit.rest = v.visit.is in
        let case : v.visit.case ≡ undivided I = cc in
        let k : Clock = looked_once (first_with P start).clock in
        let run : Run I false t k v.end v.clock = subst (λ C. Run C.program (is_some C.ray) t k v.end v.clock) case v.visit.run in
        goes_within P t (record (first_with P start) { clock = v.clock }) o c v.visit.case v.visit.rest k v.end
        (λ e. never_out I false t k v.clock good (λ room. settled_first I false good room feasible) (omega (arith, enough)) (subst (λ x. Run I false t k x v.clock) e run)) v.goes

    next_within : (m : SearchMoment) (o : Outcome) (c : Clock) → IsWholeOrClosed m → IsNextInSearch P t m (Out o c) → is_out_of_turns o ≡ false
    next_within m o c at (inl (none, closes)) = closes_within P t m o c m.best m.level.later closes
    next_within m o c at (inr (inl (some, stops))) = stops_within P t m o c stops
    next_within m o c (inl e) (inr (inr v)) = visit_within o c (subst (λ x. IsVisit P t x (Out o c)) e v)
    next_within m o c (inr (none, later)) (inr (inr v)) = let q = v.visit.is in absurd (cc)

    pub from_within_turns : (o : Outcome) (c : Clock) → IsAnswerFrom P t start o c → is_out_of_turns o ≡ false
    from_within_turns o c (searched s) = next_within s.last o c (whole_or_closed s.last s.comes) s.ends
    from_within_turns o c (given_up {m} comes) = early_is is_turn_limit m.best _
    from_within_turns o c (given_up_after {m} comes run) = early_is is_turn_limit m.best _

-- and from none
pub within_turns : (I : Instance) (t : Terms) → IsPlain I → HaveOneRange I → IsInstance I → BeginsFeasible I → 4 ^ (width I + height I) ≤ t.turns → (o : Outcome) (c : Clock) → IsSearchAnswer (alone I) t o c → is_out_of_turns o ≡ false
within_turns I t plain ranges good feasible enough o c answer = from_within_turns I t plain ranges None good feasible enough o c (answer_plain (alone I) t o c answer)
