-- What a search shows by its outcome.
use Rattle.std.proofs.Common.{◌≡◌, ◌⊎◌, inl, inr, suc, Option, None, Some, List, [], ◌∷◌, ◌++◌, length, arith, refl, sym, ap, subst}
use Rattle.std.specs.List.{All}
use Rattle.std.specs.Option.{is_some}
use Rattle.std.proofs.lemmas.List.Elements.{All-push}
use Rattle.rational.specs.Ratio.{Ratio}
use Rattle.evidence.specs.Instance.{Goal, Instance, Problem, IsProblem}
use Rattle.evidence.specs.Levels.{RoundsAreOfOneGoal}
use Rattle.evidence.specs.Cases.{Multiplier}
use Rattle.certificate.specs.declared.causes.Cause.{Cause}
use Rattle.simplex_rules.specs.Ends.{Terms, Clock, End, Clash, Empty, Best, Endless, TurnsOut, TooWide, Stopped, Shown, IsRelaxed}
use Rattle.simplex_rules.specs.Runs.{looked_once}
use Rattle.simplex_rules.proofs.Moments.{run_true}
use Rattle.search_rules.specs.Branching.{Case}
use Rattle.search_rules.specs.Cuts.{Trial, NoCut, WideCut, Cut}
use Rattle.search_rules.specs.Search.{Found, SearchMoment, Outcome, Optimal, Infeasible, Out, early, shown_at, reached, StopsBefore, Branches, TakesFound, TakesPoint, MeetsPoint, GoesFromTrial, GoesFromBest, GoesFrom, ClosesLevel, IsNextInSearch, Search, IsSearchAnswer, searched, given_up, given_up_after}
use Rattle.search_rules.specs.Outcomes.{CertificateProves, IsShown}
use Rattle.search_rules.proofs.Cases.{IsOpen, feasible}
use Rattle.search_rules.proofs.Nodes.{Within}
use Rattle.search_rules.proofs.Levels.{Reaches, reaches_end, reaches_ray}
use Rattle.search_rules.proofs.Moments.{HasNoRounds, HoldsWith, Holds, found_point, this, open_along, clocked, closed_proves, best_proves, comes_hold}

out_is : {o p : Outcome} {c d : Clock} → Out o c ≡ Out p d → p ≡ o
out_is e = cc

-- the cuts are of problems with one goal
rounds_shown : (P : Problem) (m : SearchMoment) {A : Instance → Type 0} → HoldsWith P m A → RoundsAreOfOneGoal P m.level.shown
rounds_shown P m h = by h.rounds
  where
    by : (P.later ≡ []) ⊎ (All HasNoRounds m.level.shown × (m.rounds ≡ [])) → RoundsAreOfOneGoal P m.level.shown
    by (inl e) = inl e
    by (inr (a, e)) = inr a

rounds_closed : (P : Problem) (m : SearchMoment) → Holds P m → RoundsAreOfOneGoal P (m.level.shown ++ shown_at m ∷ [])
rounds_closed P m h = by h.rounds
  where
    by : (P.later ≡ []) ⊎ (All HasNoRounds m.level.shown × (m.rounds ≡ [])) → RoundsAreOfOneGoal P (m.level.shown ++ shown_at m ∷ [])
    by (inl e) = inl e
    by (inr (a, e)) = inr (All-push HasNoRounds m.level.shown (shown_at m) a e)

module _ (P : Problem) (m : SearchMoment) {A : Instance → Type 0} (h : HoldsWith P m A) where
  -- the best point, where there is one
  pub early_shown : (best : Option Found) (c : Cause) → m.best ≡ best → IsShown P (early best c)
  early_shown None c e = tt
  early_shown (Some f) c e = found_point P m.level f h.level (h.best f e)

  pub given_shown : (c : Cause) (o : Outcome) (d e : Clock) → Out o d ≡ Out (early m.best c) e → IsShown P o
  given_shown c o d e q = subst (IsShown P) (out_is q) (early_shown m.best c refl)

  pub stops_shown : (t : Terms) (o : Outcome) (d : Clock) → StopsBefore P t m (Out o d) → IsShown P o
  stops_shown t o d (inl (limit, e)) = given_shown _ o d _ e
  stops_shown t o d (inr (within, stop, e)) = given_shown _ o d _ e

  -- case C is open
  module _ (t : Terms) (C : Case) (rest : List Case) (opened : IsOpen m.level.program C) where
    pub takes_shown : (x : List Ratio) (ms : List Multiplier) (o : Outcome) (d : Clock) → IsRelaxed C.program x → TakesPoint P t C rest m x ms (Out o d) → IsShown P o
    takes_shown x ms o d relaxed (met, inl (f, e)) = given_shown _ o d _ e
    takes_shown x ms o d relaxed (met, inr (vs, fits, values, takes)) = by C.ray refl takes
      where
        by : (ray : Option (List Ratio)) → C.ray ≡ ray → TakesFound P t ray rest m (record { point = x; values = vs }) ms (Out o d) → IsShown P o
        by None e q = absurd (cc)
        by (Some r) e q =
            let there = feasible m.level.program C.program x opened.case relaxed met in
            let reaches = h.level.reaches x vs there values in
            subst (IsShown P) (out_is q)
            (record { feasible = h.level.feasible x there; values = values; fits = fits }, rounds_shown P m h, reaches_ray m.level.program m.level.later x r (opened.ray r e x relaxed met) m.level.shown P.program P.later vs reaches)

    branches_go_on : (x : List Ratio) (o : Outcome) (d : Clock) → Branches C rest m x (Out o d) → IsShown P o
    branches_go_on x o d (inl (j, k, s, e)) = absurd (cc)
    branches_go_on x o d (inr (j, s, e)) = absurd (cc)

    meets_shown : (x : List Ratio) (ms : List Multiplier) (o : Outcome) (d : Clock) → IsRelaxed C.program x → MeetsPoint P t C rest m x ms (Out o d) → IsShown P o
    meets_shown x ms o d relaxed (inl b) = branches_go_on x o d b
    meets_shown x ms o d relaxed (inr p) = takes_shown x ms o d relaxed p

    trial_shown : (x : List Ratio) (trial : Trial) (o : Outcome) (d : Clock) → GoesFromTrial P t C rest m x trial (Out o d) → IsShown P o
    trial_shown x NoCut o d g = branches_go_on x o d g
    trial_shown x WideCut o d g = given_shown _ o d _ g
    trial_shown x (Cut ms cs k) o d g = absurd (cc)

    best_shown : (before : Clock) (b : Ratio) (x : List Ratio) (ms : List Multiplier) (o : Outcome) (d : Clock) → IsRelaxed C.program x → (ray : Option (List Ratio)) → GoesFromBest P t ray C rest m before b x ms (Out o d) → IsShown P o
    best_shown before b x ms o d relaxed None (inl (p, e)) = absurd (cc)
    best_shown before b x ms o d relaxed None (inr (hope, inl p)) = takes_shown x ms o d relaxed p
    best_shown before b x ms o d relaxed None (inr (hope, inr (inl (never, p)))) = branches_go_on x o d p
    best_shown before b x ms o d relaxed None (inr (hope, inr (inr (ss, trial, may, other, ends, tries, g)))) = trial_shown x trial o d g
    best_shown before b x ms o d relaxed (Some r) g = meets_shown x ms o d relaxed g

-- a level without open cases
module _ (P : Problem) (m : SearchMoment) (h : Holds P m) (none : m.waiting ≡ []) where
  infeasible_shown : m.best ≡ None → IsShown P (Infeasible (shown_at m))
  infeasible_shown e =
      let first = h.first e in
      let of_level : CertificateProves m.level.program (shown_at m) None = closed_proves P m h none None (subst (Within m.level None) (sym e) tt) in
      let program = h.level.first first in
      (subst (λ cs. RoundsAreOfOneGoal P (cs ++ shown_at m ∷ [])) first (rounds_closed P m h), subst (λ I. CertificateProves I (shown_at m) None) program.0 of_level)

  optimal_shown : (f : Found) → m.best ≡ Some f → m.level.later ≡ [] → IsShown P (Optimal f.point f.values (m.level.shown ++ shown_at m ∷ []))
  optimal_shown f e later =
      let found = h.best f e in
      let count : length f.values ≡ suc (length m.level.shown) = let v = found.values in let a = v.count in let n = h.level.count in let k = ap length later in omega arith in
      let reaches = subst (λ gs. Reaches P.program P.later f.values m.level.shown m.level.program gs) later (h.level.reaches f.point f.values found.feasible found.values) in
      (found_point P m.level f h.level found, rounds_closed P m h, reaches_end m.level.program (shown_at m) (reached m.level f) (best_proves P m h none f e) m.level.shown P.program P.later f.values count refl reaches)

  pub closes_shown : (t : Terms) (o : Outcome) (d : Clock) (best : Option Found) (gs : List Goal) → m.best ≡ best → m.level.later ≡ gs → ClosesLevel P t m best gs (Out o d) → IsShown P o
  closes_shown t o d None gs some later e = subst (IsShown P) (out_is e) (infeasible_shown some)
  closes_shown t o d (Some f) [] some later e = subst (IsShown P) (out_is e) (optimal_shown f some later)
  closes_shown t o d (Some f) (g ∷ gs) some later (inl (e, end, q)) = absurd (cc)
  closes_shown t o d (Some f) (g ∷ gs) some later (inr (wide, inl s)) = stops_shown P m h t o d s
  closes_shown t o d (Some f) (g ∷ gs) some later (inr (wide, inr (goes, q))) = given_shown P m h _ o d _ q

module _ (P : Problem) (t : Terms) (m : SearchMoment) (C : Case) (rest : List Case) (is : m.waiting ≡ C ∷ rest) (h : Holds P m) where
  abbrev opened : IsOpen m.level.program C
  opened = this P C rest m is h

  goes_shown : (before : Clock) (e : End) (o : Outcome) (d : Clock) → Shown (is_some C.ray) C.program e → GoesFrom P t C rest m before e (Out o d) → IsShown P o
  goes_shown before (Clash k) o d s g = absurd (cc)
  goes_shown before (Empty ms) o d s g = absurd (cc)
  goes_shown before (Best b x ms) o d s g = best_shown P m h t C rest opened before b x ms o d s.0 C.ray g
  goes_shown before (Endless x y) o d s (inl (j, f, e)) = absurd (cc)
  goes_shown before (Endless x y) o d s (inr (inl (none, f, e))) = given_shown P m h _ o d _ e
  goes_shown before (Endless x y) o d s (inr (inr (r, none, scaled, g))) =
      meets_shown P m h t (record C { ray = Some r }) rest (open_along P C rest m is h y r s.2 none scaled) x [] o d s.1 g
  goes_shown before TurnsOut o d s e = given_shown P m h _ o d _ e
  goes_shown before (TooWide w) o d s e = given_shown P m h _ o d _ e
  goes_shown before Stopped o d s e = given_shown P m h _ o d _ e

-- how a search ends from a moment
pub next_shown : (P : Problem) (t : Terms) (m : SearchMoment) → Holds P m → (o : Outcome) (d : Clock) → IsNextInSearch P t m (Out o d) → IsShown P o
next_shown P t m h o d (inl (none, c)) = closes_shown P m h none t o d m.best m.level.later refl refl c
next_shown P t m h o d (inr (inl (some, b))) = stops_shown P m h t o d b
next_shown P t m h o d (inr (inr v)) =
    let C = v.visit.case in
    let opened = this P C v.visit.rest m v.visit.is h in
    goes_shown P t (record m { clock = v.clock }) C v.visit.rest v.visit.is (clocked P m v.clock h) (looked_once m.clock) v.end o d
    (run_true C.program (is_some C.ray) t (looked_once m.clock) v.end v.clock opened.case.numbers v.visit.run) v.goes

-- what a search's outcome says is shown
pub outcome_shown : (P : Problem) (t : Terms) (o : Outcome) (d : Clock) → IsProblem P → Search P t o d → IsShown P o
outcome_shown P t o d n s = next_shown P t s.last (comes_hold P t n s.last s.comes) o d s.ends

-- and so is the point that is answered where memory is wanting
pub answer_shown : (P : Problem) (t : Terms) (o : Outcome) (d : Clock) → IsProblem P → IsSearchAnswer P t o d → IsShown P o
answer_shown P t o d n (searched s) = outcome_shown P t o d n s
answer_shown P t o d n (given_up {m} c) = early_shown P m (comes_hold P t n m c) m.best _ refl
answer_shown P t o d n (given_up_after {m} c r) = early_shown P m (comes_hold P t n m c) m.best _ refl
