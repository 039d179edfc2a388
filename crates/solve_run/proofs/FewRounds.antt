-- A search derives no more rounds than it may.
use Rattle.std.proofs.Common.{◌≡◌, ◌≤◌, inl, inr, Bool, true, false, Option, None, Some, List, [], ◌∷◌, ◌++◌, length, arith, sym, subst}
use Rattle.std.specs.List.{All}
use Rattle.std.proofs.lemmas.List.{length_push}
use Rattle.std.proofs.lemmas.List.Elements.{All-nil, All-cons, All-head, All-push}
use Rattle.rational.specs.Ratio.{Ratio}
use Rattle.evidence.specs.Instance.{Goal, Problem}
use Rattle.evidence.specs.Cases.{Multiplier}
use Rattle.evidence.specs.Rounds.{Certificate, RoundBy}
use Rattle.evidence.specs.ProvedBounds.{ProvedBound}
use Rattle.certificate.specs.declared.causes.Cause.{Cause}
use Rattle.simplex_rules.specs.Ends.{Terms, Clock, End, Clash, Empty, Best, Endless, TurnsOut, TooWide, Stopped}
use Rattle.simplex_rules.specs.Runs.{looked_once}
use Rattle.search_rules.specs.Branching.{Case}
use Rattle.search_rules.specs.Cuts.{Trial, NoCut, WideCut, Cut}
use Rattle.search_rules.specs.Search.{Found, Outcome, Optimal, Infeasible, Unbounded, BestSoFar, Unsure, SearchMoment, NextOfSearch, To, Out, early, shown_at, StopsBefore, Branches, MayCut, TakesFound, TakesPoint, MeetsPoint, GoesFromTrial, GoesFromBest, GoesFrom, ClosesLevel, IsNextInSearch}
use Rattle.search_rules.specs.Bounds.{Carried, IsBoundOf, claimed}
use Rattle.search_rules.specs.Asked.{Asked, ComesAsked, asked_first, asked_on, asked_level, EndsAsked, near as stops_near, ends as ends_so, FindsBound, FindsAsked, IsAskedAnswer, asked as searched, gave_up, gave_up_after, gave_up_closing}
use Rattle.solve_run.proofs.ClaimNodes.{said_certificates, bound_certificates}

module _ (P : Problem) (t : Terms) where
  abbrev HasFew : Certificate → Type 0
  HasFew c = length c.rounds ≤ t.rounds

  -- so far, and afterwards
  abbrev AreFew : SearchMoment → Type 0
  AreFew m = All HasFew m.level.shown × (length m.rounds ≤ t.rounds)

  abbrev pub CarriesFew : Outcome → Type 0
  CarriesFew o = All HasFew (said_certificates (claimed o None))

  abbrev AreFewThen : NextOfSearch → Type 0
  AreFewThen (To n) = AreFew n
  AreFewThen (Out o c) = CarriesFew o

  of_next : (a b : NextOfSearch) → a ≡ b → AreFewThen b → AreFewThen a
  of_next a b e few = subst AreFewThen (sym e) few

  early_few : (best : Option Found) (c : Cause) → CarriesFew (early best c)
  early_few None c = All-nil HasFew
  early_few (Some f) c = All-nil HasFew

  given : (m : SearchMoment) (k : Cause) (c : Clock) (next : NextOfSearch) → next ≡ Out (early m.best k) c → AreFewThen next
  given m k c next e = of_next next _ e (early_few m.best k)

  stops_few : (m : SearchMoment) (next : NextOfSearch) → StopsBefore P t m next → AreFewThen next
  stops_few m next (inl (limit, e)) = given m _ _ next e
  stops_few m next (inr (within, stop, e)) = given m _ _ next e

  -- those of the level that ends are one certificate more
  closed_few : (m : SearchMoment) → AreFew m → All HasFew (m.level.shown ++ shown_at m ∷ [])
  closed_few m few = All-push HasFew m.level.shown (shown_at m) few.0 few.1

  closes_few : (m : SearchMoment) (best : Option Found) (gs : List Goal) (next : NextOfSearch) → AreFew m → ClosesLevel P t m best gs next → AreFewThen next
  closes_few m None gs next few e = of_next next _ e (All-cons HasFew (shown_at m) [] few.1 (All-nil HasFew))
  closes_few m (Some f) [] next few e = of_next next _ e (closed_few m few)
  closes_few m (Some f) (g ∷ gs) next few (inl (d, end, e)) = of_next next _ e (closed_few m few, omega arith)
  closes_few m (Some f) (g ∷ gs) next few (inr (wide, inl s)) = stops_few m next s
  closes_few m (Some f) (g ∷ gs) next few (inr (wide, inr (goes, e))) = given m _ _ next e

  module _ (m : SearchMoment) (few : AreFew m) (rest : List Case) (next : NextOfSearch) where
    branches_few : (C : Case) (x : List Ratio) → Branches C rest m x next → AreFewThen next
    branches_few C x (inl (j, k, s, e)) = of_next next _ e few
    branches_few C x (inr (j, s, e)) = of_next next _ e few

    takes_few : (ray : Option (List Ratio)) (f : Found) (ms : List Multiplier) → TakesFound P t ray rest m f ms next → AreFewThen next
    takes_few None f ms e = of_next next _ e few
    takes_few (Some r) f ms e = of_next next _ e few.0

    point_few : (C : Case) (x : List Ratio) (ms : List Multiplier) → TakesPoint P t C rest m x ms next → AreFewThen next
    point_few C x ms (met, inl (f, e)) = given m _ _ next e
    point_few C x ms (met, inr (vs, fits, values, takes)) = takes_few C.ray _ ms takes

    meets_few : (C : Case) (x : List Ratio) (ms : List Multiplier) → MeetsPoint P t C rest m x ms next → AreFewThen next
    meets_few C x ms (inl b) = branches_few C x b
    meets_few C x ms (inr p) = point_few C x ms p

    trial_few : (C : Case) (x : List Ratio) (trial : Trial) → MayCut P t m → GoesFromTrial P t C rest m x trial next → AreFewThen next
    trial_few C x NoCut may b = branches_few C x b
    trial_few C x WideCut may e = given m _ _ next e
    trial_few C x (Cut ms cs k) may e = of_next next _ e (few.0, (let n = length_push m.rounds (RoundBy ms) in let less = may.fewer in omega (arith, n, less)))

    best_few : (ray : Option (List Ratio)) (C : Case) (before : Clock) (b : Ratio) (x : List Ratio) (ms : List Multiplier) → GoesFromBest P t ray C rest m before b x ms next → AreFewThen next
    best_few None C before b x ms (inl (p, e)) = of_next next _ e few
    best_few None C before b x ms (inr (hope, inl p)) = point_few C x ms p
    best_few None C before b x ms (inr (hope, inr (inl (never, p)))) = branches_few C x p
    best_few None C before b x ms (inr (hope, inr (inr (ss, trial, may, other, ends, tries, g)))) = trial_few C x trial may g
    best_few (Some r) C before b x ms g = meets_few C x ms g

    goes_few : (C : Case) (before : Clock) (e : End) → GoesFrom P t C rest m before e next → AreFewThen next
    goes_few C before (Clash c) e = of_next next _ e few
    goes_few C before (Empty ms) e = of_next next _ e few
    goes_few C before (Best b x ms) g = best_few C.ray C before b x ms g
    goes_few C before (Endless x d) (inl (j, f, e)) = of_next next _ e few
    goes_few C before (Endless x d) (inr (inl (none, w, e))) = given m _ _ next e
    goes_few C before (Endless x d) (inr (inr (r, none, scaled, g))) = meets_few (record C { ray = Some r }) x [] g
    goes_few C before TurnsOut e = given m _ _ next e
    goes_few C before (TooWide s) e = given m _ _ next e
    goes_few C before Stopped e = given m _ _ next e

  next_few : (m : SearchMoment) (next : NextOfSearch) → AreFew m → IsNextInSearch P t m next → AreFewThen next
  next_few m next few (inl (none, c)) = closes_few m m.best m.level.later next few c
  next_few m next few (inr (inl (some, s))) = stops_few m next s
  next_few m next few (inr (inr v)) = goes_few (record m { clock = v.clock }) few v.visit.rest next v.visit.case (looked_once m.clock) v.end v.goes

  -- a bound's are those of the level at hand, or of the first one
  bound_few : (m : SearchMoment) (ks : List Carried) (b : ProvedBound) → AreFew m → IsBoundOf P m ks b → HasFew b.certificate
  bound_few m ks b few (inl here) = subst (λ (x : Certificate). length x.rounds ≤ t.rounds) (sym here.certificate) few.1
  bound_few m ks b few (inr reached) = All-head HasFew b.certificate reached.others (subst (All HasFew) reached.shown few.0)

  -- with its bound, if it has one
  abbrev pub CarriesFewWith : Outcome → Option ProvedBound → Type 0
  CarriesFewWith o b = All HasFew (said_certificates (claimed o b))

  found_few : (m : SearchMoment) (ks : List Carried) (b : Option ProvedBound) → AreFew m → FindsBound P m ks b → All HasFew (bound_certificates b)
  found_few m ks None few found = All-nil HasFew
  found_few m ks (Some b) few found = All-cons HasFew b.certificate [] (bound_few m ks b few found.0) (All-nil HasFew)

  with_few : (asks : Bool) (m : SearchMoment) (ks : List Carried) (o : Outcome) (b : Option ProvedBound) → AreFew m → CarriesFew o → FindsAsked P asks m ks o b → CarriesFewWith o b
  with_few false m ks o b few own none = subst (CarriesFewWith o) (sym none) own
  with_few true m ks (Optimal x vs cs) b few own none = own
  with_few true m ks (Infeasible c) b few own none = own
  with_few true m ks (Unbounded x vs cs r) b few own none = own
  with_few true m ks (BestSoFar x vs c) b few own found = found_few m ks b few found
  with_few true m ks (Unsure c) b few own found = found_few m ks b few found

  module _ (a : Asked) (start : Option Found) where
    comes_few : (m : SearchMoment) (ks : List Carried) (xs : List (Option Ratio)) → ComesAsked P t a start m ks xs → AreFew m
    comes_few m ks xs asked_first = (All-nil HasFew, omega arith)
    comes_few m ks xs (asked_on {m = before} {k} {ks = ls} {x} {xs = ys} c far v new is) = next_few before (To m) (comes_few before (k ∷ ls) (x ∷ ys) c) (inr (inr v))
    comes_few m ks xs (asked_level {m = before} c none next) = next_few before (To m) (comes_few before [] [] c) next

    ends_few : (m : SearchMoment) (xs : List (Option Ratio)) (o : Outcome) (c : Clock) → AreFew m → EndsAsked P t a m xs o c → CarriesFew o
    ends_few m xs o c few (stops_near s) = early_few m.best _
    ends_few m xs o c few (ends_so far next) = next_few m (Out o c) few next

    pub answer_few : (o : Outcome) (b : Option ProvedBound) (c : Clock) → IsAskedAnswer P t a start o b c → CarriesFewWith o b
    answer_few o b c (searched s) = let few = comes_few s.last s.carried s.numbers s.comes in with_few a.bound s.last s.carried o b few (ends_few s.last s.numbers o c few s.ends) s.has
    answer_few o b c (gave_up {m} h) = early_few m.best _
    answer_few o b c (gave_up_after {m} h r) = early_few m.best _
    answer_few o b c (gave_up_closing {m} asks h over) = early_few m.best _
