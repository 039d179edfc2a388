-- The search of one goal, where no variable may be 0 besides and no cut may be derived, is the search over whole variables alone.
use Rattle.std.proofs.Common.{◌≡◌, ℕ, inl, inr, ℤ, Option, None, Some, IfSome, IsSome, List, [], ◌∷◌, ◌++◌, get_or, arith, refl, sym, ◌∙◌, ap, subst}
use Rattle.std.specs.List.{All}
use Rattle.std.proofs.lemmas.List.Elements.{All-head, All-cons, All-nil}
use Rattle.rational.specs.Ratio.{Ratio}
use Rattle.evidence.specs.Instance.{Range, Variable, Instance, Problem, IsInstance, IsProblem, IsGoalOfNumbers, alone, no_variable, variable_at}
use Rattle.evidence.specs.Point.{value_at, IsZeroOr}
use Rattle.evidence.specs.Cases.{Multiplier, IsZeroBranch}
use Rattle.evidence.specs.Rounds.{Certificate, Round}
use Rattle.evidence.proofs.Columns.{All-anywhere}
use Rattle.certificate.specs.declared.causes.Cause.{Cause}
use Rattle.simplex_rules.specs.Ends.{Terms, Clock, End, Clash, Empty, Best, Endless, TurnsOut, TooWide, Stopped}
use Rattle.simplex_rules.specs.Runs.{looked_once}
use Rattle.simplex_rules.proofs.LeastIndices as Indices
use Rattle.search_rules.specs.Branching.{Case, IsEither, IsSplit}
use Rattle.search_rules.specs.Search as Rules
use Rattle.search_rules.specs.Search.{Found, SearchMoment, NextOfSearch, To, Out, early, MayCut, Branches, TakesFound, TakesPoint, MeetsPoint, GoesFromBest, GoesFrom, StopsBefore, ClosesLevel, IsNextInSearch, ComesInSearch, begins, goes_on}
use Rattle.search_rules.specs.Outcomes.{IsPoint, IsShown}
use Rattle.search_rules.specs.RuleSearch.{bland_search, SearchRules, AreLegalSearches, MomentBy, ComesBy, SearchBy, IsAnswerBy}
use Rattle.search_rules.specs.WholeSearch.{IsWholeAlone, IsWholeSplit, whole_search, Outcome, Optimal, Infeasible, Unbounded, BestSoFar, Unsure, lifted, IsWholeMoment}
use Rattle.search_rules.proofs.Moments.{HasNoRounds, this}
use Rattle.search_rules.proofs.Outcomes as Outcomes
use Rattle.search_rules.proofs.RuleSearches.{comes_hold}
use Rattle.search_rules.proofs.NamedSearches.{legal_bland}
use Rattle.search_rules.proofs.LeastSearches as Least
use Rattle.search_rules.proofs.LikeSearches.{IsLikeAt, search_like, answer_like}

-- no variable of a case may be 0 besides
abbrev HasOneRange : Instance → Type 0
HasOneRange J = (j : ℕ) → (variable_at J j).unless_zero ≡ None

module _ (J : Instance) (one : HasOneRange J) (x : List Ratio) where
  either : (j : ℕ) → IsEither (variable_at J j) (value_at x j)
  either j = subst (λ o. IfSome o (λ r. IsZeroOr r (value_at x j))) (sym (one j)) tt

  split_on : (j : ℕ) (k : ℤ) → IsWholeSplit J x j k → IsSplit J x j k
  split_on j k s = record { branch = s.branch; below = λ i low. record { whole = s.below i low; either = either i }; either = either j; other = s.other; floor = s.floor }

  split_back : (j : ℕ) (k : ℤ) → IsSplit J x j k → IsWholeSplit J x j k
  split_back j k s = record { branch = s.branch; below = λ i low. let m = s.below i low in m.whole; other = s.other; floor = s.floor }

  no_zero : (j : ℕ) → IsZeroBranch J j → ⊥
  no_zero j z = let s : IsSome {T = Range} None = subst IsSome (one j) z.further in cc

legal_whole : AreLegalSearches whole_search
legal_whole = record { runs = Indices.legal; splits = λ h j k s. s.branch; divides = λ h j s. absurd s }

-- the certificates of an outcome have no cuts
abbrev HasNoCuts : Rules.Outcome → Type 0
HasNoCuts (Rules.Optimal x vs cs) = All HasNoRounds cs
HasNoCuts (Rules.Infeasible c) = HasNoRounds c
HasNoCuts (Rules.Unbounded x vs cs r) = Unit {0}
HasNoCuts (Rules.BestSoFar x vs c) = Unit {0}
HasNoCuts (Rules.Unsure c) = Unit {0}

early_uncut : (best : Option Found) (c : Cause) → HasNoCuts (early best c)
early_uncut None c = tt
early_uncut (Some f) c = tt

bare : (c : Certificate) → HasNoRounds c → c ≡ record { rounds = []; nodes = c.nodes }
bare c e = ap (λ (r : List Round). let d : Certificate = record { rounds = r; nodes = c.nodes } in d) e

module _ (I : Instance) where
  abbrev P : Problem
  P = alone I

  abbrev IsLifted : Rules.Outcome → Type 0
  IsLifted p = (o : Outcome) × (p ≡ lifted o)

  one_value : (x vs : List Ratio) → IsPoint P x vs → (v : Ratio) × (vs ≡ v ∷ [])
  one_value x [] h = let a = h.values in let n = a.count in absurd (omega arith)
  one_value x (v ∷ []) h = (v, refl)
  one_value x (v ∷ w ∷ vs) h = let a = h.values in let n = a.count in absurd (omega arith)

  -- what is shown without cuts has one value and one list of nodes
  pub is_lifted : (p : Rules.Outcome) → IsShown P p → HasNoCuts p → IsLifted p
  is_lifted (Rules.Optimal x [] cs) (point, rounds, levels) n = absurd levels
  is_lifted (Rules.Optimal x (v ∷ []) []) (point, rounds, levels) n = absurd levels
  is_lifted (Rules.Optimal x (v ∷ []) (c ∷ [])) (point, rounds, levels) n = (Optimal x v c.nodes, ap (λ c. Rules.Optimal x (v ∷ []) (c ∷ [])) (bare c (All-head HasNoRounds c [] n)))
  is_lifted (Rules.Optimal x (v ∷ []) (c ∷ d ∷ cs)) (point, rounds, levels) n = absurd levels
  is_lifted (Rules.Optimal x (v ∷ w ∷ vs) cs) (point, rounds, levels) n = absurd levels
  is_lifted (Rules.Infeasible c) s n = (Infeasible c.nodes, ap Rules.Infeasible (bare c n))
  is_lifted (Rules.Unbounded x vs [] r) (point, rounds, ray) n = let (v, e) = one_value x vs point in (Unbounded x v r, ap (λ vs. Rules.Unbounded x vs [] r) e)
  is_lifted (Rules.Unbounded x vs (c ∷ cs) r) (point, rounds, ray) n = absurd ray
  is_lifted (Rules.BestSoFar x vs c) point n = let (v, e) = one_value x vs point in (BestSoFar x v c, ap (λ vs. Rules.BestSoFar x vs c) e)
  is_lifted (Rules.Unsure c) s n = (Unsure c, refl)

  module _ (good : IsInstance I) (t : Terms) (whole : IsWholeAlone I t) where
    problem : IsProblem P
    problem = record { program = good; later = All-nil IsGoalOfNumbers }

    no_cut : (m : SearchMoment) → MayCut P t m → ⊥
    no_cut m may = let f = may.fewer in let none = whole.no_cuts in omega arith

    -- the level and the cuts stay
    record IsSame (m n : SearchMoment) : Type 0 where
      level : n.level ≡ m.level
      rounds : n.rounds ≡ m.rounds

    module _ (m : SearchMoment) where
      -- a next moment with the same level and cuts, or an outcome without cuts
      abbrev Stays : NextOfSearch → Type 0
      Stays (To n) = IsSame m n
      Stays (Out o c) = HasNoCuts o

      so : {n k : NextOfSearch} → n ≡ k → Stays k → Stays n
      so e s = subst Stays (sym e) s

      given : (n : NextOfSearch) (c : Cause) (d : Clock) → n ≡ Out (early m.best c) d → Stays n
      given n c d e = so e (early_uncut m.best c)

    module _ (C : Case) (rest : List Case) (m : SearchMoment) where
      branches_stay : (D : Case) (x : List Ratio) (n : NextOfSearch) → Branches D rest m x n → Stays m n
      branches_stay D x n (inl (j, k, s, e)) = so m e (record { level = refl; rounds = refl })
      branches_stay D x n (inr (j, s, e)) = so m e (record { level = refl; rounds = refl })

      takes_stay : (D : Case) (x : List Ratio) (ms : List Multiplier) (n : NextOfSearch) → TakesPoint P t D rest m x ms n → Stays m n
      takes_stay D x ms n (met, inl (f, e)) = given m n _ _ e
      takes_stay D x ms n (met, inr (vs, fits, values, takes)) = by D.ray takes
        where
          by : (ray : Option (List Ratio)) → TakesFound P t ray rest m (record { point = x; values = vs }) ms n → Stays m n
          by None e = so m e (record { level = refl; rounds = refl })
          by (Some r) e = so m e tt

      meets_stay : (D : Case) (x : List Ratio) (ms : List Multiplier) (n : NextOfSearch) → MeetsPoint P t D rest m x ms n → Stays m n
      meets_stay D x ms n (inl b) = branches_stay D x n b
      meets_stay D x ms n (inr p) = takes_stay D x ms n p

      best_stays : (before : Clock) (b : Ratio) (x : List Ratio) (ms : List Multiplier) (n : NextOfSearch) (ray : Option (List Ratio)) → GoesFromBest P t ray C rest m before b x ms n → Stays m n
      best_stays before b x ms n None (inl (p, e)) = so m e (record { level = refl; rounds = refl })
      best_stays before b x ms n None (inr (hope, inl p)) = takes_stay C x ms n p
      best_stays before b x ms n None (inr (hope, inr (inl (never, p)))) = branches_stay C x n p
      best_stays before b x ms n None (inr (hope, inr (inr (ss, trial, may, other, ends, tries, g)))) = absurd (no_cut m may)
      best_stays before b x ms n (Some r) p = meets_stay C x ms n p

      goes_stay : (before : Clock) (e : End) (n : NextOfSearch) → GoesFrom P t C rest m before e n → Stays m n
      goes_stay before (Clash c) n e = so m e (record { level = refl; rounds = refl })
      goes_stay before (Empty ms) n e = so m e (record { level = refl; rounds = refl })
      goes_stay before (Best b x ms) n p = best_stays before b x ms n C.ray p
      goes_stay before (Endless x d) n (inl (j, f, e)) = so m e (record { level = refl; rounds = refl })
      goes_stay before (Endless x d) n (inr (inl (none, f, e))) = given m n _ _ e
      goes_stay before (Endless x d) n (inr (inr (r, none, scaled, p))) = meets_stay (record C { ray = Some r }) x [] n p
      goes_stay before TurnsOut n e = given m n _ _ e
      goes_stay before (TooWide s) n e = given m n _ _ e
      goes_stay before Stopped n e = given m n _ _ e

    stops_stay : (m : SearchMoment) (n : NextOfSearch) → StopsBefore P t m n → Stays m n
    stops_stay m n (inl (limit, e)) = given m n _ _ e
    stops_stay m n (inr (within, stop, e)) = given m n _ _ e

    closes_stay : (m : SearchMoment) (n : NextOfSearch) → IsWholeMoment I m → (best : Option Found) → ClosesLevel P t m best [] n → Stays m n
    closes_stay m n w None e = so m e w.rounds
    closes_stay m n w (Some f) e = so m e (subst (λ l. All HasNoRounds (l.shown ++ Rules.shown_at m ∷ [])) (sym w.level) (All-cons HasNoRounds (Rules.shown_at m) [] w.rounds (All-nil HasNoRounds)))

    clocked_stay : (m : SearchMoment) (c : Clock) (n : NextOfSearch) → Stays (record m { clock = c }) n → Stays m n
    clocked_stay m c (To k) s = record { level = s.level; rounds = s.rounds }
    clocked_stay m c (Out o d) s = s

    next_stays : (m : SearchMoment) (n : NextOfSearch) → IsWholeMoment I m → IsNextInSearch P t m n → Stays m n
    next_stays m n w (inl (none, c)) = closes_stay m n w m.best (subst (λ l. ClosesLevel P t m m.best l.later n) w.level c)
    next_stays m n w (inr (inl (some, s))) = stops_stay m n s
    next_stays m n w (inr (inr v)) = clocked_stay m v.clock n (goes_stay v.visit.case v.visit.rest (record m { clock = v.clock }) (looked_once m.clock) v.end n v.goes)

    pub comes_whole : (m : SearchMoment) → ComesInSearch P t m → IsWholeMoment I m
    comes_whole m begins = record { level = refl; rounds = refl }
    comes_whole m (goes_on {m = before} c next) =
        let w = comes_whole before c in
        let s : IsSame before m = next_stays before (To m) w next in
        record { level = s.level ∙ w.level; rounds = s.rounds ∙ w.rounds }

    search_uncut : (p : Rules.Outcome) (c : Clock) → Rules.Search P t p c → HasNoCuts p
    search_uncut p c s = next_stays s.last (Out p c) (comes_whole s.last s.comes) s.ends

    answer_uncut : (p : Rules.Outcome) (c : Clock) → Rules.IsSearchAnswer P t p c → HasNoCuts p
    answer_uncut p c (Rules.searched s) = search_uncut p c s
    answer_uncut p c (Rules.given_up {m} k) = early_uncut m.best _
    answer_uncut p c (Rules.given_up_after {m} k r) = early_uncut m.best _

    -- of the case at hand
    one_range : (S : SearchRules) → AreLegalSearches S → (s : MomentBy) → ComesBy S P t s → (C : Case) (rest : List Case) → s.moment.waiting ≡ C ∷ rest → HasOneRange C.program
    one_range S legal s comes C rest is j =
        let h = comes_hold S legal P t problem s comes in
        let opened = this P C rest s.moment is h.holds in
        let same : (variable_at s.moment.level.program j).unless_zero ≡ (variable_at I j).unless_zero = ap (λ (vs : List Variable). (get_or vs j no_variable).unless_zero) h.holds.level.variables in
        opened.case.further j ∙ same ∙ All-anywhere (λ v. v.unless_zero ≡ None) I.variables no_variable refl whole.ranges j

    like_on : (s : MomentBy) → ComesBy whole_search P t s → IsLikeAt whole_search bland_search.Splits bland_search.Divides P t s
    like_on s comes C rest is =
        let one = one_range whole_search legal_whole s comes C rest is in
        record { splits = λ h j k e split. split_on h.case.program (subst HasOneRange (sym e) one) h.point j k split; divides = λ h j e d. absurd d }

    like_back : (s : MomentBy) → ComesBy bland_search P t s → IsLikeAt bland_search whole_search.Splits whole_search.Divides P t s
    like_back s comes C rest is =
        let one = one_range bland_search legal_bland s comes C rest is in
        record {
          splits = λ h j k e split. split_back h.case.program (subst HasOneRange (sym e) one) h.point j k split;
          divides = λ h j e d. no_zero h.case.program (subst HasOneRange (sym e) one) h.point j d.branch;
        }

    pub search_on : (o : Outcome) (c : Clock) → SearchBy whole_search P t (lifted o) c → Rules.Search P t (lifted o) c
    search_on o c s = Least.search_back P t (lifted o) c (search_like whole_search bland_search.Splits bland_search.Divides P t like_on (lifted o) c s)

    pub search_back : (p : Rules.Outcome) (c : Clock) → Rules.Search P t p c → (o : Outcome) × (p ≡ lifted o) × SearchBy whole_search P t (lifted o) c
    search_back p c s =
        let (o, e) = is_lifted p (Outcomes.outcome_shown P t p c problem s) (search_uncut p c s) in
        let w = search_like bland_search whole_search.Splits whole_search.Divides P t like_back p c (Least.search_on P t p c s) in
        (o, e, subst (λ p. SearchBy whole_search P t p c) e w)

    pub answer_on : (o : Outcome) (c : Clock) → IsAnswerBy whole_search P t (lifted o) c → Rules.IsSearchAnswer P t (lifted o) c
    answer_on o c a = Least.answer_back P t (lifted o) c (answer_like whole_search bland_search.Splits bland_search.Divides P t like_on (lifted o) c a)

    pub answer_back : (p : Rules.Outcome) (c : Clock) → Rules.IsSearchAnswer P t p c → (o : Outcome) × (p ≡ lifted o) × IsAnswerBy whole_search P t (lifted o) c
    answer_back p c a =
        let (o, e) = is_lifted p (Outcomes.answer_shown P t p c problem a) (answer_uncut p c a) in
        let w = answer_like bland_search whole_search.Splits whole_search.Divides P t like_back p c (Least.answer_on P t p c a) in
        (o, e, subst (λ p. IsAnswerBy whole_search P t p c) e w)
