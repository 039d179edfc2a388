-- The searches by the least variable and the rules of least indices are the searches.
use Rattle.std.proofs.Common.{◌≡◌, ℕ, ◌⊎◌, inl, inr, Option, None, Some, List, [], length, refl, ◌∙◌, ap, subst}
use Rattle.std.specs.Option.{is_some}
use Rattle.rational.specs.Ratio.{Ratio}
use Rattle.evidence.specs.Instance.{Problem}
use Rattle.evidence.specs.Cases.{Multiplier}
use Rattle.simplex_rules.specs.declared.columns.Status.{Status}
use Rattle.simplex_rules.specs.Ends.{Terms, Clock, End, Clash, Empty, Best, Endless, TurnsOut, TooWide, Stopped}
use Rattle.simplex_rules.specs.Runs.{looked_once, Run, EndsAtBasis}
use Rattle.simplex_rules.specs.Rules.{Given, bland}
use Rattle.simplex_rules.specs.RuleRuns.{Finish, Ends, RunBy}
use Rattle.simplex_rules.proofs.LeastIndices.{run_on, run_back, basis_on, basis_back}
use Rattle.search_rules.specs.Branching.{Case}
use Rattle.search_rules.specs.Cuts.{Trial, NoCut, WideCut, Cut}
use Rattle.search_rules.specs.Search.{Found, SearchMoment, NextOfSearch, Outcome, To, Out, branch, divide, Branches, MeetsPoint, GoesFromTrial, GoesFromBest, GoesAlong, GoesFrom, ClosesLevel, IsVisit, IsNextInSearch, Search, IsCaseRun, IsSearchAnswer}
use Rattle.search_rules.specs.Beginnings as From
use Rattle.search_rules.specs.Beginnings.{ComesFrom, SearchFrom, IsAnswerFrom}
use Rattle.search_rules.specs.Sides.{told}
use Rattle.search_rules.specs.RuleSearch.{MomentBy, NextBy, On, Off, AfterRun, Onward, kept_for, with_basis, with_side, best_value, bland_search, BranchesBy, MeetsBy, TriedBy, BestBy, AlongBy, GoesBy, IsRunOfCase, IsVisitBy, IsNextBy, SearchBy, IsAnswerBy}
use Rattle.search_rules.specs.RuleBeginnings.{ComesFromBy, begins, goes_on, SearchFromBy, IsAnswerFromBy, searched, given_up, given_up_after}
use Rattle.search_rules.proofs.FirstPoints.{from_none, comes_from_none, plain_answer, answer_plain}
use Rattle.search_rules.proofs.RulePoints as ByRules

module _ (P : Problem) (t : Terms) where
  -- it is what comes next in a search, too
  abbrev Back : AfterRun → (NextOfSearch → Type 0) → Type 0
  Back b F = (a : NextOfSearch) × (b ≡ Onward a) × F a

  branches_on : (g : Given) (C : Case) (rest : List Case) (m : SearchMoment) (x : List Ratio) (a : NextOfSearch) → Branches C rest m x a → BranchesBy bland_search P t g C rest m x (Onward a)
  branches_on g C rest m x a (inl (j, k, s, e)) = inl (j, k, s, λ r. r, ap Onward e)
  branches_on g C rest m x a (inr (j, s, e)) = inr (inr (j, s, ap Onward e))

  branches_back : (g : Given) (C : Case) (rest : List Case) (m : SearchMoment) (x : List Ratio) (b : AfterRun) → BranchesBy bland_search P t g C rest m x b → Back b (Branches C rest m x)
  branches_back g C rest m x b (inl (j, k, s, low, e)) = (To (branch m C rest j k), e, inl (j, k, s, refl))
  branches_back g C rest m x b (inr (inl (j, k, s, high, e))) = absurd high
  branches_back g C rest m x b (inr (inr (j, s, e))) = (To (divide m C rest j), e, inr (j, s, refl))

  meets_on : (g : Given) (C : Case) (rest : List Case) (m : SearchMoment) (x : List Ratio) (ms : List Multiplier) (a : NextOfSearch) → MeetsPoint P t C rest m x ms a → MeetsBy bland_search P t g C rest m x ms (Onward a)
  meets_on g C rest m x ms a (inl b) = inl (branches_on g C rest m x a b)
  meets_on g C rest m x ms a (inr p) = inr (a, p, refl)

  meets_back : (g : Given) (C : Case) (rest : List Case) (m : SearchMoment) (x : List Ratio) (ms : List Multiplier) (b : AfterRun) → MeetsBy bland_search P t g C rest m x ms b → Back b (MeetsPoint P t C rest m x ms)
  meets_back g C rest m x ms b (inl p) = let r = branches_back g C rest m x b p in (r.0, r.1, inl r.2)
  meets_back g C rest m x ms b (inr (n, p, e)) = (n, e, inr p)

  tried_on : (g : Given) (C : Case) (rest : List Case) (m : SearchMoment) (x : List Ratio) (trial : Trial) (a : NextOfSearch) → GoesFromTrial P t C rest m x trial a → TriedBy bland_search P t g C rest m x trial (Onward a)
  tried_on g C rest m x NoCut a p = branches_on g C rest m x a p
  tried_on g C rest m x WideCut a p = ap Onward p
  tried_on g C rest m x (Cut ms cs k) a p = ap Onward p

  tried_back : (g : Given) (C : Case) (rest : List Case) (m : SearchMoment) (x : List Ratio) (trial : Trial) (b : AfterRun) → TriedBy bland_search P t g C rest m x trial b → Back b (GoesFromTrial P t C rest m x trial)
  tried_back g C rest m x NoCut b p = branches_back g C rest m x b p
  tried_back g C rest m x WideCut b p = (_, p, refl)
  tried_back g C rest m x (Cut ms cs k) b p = (_, p, refl)

  module _ (C : Case) (rest : List Case) (m : SearchMoment) (before : Clock) where
    -- from a run's end, whatever its basis; or from the basis of which a cut was tried
    abbrev OnBy : End → NextOfSearch → Type 0
    OnBy e a = ((h : Given) → GoesBy bland_search P t h C rest m (Ends e) (Onward a)) ⊎ ((ss : List Status) × EndsAtBasis C.program (is_some C.ray) t before e m.clock ss × GoesBy bland_search P t (Some ss) C rest m (Ends e) (Onward a))

    best_on : (b : Ratio) (x : List Ratio) (ms : List Multiplier) (a : NextOfSearch) (ray : Option (List Ratio)) → C.ray ≡ ray → GoesFromBest P t ray C rest m before b x ms a
        → ((h : Given) → BestBy bland_search P t ray h C rest m b x ms (Onward a)) ⊎ ((ss : List Status) × EndsAtBasis C.program (is_some ray) t before (Best b x ms) m.clock ss × BestBy bland_search P t ray (Some ss) C rest m b x ms (Onward a))
    best_on b x ms a None e (inl (p, f)) = inl (λ h. inl (p, ap Onward f))
    best_on b x ms a None e (inr (hope, inl p)) = inl (λ h. inr (hope, inr (λ s none q. none, inl (a, p, refl))))
    best_on b x ms a None e (inr (hope, inr (inl (never, p)))) = inl (λ h. inr (hope, inr (λ s none q. none, inr (inl (never, branches_on h C rest m x a p)))))
    best_on b x ms a None e (inr (hope, inr (inr (ss, trial, may, other, ends, tries, p)))) = inr (ss, ends, inr (hope, inr (λ s none q. none, inr (inr (ss, trial, may, other, refl, tries, tried_on (Some ss) C rest m x trial a p)))))
    best_on b x ms a (Some r) e p = inl (λ h. meets_on h C rest m x ms a p)

    along_on : (h : Given) (x d : List Ratio) (a : NextOfSearch) → GoesAlong P t C rest m x d a → AlongBy bland_search P t h C rest m x d (Onward a)
    along_on h x d a (inl (j, f, e)) = inl (j, f, ap Onward e)
    along_on h x d a (inr (inl (none, wide, e))) = inr (inl (none, wide, ap Onward e))
    along_on h x d a (inr (inr (r, none, scaled, p))) = inr (inr (r, none, scaled, meets_on h (record C { ray = Some r }) rest m x [] a p))

    goes_by : (e : End) (a : NextOfSearch) → GoesFrom P t C rest m before e a → OnBy e a
    goes_by (Clash c) a p = inl (λ h. ap Onward p)
    goes_by (Empty ms) a p = inl (λ h. ap Onward p)
    goes_by (Best b x ms) a p = best_on b x ms a C.ray refl p
    goes_by (Endless x d) a p = inl (λ h. along_on h x d a p)
    goes_by TurnsOut a p = inl (λ h. ap Onward p)
    goes_by (TooWide s) a p = inl (λ h. ap Onward p)
    goes_by Stopped a p = inl (λ h. ap Onward p)

    best_back : (h : Given) (b : Ratio) (x : List Ratio) (ms : List Multiplier) (n : AfterRun) (ray : Option (List Ratio)) → ((ss : List Status) → h ≡ Some ss → EndsAtBasis C.program (is_some ray) t before (Best b x ms) m.clock ss) → BestBy bland_search P t ray h C rest m b x ms n → Back n (GoesFromBest P t ray C rest m before b x ms)
    best_back h b x ms n None at (inl (p, e)) = (_, e, inl (p, refl))
    best_back h b x ms n None at (inr (hope, inl (s, none, q, e))) = absurd none
    best_back h b x ms n None at (inr (hope, inr (off, inl (a, p, e)))) = (a, e, inr (hope, inl p))
    best_back h b x ms n None at (inr (hope, inr (off, inr (inl (never, p))))) = let r = branches_back h C rest m x n p in (r.0, r.1, inr (hope, inr (inl (never, r.2))))
    best_back h b x ms n None at (inr (hope, inr (off, inr (inr (ss, trial, may, other, e, tries, p))))) = let r = tried_back h C rest m x trial n p in (r.0, r.1, inr (hope, inr (inr (ss, trial, may, other, at ss e, tries, r.2))))
    best_back h b x ms n (Some r) at p = meets_back h C rest m x ms n p

    along_back : (h : Given) (x d : List Ratio) (n : AfterRun) → AlongBy bland_search P t h C rest m x d n → Back n (GoesAlong P t C rest m x d)
    along_back h x d n (inl (j, f, e)) = (_, e, inl (j, f, refl))
    along_back h x d n (inr (inl (none, wide, e))) = (_, e, inr (inl (none, wide, refl)))
    along_back h x d n (inr (inr (r, none, scaled, p))) = let q = meets_back h (record C { ray = Some r }) rest m x [] n p in (q.0, q.1, inr (inr (r, none, scaled, q.2)))

    goes_back : (h : Given) (e : End) (n : AfterRun) → ((ss : List Status) → h ≡ Some ss → ((k : ℕ) → e ≡ Clash k → ⊥) → EndsAtBasis C.program (is_some C.ray) t before e m.clock ss) → GoesBy bland_search P t h C rest m (Ends e) n → Back n (GoesFrom P t C rest m before e)
    goes_back h (Clash c) n at p = (_, p, refl)
    goes_back h (Empty ms) n at p = (_, p, refl)
    goes_back h (Best b x ms) n at p = best_back h b x ms n C.ray (λ ss e. at ss e (λ k f. cc)) p
    goes_back h (Endless x d) n at p = along_back h x d n p
    goes_back h TurnsOut n at p = (_, p, refl)
    goes_back h (TooWide s) n at p = (_, p, refl)
    goes_back h Stopped n at p = (_, p, refl)

  abbrev pub held : SearchMoment → Given → MomentBy
  held m g = record { moment = m; basis = g; turned = [] }

  -- one visit in the words of the other: of the same case before the same rest, with the same end
  abbrev pub VisitOn : (m : SearchMoment) (g : Given) (a : NextOfSearch) → IsVisit P t m a → Type 0
  VisitOn m g a v = (h : Given) × (w : IsVisitBy bland_search P t (held m g) (with_basis h [] a)) × (w.visit.case ≡ v.visit.case) × (w.visit.rest ≡ v.visit.rest) × (w.finish ≡ Ends v.end)

  abbrev pub VisitBack : (s : MomentBy) (b : NextBy) → IsVisitBy bland_search P t s b → Type 0
  VisitBack s b v = (a : NextOfSearch) × (h : Given) × (b ≡ with_basis h [] a) × (w : IsVisit P t s.moment a) × (w.visit.case ≡ v.visit.case) × (w.visit.rest ≡ v.visit.rest) × (v.finish ≡ Ends w.end)

  pub visit_on : (m : SearchMoment) (g : Given) (a : NextOfSearch) (v : IsVisit P t m a) → VisitOn m g a v
  visit_on m g a v = by (goes_by C v.visit.rest (record m { clock = v.clock }) (looked_once m.clock) v.end a v.goes)
    where
      C : Case
      C = v.visit.case

      of : (h : Given) → RunBy bland C.program (is_some C.ray) t g (best_value m.level m.best) (looked_once m.clock) (Ends v.end) v.clock h → GoesBy bland_search P t h C v.visit.rest (record m { clock = v.clock }) (Ends v.end) (Onward a) → VisitOn m g a v
      of h r p = (kept_for (is_some C.ray) h (Onward a), record { finish = Ends v.end; clock = v.clock; basis = h; visit = record { case = C; rest = v.visit.rest; is = v.visit.is; begins = v.visit.begins; run = r }; after = Onward a; goes = p; is = refl }, refl, refl, refl)

      by : OnBy C v.visit.rest (record m { clock = v.clock }) (looked_once m.clock) v.end a → VisitOn m g a v
      by (inl f) = let r = run_on C.program (is_some C.ray) t g (best_value m.level m.best) (looked_once m.clock) v.end v.clock v.visit.run in of r.0 r.1 (f r.0)
      by (inr (ss, ends, p)) = of (Some ss) (basis_on C.program (is_some C.ray) t g (best_value m.level m.best) (looked_once m.clock) v.end v.clock ss ends) p

  pub next_on : (m : SearchMoment) (g : Given) (a : NextOfSearch) → IsNextInSearch P t m a → (h : Given) × IsNextBy bland_search P t (held m g) (with_basis h [] a)
  next_on m g a (inl (none, c)) = (g, inl (a, none, c, refl))
  next_on m g a (inr (inl (some, s))) = (g, inr (inl (a, some, s, refl)))
  next_on m g a (inr (inr v)) = let r = visit_on m g a v in (r.0, inr (inr r.1))

  pub visit_back : (s : MomentBy) (b : NextBy) → s.turned ≡ [] → (v : IsVisitBy bland_search P t s b) → VisitBack s b v
  visit_back s b low v = by (run_back C.program (is_some C.ray) t s.basis v.basis (best_value m.level m.best) (looked_once m.clock) v.finish v.clock v.visit.run)
    where
      m : SearchMoment
      m = s.moment

      C : Case
      C = v.visit.case

      by : (e : End) × (v.finish ≡ Ends e) × Run C.program (is_some C.ray) t (looked_once m.clock) e v.clock → VisitBack s b v
      by (e, f, r) =
          let run = subst (λ f. RunBy bland C.program (is_some C.ray) t s.basis (best_value m.level m.best) (looked_once m.clock) f v.clock v.basis) f v.visit.run in
          let goes = subst (λ f. GoesBy bland_search P t v.basis C v.visit.rest (record m { clock = v.clock }) f v.after) f v.goes in
          let q = goes_back C v.visit.rest (record m { clock = v.clock }) (looked_once m.clock) v.basis e v.after
          (λ ss q never. basis_back C.program (is_some C.ray) t s.basis (best_value m.level m.best) (looked_once m.clock) e v.clock ss never (subst (λ h. RunBy bland C.program (is_some C.ray) t s.basis (best_value m.level m.best) (looked_once m.clock) (Ends e) v.clock h) q run)) goes in (
            q.0,
            kept_for (is_some C.ray) v.basis (Onward q.0),
            v.is ∙ ap (λ n. with_side (kept_for (is_some C.ray) v.basis n) s.turned (length m.nodes) n) q.1 ∙ ap (λ ts. with_basis (kept_for (is_some C.ray) v.basis (Onward q.0)) ts q.0) low,
            record { end = e; clock = v.clock; visit = record { case = C; rest = v.visit.rest; is = v.visit.is; begins = v.visit.begins; run = r }; goes = q.2 },
            refl,
            refl,
            f,
          )

  pub next_back : (s : MomentBy) (b : NextBy) → s.turned ≡ [] → IsNextBy bland_search P t s b → (a : NextOfSearch) × (h : Given) × (b ≡ with_basis h [] a) × IsNextInSearch P t s.moment a
  next_back s b low (inl (a, none, c, e)) = (a, s.basis, e, inl (none, subst (λ ts. ClosesLevel P t (record (s.moment) { nodes = told ts s.moment.nodes }) s.moment.best s.moment.level.later a) low c))
  next_back s b low (inr (inl (a, some, p, e))) = (a, s.basis, subst (λ ts. b ≡ with_basis s.basis ts a) low e, inr (inl (some, p)))
  next_back s b low (inr (inr v)) = let r = visit_back s b low v in (r.0, r.1, r.2, inr (inr r.3))

  -- the search ends as the other one does
  pub out_back : (s : MomentBy) (o : Outcome) (c : Clock) → s.turned ≡ [] → IsNextBy bland_search P t s (Off o c) → IsNextInSearch P t s.moment (Out o c)
  out_back s o c low next = let r = next_back s (Off o c) low next in by r.0 r.1 r.2 r.3
    where
      by : (a : NextOfSearch) (h : Given) → Off o c ≡ with_basis h [] a → IsNextInSearch P t s.moment a → IsNextInSearch P t s.moment (Out o c)
      by (To k) h e x = absurd (cc)
      by (Out p d) h e x =
          let q : p ≡ o = cc in
          let r : d ≡ c = cc in
          let x' = subst (λ p. IsNextInSearch P t s.moment (Out p d)) q x in
          subst (λ d. IsNextInSearch P t s.moment (Out o d)) r x'

  -- and so does the run of the case at hand
  pub case_on : (m : SearchMoment) (g : Given) (e : End) (c : Clock) → IsCaseRun P t m e c → (h : Given) × IsRunOfCase bland_search P t (held m g) (Ends e) c h
  case_on m g e c v =
      let C = v.case in
      let n = run_on C.program (is_some C.ray) t g (best_value m.level m.best) (looked_once m.clock) e c v.run in
      (n.0, record { case = C; rest = v.rest; is = v.is; begins = v.begins; run = n.1 })

  pub case_back : (s : MomentBy) (f : Finish) (c : Clock) (h : Given) → IsRunOfCase bland_search P t s f c h → (e : End) × IsCaseRun P t s.moment e c
  case_back s f c h v =
      let C = v.case in
      let r = run_back C.program (is_some C.ray) t s.basis h (best_value s.moment.level s.moment.best) (looked_once s.moment.clock) f c v.run in
      (r.0, record { case = C; rest = v.rest; is = v.is; begins = v.begins; run = r.2 })

  -- from a first point, or from none
  module _ (start : Option Found) where
    from_on : (m : SearchMoment) → ComesFrom P t start m → (g : Given) × ComesFromBy bland_search P t start (held m g)
    from_on m From.begins = (None, begins)
    from_on m (From.goes_on {m = before} c next) =
        let r = from_on before c in
        let n = next_on before r.0 (To m) next in
        (n.0, goes_on {m = held before r.0} {n = held m n.0} r.1 n.1)

    from_back : (s : MomentBy) → ComesFromBy bland_search P t start s → (s.turned ≡ []) × ComesFrom P t start s.moment
    from_back s begins = (refl, From.begins)
    from_back s (goes_on {m = before} c next) = let k = from_back before c in let r = next_back before (On s) k.0 next in on k.1 r.0 r.1 r.2 r.3
      where
        on : ComesFrom P t start before.moment → (a : NextOfSearch) (h : Given) → On s ≡ with_basis h [] a → IsNextInSearch P t before.moment a → (s.turned ≡ []) × ComesFrom P t start s.moment
        on k (To n) h e x = let q : n ≡ s.moment = cc in let low : s.turned ≡ [] = cc in (low, subst (ComesFrom P t start) q (From.goes_on {m = before.moment} {n = n} k x))
        on k (Out o c) h e x = absurd (cc)

    pub search_from_on : (o : Outcome) (c : Clock) → SearchFrom P t start o c → SearchFromBy bland_search P t start o c
    search_from_on o c s =
        let r = from_on s.last s.comes in
        let n = next_on s.last r.0 (Out o c) s.ends in
        record { last = held s.last r.0; comes = r.1; ends = n.1 }

    pub search_from_back : (o : Outcome) (c : Clock) → SearchFromBy bland_search P t start o c → SearchFrom P t start o c
    search_from_back o c s = let k = from_back s.last s.comes in record { last = s.last.moment; comes = k.1; ends = out_back s.last o c k.0 s.ends }

    -- and where memory is wanting
    pub answer_from_on : (o : Outcome) (c : Clock) → IsAnswerFrom P t start o c → IsAnswerFromBy bland_search P t start o c
    answer_from_on o c (From.searched s) = searched (search_from_on o c s)
    answer_from_on o c (From.given_up {m} k) = let r = from_on m k in given_up {m = held m r.0} r.1
    answer_from_on o c (From.given_up_after {m} {e} {c = d} k v) =
        let r = from_on m k in
        let n = case_on m r.0 e d v in
        given_up_after {m = held m r.0} {f = Ends e} {h = n.0} r.1 n.1

    pub answer_from_back : (o : Outcome) (c : Clock) → IsAnswerFromBy bland_search P t start o c → IsAnswerFrom P t start o c
    answer_from_back o c (searched s) = From.searched (search_from_back o c s)
    answer_from_back o c (given_up {m} k) = let q = from_back m k in From.given_up {m = m.moment} q.1
    answer_from_back o c (given_up_after {m} {f} {c = d} {h} k v) =
        let q = from_back m k in
        let r = case_back m f d h v in
        From.given_up_after {m = m.moment} {e = r.0} q.1 r.1

  pub search_on : (o : Outcome) (c : Clock) → Search P t o c → SearchBy bland_search P t o c
  search_on o c s =
      let k = search_from_on None o c (record { last = s.last; comes = comes_from_none P t s.last s.comes; ends = s.ends }) in
      record { last = k.last; comes = ByRules.from_none bland_search P t k.last k.comes; ends = k.ends }

  pub search_back : (o : Outcome) (c : Clock) → SearchBy bland_search P t o c → Search P t o c
  search_back o c s =
      let k = search_from_back None o c (record { last = s.last; comes = ByRules.to_none bland_search P t s.last s.comes; ends = s.ends }) in
      record { last = k.last; comes = from_none P t k.last k.comes; ends = k.ends }

  pub answer_on : (o : Outcome) (c : Clock) → IsSearchAnswer P t o c → IsAnswerBy bland_search P t o c
  answer_on o c s = ByRules.plain_answer bland_search P t o c (answer_from_on None o c (answer_plain P t o c s))

  pub answer_back : (o : Outcome) (c : Clock) → IsAnswerBy bland_search P t o c → IsSearchAnswer P t o c
  answer_back o c s = plain_answer P t o c (answer_from_back None o c (ByRules.answer_plain bland_search P t o c s))
