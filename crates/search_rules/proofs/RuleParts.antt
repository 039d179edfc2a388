-- What comes in place of a case in a search by legal rules is narrower, so that what the case carried bounds it too.
use Rattle.std.proofs.Common.{◌≡◌, ℕ, inl, inr, ℤ, pos, ◌+ℤ◌, Option, None, Some, List, [], ◌∷◌, ◌++◌, map, length, refl, sym, ◌∙◌, subst}
use Rattle.std.specs.List.{All}
use Rattle.std.specs.Option.{is_some}
use Rattle.std.proofs.lemmas.List.{append_cancel_right}
use Rattle.rational.specs.Ratio.{Ratio}
use Rattle.evidence.specs.Instance.{Instance, Problem, IsInstance}
use Rattle.evidence.specs.Cases.{Multiplier, Node, ClashAt, FarkasBy, BoundBy, GridBy, IsBranch, IsZeroBranch, at_most, at_least}
use Rattle.evidence.specs.Narrower.{IsNarrower}
use Rattle.evidence.proofs.Narrower.{narrower_most, narrower_least}
use Rattle.simplex_rules.specs.Ends.{Terms, Clock, Clash, Empty, Best, Endless, TurnsOut, TooWide, Stopped}
use Rattle.simplex_rules.specs.Rules.{Given}
use Rattle.simplex_rules.specs.RuleRuns.{Finish, Ends, Passed, ShownBy}
use Rattle.search_rules.specs.Branching.{Case}
use Rattle.search_rules.specs.Cuts.{Trial, NoCut, WideCut, Cut}
use Rattle.search_rules.specs.Search.{SearchMoment, NextOfSearch, Outcome, To, Out, undivided, closed_by_leaf, branch, divide, with_cut, TakesPoint, ClosesLevel}
use Rattle.search_rules.specs.Bounds.{Carried}
use Rattle.search_rules.specs.RuleSearch.{SearchRules, AreLegalSearches, MomentBy, On, AfterRun, Onward, Upward, kept_for, with_basis, with_side, in_place, branch_up, BranchesBy, TakesBy, MeetsBy, TriedBy, HopesBy, RoundsBy, BestBy, GoesBy, IsVisitBy, IsNextBy}
use Rattle.search_rules.specs.RuleAsked.{carried_by, number_by}
use Rattle.search_rules.proofs.Moments.{this}
use Rattle.search_rules.proofs.OpenBounds.{IsPart, closed_part, two_part, cut_part, divided_part, takes_part, along_part, level_begins}
use Rattle.search_rules.proofs.SidedMoments.{HoldsBy}
use Rattle.search_rules.proofs.RuleSearches.{visit_true}
use Rattle.search_rules.proofs.NearSearches.{NumberedBy, AllNumbered, numbered_after, each_numbered}

-- what comes of the end of a run has parts of the case before the rest
abbrev pub IsPartBy : Case → List Case → AfterRun → Type 0
IsPartBy C rest (Onward (To n)) = IsPart C rest n
IsPartBy C rest (Onward (Out o d)) = Unit {0}
IsPartBy C rest (Upward n) = IsPart C rest n

along_parts : (C : Case) (rest : List Case) (r : List Ratio) (a : AfterRun) → IsPartBy (record C { ray = Some r }) rest a → IsPartBy C rest a
along_parts C rest r (Onward (To n)) p = along_part C rest n r p
along_parts C rest r (Onward (Out o d)) p = tt
along_parts C rest r (Upward n) p = along_part C rest n r p

side_part : (C : Case) (rest : List Case) (g : Given) (ts : List ℕ) (k : ℕ) (a : AfterRun) (n : MomentBy) → On n ≡ with_side g ts k a → IsPartBy C rest a → IsPart C rest n.moment
side_part C rest g ts k (Onward (To m)) n e p = let q : m ≡ n.moment = cc in subst (IsPart C rest) q p
side_part C rest g ts k (Onward (Out o d)) n e p = absurd (cc)
side_part C rest g ts k (Upward m) n e p = let q : m ≡ n.moment = cc in subst (IsPart C rest) q p

module _ (S : SearchRules) (legal : AreLegalSearches S) (P : Problem) (t : Terms) where
  module _ (g : Given) (C : Case) (rest : List Case) (m : SearchMoment) where
    abbrev Part : AfterRun → Type 0
    Part a = IsPartBy C rest a

    abbrev lower : ℕ → ℤ → Case
    lower j k = record C { program = at_most C.program j k }

    abbrev upper : ℕ → ℤ → Case
    upper j k = record C { program = at_least C.program j (k +ℤ pos 1) }

    closes_parts : (node : Node) (a : AfterRun) → a ≡ Onward (To (closed_by_leaf m rest node)) → Part a
    closes_parts node a e = subst Part (sym e) (let p = closed_part C rest m (closed_by_leaf m rest node) refl in p.part)

    ends_parts : (o : Outcome) (d : Clock) (a : AfterRun) → a ≡ Onward (Out o d) → Part a
    ends_parts o d a e = subst Part (sym e) tt

    divides_parts : (j : ℕ) (a : AfterRun) → IsZeroBranch C.program j → a ≡ Onward (To (divide m C rest j)) → Part a
    divides_parts j a b e = subst Part (sym e) (let p = divided_part C rest m (divide m C rest j) j b.variable refl in p.part)

    branches_parts : (x : List Ratio) (a : AfterRun) → BranchesBy S P t g C rest m x a → Part a
    branches_parts x a (inl (j, k, s, low, e)) =
        let b : IsBranch C.program j k = legal.splits _ j k s in
        let p = two_part C rest m (branch m C rest j k) (lower j k) (upper j k) refl (narrower_most C.program j k b.variable) (narrower_least C.program j (k +ℤ pos 1) b.variable) refl refl in
        subst Part (sym e) p.part
    branches_parts x a (inr (inl (j, k, s, high, e))) =
        let b : IsBranch C.program j k = legal.splits _ j k s in
        let p = two_part C rest m (branch_up m C rest j k) (upper j k) (lower j k) refl (narrower_least C.program j (k +ℤ pos 1) b.variable) (narrower_most C.program j k b.variable) refl refl in
        subst Part (sym e) p.part
    branches_parts x a (inr (inr (j, s, e))) = let b : IsZeroBranch C.program j = legal.divides _ j s in divides_parts j a b e

    takes_parts : (x : List Ratio) (ms : List Multiplier) (a : AfterRun) → TakesBy S P t C rest m x ms a → Part a
    takes_parts x ms a (n, p, e) = subst Part (sym e) (so n p)
      where
        so : (n : NextOfSearch) → TakesPoint P t C rest m x ms n → Part (Onward n)
        so (To n) p = let q = takes_part C rest m P t x ms n p in q.part
        so (Out o d) p = tt

    meets_parts : (x : List Ratio) (ms : List Multiplier) (a : AfterRun) → MeetsBy S P t g C rest m x ms a → Part a
    meets_parts x ms a (inl b) = branches_parts x a b
    meets_parts x ms a (inr p) = takes_parts x ms a p

    tried_parts : (x : List Ratio) (trial : Trial) (a : AfterRun) → TriedBy S P t g C rest m x trial a → Part a
    tried_parts x NoCut a b = branches_parts x a b
    tried_parts x WideCut a e = ends_parts _ _ a e
    tried_parts x (Cut ms cs k) a e = subst Part (sym e) (let p = cut_part C rest m (with_cut m C rest ms cs k) ms cs k refl in p.part)

    hopes_parts : (b : Ratio) (x : List Ratio) (ms : List Multiplier) (a : AfterRun) → HopesBy S P t g C rest m b x ms a → Part a
    hopes_parts b x ms a (inl p) = takes_parts x ms a p
    hopes_parts b x ms a (inr (inl (never, p))) = branches_parts x a p
    hopes_parts b x ms a (inr (inr (ss, trial, may, other, e, tries, p))) = tried_parts x trial a p

    rounds_parts : (b : Ratio) (x : List Ratio) (ms : List Multiplier) (a : AfterRun) → RoundsBy S P t g C rest m b x ms a → Part a
    rounds_parts b x ms a (inl (s, steps, p, e)) = closes_parts (GridBy s ms) a e
    rounds_parts b x ms a (inr (off, p)) = hopes_parts b x ms a p

    best_parts : (ray : Option (List Ratio)) (b : Ratio) (x : List Ratio) (ms : List Multiplier) (a : AfterRun) → BestBy S P t ray g C rest m b x ms a → Part a
    best_parts None b x ms a (inl (p, e)) = closes_parts (BoundBy ms) a e
    best_parts None b x ms a (inr (hope, p)) = rounds_parts b x ms a p
    best_parts (Some r) b x ms a p = meets_parts x ms a p

  goes_parts : (g : Given) (C : Case) (rest : List Case) (m : SearchMoment) (f : Finish) (a : AfterRun) → GoesBy S P t g C rest m f a → IsPartBy C rest a
  goes_parts g C rest m (Ends (Clash c)) a e = closes_parts g C rest m (ClashAt c) a e
  goes_parts g C rest m (Ends (Empty ms)) a e = closes_parts g C rest m (FarkasBy ms) a e
  goes_parts g C rest m (Ends (Best b x ms)) a p = best_parts g C rest m C.ray b x ms a p
  goes_parts g C rest m (Ends (Endless x d)) a (inl (j, f, e)) = divides_parts g C rest m j a (let i = f.moving in i.branch) e
  goes_parts g C rest m (Ends (Endless x d)) a (inr (inl (none, f, e))) = ends_parts g C rest m _ _ a e
  goes_parts g C rest m (Ends (Endless x d)) a (inr (inr (r, none, scaled, p))) = along_parts C rest r a (meets_parts g (record C { ray = Some r }) rest m x [] a p)
  goes_parts g C rest m (Ends TurnsOut) a e = ends_parts g C rest m _ _ a e
  goes_parts g C rest m (Ends (TooWide w)) a e = ends_parts g C rest m _ _ a e
  goes_parts g C rest m (Ends Stopped) a e = ends_parts g C rest m _ _ a e
  goes_parts g C rest m (Passed b ms) a (p, e) = closes_parts g C rest m (BoundBy ms) a e

  pub visit_part : (s n : MomentBy) (v : IsVisitBy S P t s (On n)) → IsPart v.visit.case v.visit.rest n.moment
  visit_part s n v =
      let C = v.visit.case in
      side_part C v.visit.rest (kept_for (is_some C.ray) v.basis v.after) s.turned (length s.moment.nodes) v.after n v.is
      (goes_parts v.basis C v.visit.rest (record (s.moment) { clock = v.clock }) v.finish v.after v.goes)

  -- a level begins with its program alone
  pub begins_level : (s n : MomentBy) → s.moment.waiting ≡ [] → IsNextBy S P t s (On n) → n.moment.waiting ≡ undivided n.moment.level.program ∷ []
  begins_level s n none (inl (a, empty, c, e)) = by a c e
    where
      by : (a : NextOfSearch) → ClosesLevel P t (in_place s) s.moment.best s.moment.level.later a → On n ≡ with_basis s.basis [] a → n.moment.waiting ≡ undivided n.moment.level.program ∷ []
      by (To k) c e = let q : k ≡ n.moment = cc in subst (λ (m : SearchMoment). m.waiting ≡ undivided m.level.program ∷ []) q (level_begins P t (in_place s) k none (inl (none, c)))
      by (Out o d) c e = absurd (cc)
  begins_level s n none (inr (inl (a, some, p, e))) = absurd (some none)
  begins_level s n none (inr (inr v)) = let e : v.visit.case ∷ v.visit.rest ≡ [] = sym v.visit.is ∙ none in absurd (cc)

  numbered_by : (J : Instance) (ray : Option (List Ratio)) (f : Finish) (k : Carried) (x : Option Ratio) → ShownBy (is_some ray) J f → NumberedBy J k x → NumberedBy J (carried_by ray f k) (number_by ray f x)
  numbered_by J ray (Ends e) k x s h = numbered_after J ray e k x s h
  numbered_by J ray (Passed b ms) k x s h = h

  pub visit_numbers : (s n : MomentBy) → HoldsBy P s.moment s.turned → HoldsBy P n.moment n.turned → (k : Carried) (x : Option Ratio) (ks : List Carried) (xs : List (Option Ratio)) (v : IsVisitBy S P t s (On n)) (new : List Case) → n.moment.waiting ≡ new ++ v.visit.rest → AllNumbered s.moment.waiting (k ∷ ks) (x ∷ xs)
      → AllNumbered n.moment.waiting (map (λ C. carried_by v.visit.case.ray v.finish k) new ++ ks) (map (λ C. number_by v.visit.case.ray v.finish x) new ++ xs)
  visit_numbers s n h g k x ks xs v new is all =
      let C = v.visit.case in
      let rest = v.visit.rest in
      let both : AllNumbered (C ∷ rest) (k ∷ ks) (x ∷ xs) = subst (λ cs. AllNumbered cs (k ∷ ks) (x ∷ xs)) v.visit.is all in
      let opened = this P C rest s.moment v.visit.is h.holds in
      let numbers : IsInstance C.program = opened.case.numbers in
      let shown = visit_true S legal P t s v.finish v.clock v.basis v.visit h in
      let part = visit_part s n v in
      let same : part.new ≡ new = append_cancel_right part.new new rest (sym part.is ∙ is) in
      let narrower = subst (All (λ (K : Case). IsNarrower K.program C.program)) same part.narrower in
      let there = g.holds in
      let instances : All (λ (K : Case). IsInstance K.program) (new ++ rest) = subst (All (λ (K : Case). IsInstance K.program)) is (λ i d low. let o = there.cases i d low in o.case.numbers) in
      subst (λ cs. AllNumbered cs (map (λ C. carried_by v.visit.case.ray v.finish k) new ++ ks) (map (λ C. number_by v.visit.case.ray v.finish x) new ++ xs)) (sym is)
      (each_numbered C.program (carried_by C.ray v.finish k) (number_by C.ray v.finish x) numbers (numbered_by C.program C.ray v.finish k x shown both.0) new rest ks xs narrower instances both.1)

  -- with nothing carried
  pub level_numbers : (s n : MomentBy) → s.moment.waiting ≡ [] → IsNextBy S P t s (On n) → AllNumbered n.moment.waiting (None ∷ []) (None ∷ [])
  level_numbers s n empty next = subst (λ cs. AllNumbered cs (None ∷ []) (None ∷ [])) (sym (begins_level s n empty next)) (tt, tt)
