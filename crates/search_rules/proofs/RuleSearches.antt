-- What holds at each moment of a search by legal rules stays so, and its outcome is shown.
use Rattle.std.proofs.Common.{◌≡◌, ℕ, inl, inr, false, Option, None, Some, List, [], ◌∷◌, length, refl, sym, ◌∙◌, ap, subst}
use Rattle.std.specs.List.{All}
use Rattle.std.specs.Option.{is_some}
use Rattle.rational.specs.Ratio.{Ratio}
use Rattle.evidence.specs.Instance.{Problem, IsProblem}
use Rattle.evidence.specs.Cases.{Multiplier, ClashAt, FarkasBy, BoundBy, GridBy}
use Rattle.simplex_rules.specs.declared.columns.Status.{Status}
use Rattle.simplex_rules.specs.Ends.{Terms, Clock, Clash, Empty, Best, Endless, TurnsOut, TooWide, Stopped, IsRelaxed, IsBest}
use Rattle.simplex_rules.specs.Runs.{looked_once}
use Rattle.simplex_rules.specs.Rules.{Given}
use Rattle.simplex_rules.specs.RuleRuns.{Finish, Ends, Passed, ShownBy}
use Rattle.simplex_rules.proofs.RuleMoments.{run_true}
use Rattle.certificate.specs.declared.causes.Cause.{Cause}
use Rattle.search_rules.specs.Branching.{Case}
use Rattle.search_rules.specs.Cuts.{Trial, NoCut, WideCut, Cut, TriesBasis}
use Rattle.search_rules.specs.Search.{SearchMoment, NextOfSearch, Outcome, To, Out, first, early, IsHopeful, MayCut, TakesPoint, ClosesLevel, StopsBefore}
use Rattle.search_rules.specs.Outcomes.{IsShown}
use Rattle.search_rules.specs.RuleSearch.{SearchRules, AreLegalSearches, MomentBy, NextBy, On, Off, AfterRun, Onward, Upward, kept_for, with_basis, with_side, in_place, best_value, BranchesBy, TakesBy, MeetsBy, TriedBy, HopesBy, RoundsBy, BestBy, GoesBy, IsRunOfCase, IsNextBy, ComesBy, begins, goes_on, SearchBy, IsAnswerBy, searched, given_up, given_up_after}
use Rattle.search_rules.proofs.Nodes.{clash_leaf, farkas_leaf}
use Rattle.search_rules.proofs.Cases.{IsOpen}
use Rattle.search_rules.proofs.Moments.{holds_first, clocked, passed_leaf, rounded_leaf, cut_of, this, others, open_along, closes_hold}
use Rattle.search_rules.proofs.SidedNodes.{LeadsBy}
use Rattle.search_rules.proofs.SidedMoments.{HoldsBy, begun_by, placed_holds, closes_begin, leaf_by, low_by, high_by, divide_by, takes_by, cut_by}
use Rattle.search_rules.proofs.Outcomes.{early_shown, stops_shown, closes_shown, takes_shown}

-- what comes of the end of a run holds, with these places so far and the place of a split, or is shown
abbrev pub IsFine : Problem → List ℕ → ℕ → AfterRun → Type 0
IsFine P ts k (Onward (To n)) = HoldsBy P n ts
IsFine P ts k (Onward (Out o d)) = IsShown P o
IsFine P ts k (Upward n) = HoldsBy P n (k ∷ ts)

abbrev pub IsFineNext : Problem → NextBy → Type 0
IsFineNext P (On n) = HoldsBy P n.moment n.turned
IsFineNext P (Off o d) = IsShown P o

side_fine : (P : Problem) (g : Given) (ts : List ℕ) (k : ℕ) (a : AfterRun) → IsFine P ts k a → IsFineNext P (with_side g ts k a)
side_fine P g ts k (Onward (To n)) f = f
side_fine P g ts k (Onward (Out o d)) f = f
side_fine P g ts k (Upward n) f = f

module _ (S : SearchRules) (legal : AreLegalSearches S) (P : Problem) (t : Terms) where
  -- case C is open before the rest
  module _ (g : Given) (C : Case) (rest : List Case) (m : SearchMoment) (ts : List ℕ) (h : HoldsBy P m ts) (opened : IsOpen m.level.program C) (unopened : All (IsOpen m.level.program) rest) (leads : LeadsBy m.level h.holds.cut (C ∷ rest) ts m.nodes m.best) where
    abbrev Fine : AfterRun → Type 0
    Fine a = IsFine P ts (length m.nodes) a

    branches_fine : (x : List Ratio) (a : AfterRun) → BranchesBy S P t g C rest m x a → Fine a
    branches_fine x a (inl (j, k, s, low, e)) = subst Fine (sym e) (low_by P C rest m ts h opened unopened leads j k (legal.splits _ j k s))
    branches_fine x a (inr (inl (j, k, s, high, e))) = subst Fine (sym e) (high_by P C rest m ts h opened unopened leads j k (legal.splits _ j k s))
    branches_fine x a (inr (inr (j, s, e))) = subst Fine (sym e) (divide_by P C rest m ts h opened unopened leads j (legal.divides _ j s))

    takes_fine : (x : List Ratio) (ms : List Multiplier) (a : AfterRun) → IsRelaxed C.program x → (C.ray ≡ None → (b : Ratio) × IsBest C.program b x ms × IsHopeful m.level m.best b) → TakesBy S P t C rest m x ms a → Fine a
    takes_fine x ms a relaxed is_best (n, p, e) = subst Fine (sym e) (so n p)
      where
        so : (n : NextOfSearch) → TakesPoint P t C rest m x ms n → Fine (Onward n)
        so (To n) p = takes_by P C rest m ts h opened unopened leads t x ms n is_best p
        so (Out o d) p = takes_shown P m h.holds t C rest opened x ms o d relaxed p

    meets_fine : (x : List Ratio) (ms : List Multiplier) (a : AfterRun) → IsRelaxed C.program x → (C.ray ≡ None → ⊥) → MeetsBy S P t g C rest m x ms a → Fine a
    meets_fine x ms a relaxed some (inl b) = branches_fine x a b
    meets_fine x ms a relaxed some (inr p) = takes_fine x ms a relaxed (λ e. absurd (some e)) p

  module _ (g : Given) (C : Case) (rest : List Case) (m : SearchMoment) (ts : List ℕ) (is : m.waiting ≡ C ∷ rest) (h : HoldsBy P m ts) where
    abbrev opened : IsOpen m.level.program C
    opened = this P C rest m is h.holds

    abbrev unopened : All (IsOpen m.level.program) rest
    unopened = others P C rest m is h.holds

    leads : LeadsBy m.level h.holds.cut (C ∷ rest) ts m.nodes m.best
    leads = subst (λ cs. LeadsBy m.level h.holds.cut cs ts m.nodes m.best) is h.holds.leads

    abbrev So : AfterRun → Type 0
    So a = IsFine P ts (length m.nodes) a

    given : (c : Cause) (d : Clock) (a : AfterRun) → a ≡ Onward (Out (early m.best c) d) → So a
    given c d a e = subst So (sym e) (early_shown P m h.holds m.best c refl)

    here_fine : (x : List Ratio) (a : AfterRun) → BranchesBy S P t g C rest m x a → So a
    here_fine x a b = branches_fine g C rest m ts h opened unopened leads x a b

    tried_fine : (x : List Ratio) (ss : List Status) (trial : Trial) (a : AfterRun) → MayCut P t m → TriesBasis C.program x ss trial → TriedBy S P t g C rest m x trial a → So a
    tried_fine x ss NoCut a may tries b = here_fine x a b
    tried_fine x ss WideCut a may tries e = given _ _ a e
    tried_fine x ss (Cut ms cs k) a may tries e = subst So (sym e) (cut_by P C rest m ts is h ms cs k may.one_goal may.first_case (cut_of C.program x ss ms cs k tries))

    hopes_fine : (b : Ratio) (x : List Ratio) (ms : List Multiplier) (a : AfterRun) → IsRelaxed C.program x → IsBest C.program b x ms → IsHopeful m.level m.best b → HopesBy S P t g C rest m b x ms a → So a
    hopes_fine b x ms a relaxed best hope (inl p) = takes_fine g C rest m ts h opened unopened leads x ms a relaxed (λ e. (b, best, hope)) p
    hopes_fine b x ms a relaxed best hope (inr (inl (never, p))) = here_fine x a p
    hopes_fine b x ms a relaxed best hope (inr (inr (ss, trial, may, other, e, tries, p))) = tried_fine x ss trial a may tries p

    rounds_fine : (b : Ratio) (x : List Ratio) (ms : List Multiplier) (a : AfterRun) → IsRelaxed C.program x → IsBest C.program b x ms → IsHopeful m.level m.best b → RoundsBy S P t g C rest m b x ms a → So a
    rounds_fine b x ms a relaxed best hope (inl (s, steps, p, e)) = subst So (sym e) (leaf_by P C rest m ts h opened unopened leads (GridBy s ms) (rounded_leaf P C rest m h.holds opened unopened p.found s ms p.is p.grid))
    rounds_fine b x ms a relaxed best hope (inr (off, p)) = hopes_fine b x ms a relaxed best hope p

    best_fine : (b : Ratio) (x : List Ratio) (ms : List Multiplier) (a : AfterRun) → IsRelaxed C.program x → (is_some C.ray ≡ false → IsBest C.program b x ms) → (ray : Option (List Ratio)) → C.ray ≡ ray → BestBy S P t ray g C rest m b x ms a → So a
    best_fine b x ms a relaxed is_best None e (inl (p, f)) =
        let best : IsBest C.program b x ms = is_best (ap is_some e) in
        subst So (sym f) (leaf_by P C rest m ts h opened unopened leads (BoundBy ms) (passed_leaf P C rest m h.holds opened unopened b ms best.number best.bound p))
    best_fine b x ms a relaxed is_best None e (inr (hope, p)) = rounds_fine b x ms a relaxed (is_best (ap is_some e)) hope p
    best_fine b x ms a relaxed is_best (Some r) e p = meets_fine g C rest m ts h opened unopened leads x ms a relaxed (λ none. let off : Some r ≡ None = sym e ∙ none in cc) p

    goes_fine : (f : Finish) (a : AfterRun) → ShownBy (is_some C.ray) C.program f → GoesBy S P t g C rest m f a → So a
    goes_fine (Ends (Clash c)) a s e = subst So (sym e) (leaf_by P C rest m ts h opened unopened leads (ClashAt c) (λ z w. clash_leaf C.program c z s))
    goes_fine (Ends (Empty ms)) a s e = subst So (sym e) (leaf_by P C rest m ts h opened unopened leads (FarkasBy ms) (λ z w. farkas_leaf C.program ms z s))
    goes_fine (Ends (Best b x ms)) a s p = best_fine b x ms a s.0 s.1 C.ray refl p
    goes_fine (Ends (Endless x d)) a s (inl (j, f, e)) = subst So (sym e) (divide_by P C rest m ts h opened unopened leads j (let i = f.moving in i.branch))
    goes_fine (Ends (Endless x d)) a s (inr (inl (none, f, e))) = given _ _ a e
    goes_fine (Ends (Endless x d)) a s (inr (inr (r, none, scaled, p))) =
        meets_fine g (record C { ray = Some r }) rest m ts h (open_along P C rest m is h.holds d r s.2 none scaled) unopened leads x [] a s.1 (λ e. cc) p
    goes_fine (Ends TurnsOut) a s e = given _ _ a e
    goes_fine (Ends (TooWide w)) a s e = given _ _ a e
    goes_fine (Ends Stopped) a s e = given _ _ a e
    goes_fine (Passed b ms) a s (p, e) = subst So (sym e) (leaf_by P C rest m ts h opened unopened leads (BoundBy ms) (passed_leaf P C rest m h.holds opened unopened b ms s.1 s.2 p))

  pub visit_true : (s : MomentBy) (f : Finish) (c : Clock) (b : Given) (v : IsRunOfCase S P t s f c b) → HoldsBy P s.moment s.turned → ShownBy (is_some v.case.ray) v.case.program f
  visit_true s f c b v h =
      let opened = this P v.case v.rest s.moment v.is h.holds in
      run_true S.runs v.case.program (is_some v.case.ray) t s.basis (best_value s.moment.level s.moment.best) (looked_once s.moment.clock) f c b legal.runs opened.case.numbers v.run

  next_fine : (s : MomentBy) (n : NextBy) → HoldsBy P s.moment s.turned → IsNextBy S P t s n → IsFineNext P n
  next_fine s n h (inl (a, none, c, e)) = subst (IsFineNext P) (sym e) (closes a c)
    where
      closes : (a : NextOfSearch) → ClosesLevel P t (in_place s) s.moment.best s.moment.level.later a → IsFineNext P (with_basis s.basis [] a)
      closes (To k) c = begun_by P k (closes_hold P (in_place s) (placed_holds P s.moment s.turned h none) none t k s.moment.best s.moment.level.later refl refl c) (closes_begin P t (in_place s) k s.moment.best s.moment.level.later c)
      closes (Out o d) c = closes_shown P (in_place s) (placed_holds P s.moment s.turned h none) none t o d s.moment.best s.moment.level.later refl refl c
  next_fine s n h (inr (inl (a, some, p, e))) = subst (IsFineNext P) (sym e) (stops a p)
    where
      stops : (a : NextOfSearch) → StopsBefore P t s.moment a → IsFineNext P (with_basis s.basis s.turned a)
      stops (To k) (inl (limit, e)) = absurd (cc)
      stops (To k) (inr (within, stop, e)) = absurd (cc)
      stops (Out o d) p = stops_shown P s.moment h.holds t o d p
  next_fine s n h (inr (inr v)) =
      let C = v.visit.case in
      subst (IsFineNext P) (sym v.is)
      (side_fine P (kept_for (is_some C.ray) v.basis v.after) s.turned (length s.moment.nodes) v.after
      (goes_fine v.basis C v.visit.rest (record (s.moment) { clock = v.clock }) s.turned v.visit.is (record { holds = clocked P s.moment v.clock h.holds; below = h.below }) v.finish v.after
      (visit_true s v.finish v.clock v.basis v.visit h) v.goes))

  pub next_holds : (s n : MomentBy) → HoldsBy P s.moment s.turned → IsNextBy S P t s (On n) → HoldsBy P n.moment n.turned
  next_holds s n h p = next_fine s (On n) h p

  pub next_shown : (s : MomentBy) (o : Outcome) (d : Clock) → HoldsBy P s.moment s.turned → IsNextBy S P t s (Off o d) → IsShown P o
  next_shown s o d h p = next_fine s (Off o d) h p

  pub first_by : IsProblem P → HoldsBy P (first P) []
  first_by n = begun_by P (first P) (holds_first P n) refl

  pub comes_hold : IsProblem P → (s : MomentBy) → ComesBy S P t s → HoldsBy P s.moment s.turned
  comes_hold n s begins = first_by n
  comes_hold n s (goes_on {m = before} c next) = next_holds before s (comes_hold n before c) next

  pub outcome_shown : (o : Outcome) (d : Clock) → IsProblem P → SearchBy S P t o d → IsShown P o
  outcome_shown o d n s = next_shown s.last o d (comes_hold n s.last s.comes) s.ends

  pub answer_shown : (o : Outcome) (d : Clock) → IsProblem P → IsAnswerBy S P t o d → IsShown P o
  answer_shown o d n (searched s) = outcome_shown o d n s
  answer_shown o d n (given_up {m} c) = let h = comes_hold n m c in early_shown P m.moment h.holds m.moment.best _ refl
  answer_shown o d n (given_up_after {m} c r) = let h = comes_hold n m c in early_shown P m.moment h.holds m.moment.best _ refl
