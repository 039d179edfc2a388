-- A search by legal rules none of whose choices has two answers has one outcome.
use Rattle.std.proofs.Common.{◌≡◌, ℕ, ℤ, inl, inr, Option, None, Some, List, [], ◌∷◌, length, refl, sym, ◌∙◌, ap, subst}
use Rattle.std.specs.List.{All}
use Rattle.std.specs.Option.{is_some}
use Rattle.rational.specs.Ratio.{Ratio, IsNumber}
use Rattle.evidence.specs.Instance.{Problem, IsInstance, IsProblem, width}
use Rattle.evidence.specs.Cases.{Multiplier, GridBy}
use Rattle.simplex_rules.specs.Ends.{Terms, Clock, Clash, Empty, Best, Endless, TurnsOut, TooWide, Stopped}
use Rattle.simplex_rules.specs.Runs.{looked_once}
use Rattle.simplex_rules.specs.Rules.{Given}
use Rattle.simplex_rules.specs.RuleRuns.{Finish, Ends, Passed, ShownBy, RunBy}
use Rattle.simplex_rules.proofs.RuleEnds.{run_once}
use Rattle.search_rules.specs.Branching.{Case, AreMetBelow}
use Rattle.search_rules.specs.Cuts.{Trial, NoCut, WideCut, Cut, TriesBasis}
use Rattle.search_rules.specs.Search.{SearchMoment, Outcome, To, first, closed_by_leaf, branch, divide}
use Rattle.search_rules.specs.RuleSearch.{BranchView, SearchRules, AreLegalSearches, AreSingleSearches, MomentBy, NextBy, On, Off, AfterRun, Onward, Upward, kept_for, with_basis, with_side, in_place, branch_up, best_value, BranchesBy, TakesBy, MeetsBy, TriedBy, HopesBy, RoundsBy, BestBy, AlongBy, GoesBy, IsVisitBy, IsNextBy, ComesBy, begins, goes_on, SearchBy}
use Rattle.search_rules.proofs.Rays.{one_ray}
use Rattle.search_rules.proofs.OneCut.{trial_once}
use Rattle.search_rules.proofs.Moments.{this}
use Rattle.search_rules.proofs.OneOutcome.{takes_once, not_both, one_moving, stops_once, stops_begun, closes_once}
use Rattle.search_rules.proofs.SidedMoments.{HoldsBy, placed_holds}
use Rattle.search_rules.proofs.RuleSearches.{next_holds, visit_true, first_by}

module _ (S : SearchRules) (legal : AreLegalSearches S) (single : AreSingleSearches S) (P : Problem) (good : IsProblem P) (t : Terms) where
  module _ (g : Given) (C : Case) (rest : List Case) (m : SearchMoment) where
    abbrev here : List Ratio → BranchView
    here x = record { case = C; basis = g; point = x }

    -- which case comes first is one
    one_side : (x : List Ratio) (i j : ℕ) (k l : ℤ) → S.Splits (here x) i k → S.Splits (here x) j l → (S.Rises (here x) i → ⊥) → S.Rises (here x) j → ⊥
    one_side x i j k l s u low high = let p = single.splits (here x) i j k l s u in low (subst (λ i. S.Rises (here x) i) (sym p.0) high)

    branches_once : (x : List Ratio) (a b : AfterRun) → BranchesBy S P t g C rest m x a → BranchesBy S P t g C rest m x b → a ≡ b
    branches_once x a b (inl (i, k, s, low, e)) (inl (j, l, u, lower, f)) =
        let p = single.splits (here x) i j k l s u in
        e ∙ ap (λ i. Onward (To (branch m C rest i k))) p.0 ∙ ap (λ k. Onward (To (branch m C rest j k))) p.1 ∙ sym f
    branches_once x a b (inl (i, k, s, low, e)) (inr (inl (j, l, u, high, f))) = absurd (one_side x i j k l s u low high)
    branches_once x a b (inl (i, k, s, low, e)) (inr (inr (j, d, f))) = absurd (single.either (here x) i j k s d)
    branches_once x a b (inr (inl (i, k, s, high, e))) (inl (j, l, u, low, f)) = absurd (one_side x j i l k u s low high)
    branches_once x a b (inr (inl (i, k, s, high, e))) (inr (inl (j, l, u, higher, f))) =
        let p = single.splits (here x) i j k l s u in
        e ∙ ap (λ i. Upward (branch_up m C rest i k)) p.0 ∙ ap (λ k. Upward (branch_up m C rest j k)) p.1 ∙ sym f
    branches_once x a b (inr (inl (i, k, s, high, e))) (inr (inr (j, d, f))) = absurd (single.either (here x) i j k s d)
    branches_once x a b (inr (inr (i, d, e))) (inl (j, l, u, low, f)) = absurd (single.either (here x) j i l u d)
    branches_once x a b (inr (inr (i, d, e))) (inr (inl (j, l, u, high, f))) = absurd (single.either (here x) j i l u d)
    branches_once x a b (inr (inr (i, d, e))) (inr (inr (j, u, f))) = e ∙ ap (λ i. Onward (To (divide m C rest i))) (single.divides (here x) i j d u) ∙ sym f

    branches_met : (x : List Ratio) (a : AfterRun) → BranchesBy S P t g C rest m x a → AreMetBelow C.program x (width C.program) → ⊥
    branches_met x a (inl (j, k, s, low, e)) met = single.split_unmet (here x) j k s met
    branches_met x a (inr (inl (j, k, s, high, e))) met = single.split_unmet (here x) j k s met
    branches_met x a (inr (inr (j, d, e))) met = single.divided_unmet (here x) j d met

    takes_by_once : (x : List Ratio) (ms : List Multiplier) (a b : AfterRun) → TakesBy S P t C rest m x ms a → TakesBy S P t C rest m x ms b → a ≡ b
    takes_by_once x ms a b (n, p, e) (o, q, f) = e ∙ ap Onward (takes_once P good t C rest m x ms n o p q) ∙ sym f

    -- no case is branched whose point is found
    not_taken : (x : List Ratio) (ms : List Multiplier) (a b : AfterRun) → BranchesBy S P t g C rest m x a → TakesBy S P t C rest m x ms b → ⊥
    not_taken x ms a b p (n, q, e) = branches_met x a p q.0

    meets_once : (x : List Ratio) (ms : List Multiplier) (a b : AfterRun) → MeetsBy S P t g C rest m x ms a → MeetsBy S P t g C rest m x ms b → a ≡ b
    meets_once x ms a b (inl p) (inl q) = branches_once x a b p q
    meets_once x ms a b (inl p) (inr q) = absurd (not_taken x ms a b p q)
    meets_once x ms a b (inr p) (inl q) = absurd (not_taken x ms b a q p)
    meets_once x ms a b (inr p) (inr q) = takes_by_once x ms a b p q

    tried_once : (x : List Ratio) (trial : Trial) (a b : AfterRun) → TriedBy S P t g C rest m x trial a → TriedBy S P t g C rest m x trial b → a ≡ b
    tried_once x NoCut a b p q = branches_once x a b p q
    tried_once x WideCut a b p q = p ∙ sym q
    tried_once x (Cut ms cs k) a b p q = p ∙ sym q

    module _ (fine : IsInstance C.program) where
      hopes_once : (c : Ratio) (x : List Ratio) (ms : List Multiplier) (a b : AfterRun) → HopesBy S P t g C rest m c x ms a → HopesBy S P t g C rest m c x ms b → a ≡ b
      hopes_once c x ms a b (inl p) (inl q) = takes_by_once x ms a b p q
      hopes_once c x ms a b (inl p) (inr (inl (never, q))) = absurd (not_taken x ms b a q p)
      hopes_once c x ms a b (inl (n, p, i)) (inr (inr (ss, trial, may, other, e, tries, q))) = absurd (other p.0)
      hopes_once c x ms a b (inr (inl (never, p))) (inl q) = absurd (not_taken x ms a b p q)
      hopes_once c x ms a b (inr (inl (never, p))) (inr (inl (nor, q))) = branches_once x a b p q
      hopes_once c x ms a b (inr (inl (never, p))) (inr (inr (ss, trial, may, other, e, tries, q))) = absurd (never may)
      hopes_once c x ms a b (inr (inr (ss, trial, may, other, e, tries, p))) (inl (n, q, i)) = absurd (other q.0)
      hopes_once c x ms a b (inr (inr (ss, trial, may, other, e, tries, p))) (inr (inl (never, q))) = absurd (never may)
      hopes_once c x ms a b (inr (inr (ss, trial, may, other, e, tries, p))) (inr (inr (us, tried, can, also, f, tries_too, q))) =
          let s : Some ss ≡ Some us = sym e ∙ f in
          let r : ss ≡ us = cc in
          let k : trial ≡ tried = trial_once C.program fine x us trial tried (subst (λ ss. TriesBasis C.program x ss trial) r tries) tries_too in
          tried_once x tried a b (subst (λ k. TriedBy S P t g C rest m x k a) k p) q

      rounds_once : (c : Ratio) (x : List Ratio) (ms : List Multiplier) (a b : AfterRun) → RoundsBy S P t g C rest m c x ms a → RoundsBy S P t g C rest m c x ms b → a ≡ b
      rounds_once c x ms a b (inl (s, p, r, e)) (inl (u, q, o, f)) = e ∙ ap (λ s. Onward (To (closed_by_leaf m rest (GridBy s ms)))) (single.steps C.program s u p q) ∙ sym f
      rounds_once c x ms a b (inl (s, p, r, e)) (inr (off, q)) = absurd (off s p r)
      rounds_once c x ms a b (inr (off, q)) (inl (s, p, r, e)) = absurd (off s p r)
      rounds_once c x ms a b (inr (off, p)) (inr (nor, q)) = hopes_once c x ms a b p q

      best_once : (before : Clock) (ray : Option (List Ratio)) (c : Ratio) (x : List Ratio) (ms : List Multiplier) (a b : AfterRun) → BestBy S P t ray g C rest m c x ms a → BestBy S P t ray g C rest m c x ms b → a ≡ b
      best_once before None c x ms a b (inl (p, e)) (inl (q, f)) = e ∙ sym f
      best_once before None c x ms a b (inl (p, e)) (inr (q, f)) = absurd (not_both P good t C rest m fine before m.level m.best c p q)
      best_once before None c x ms a b (inr (p, e)) (inl (q, f)) = absurd (not_both P good t C rest m fine before m.level m.best c q p)
      best_once before None c x ms a b (inr (p, e)) (inr (q, f)) = rounds_once c x ms a b e f
      best_once before (Some r) c x ms a b p q = meets_once x ms a b p q

  along_once : (g : Given) (C : Case) (rest : List Case) (m : SearchMoment) (x d : List Ratio) (numbers : All IsNumber d) (a b : AfterRun) → AlongBy S P t g C rest m x d a → AlongBy S P t g C rest m x d b → a ≡ b
  along_once g C rest m x d numbers a b (inl (i, p, e)) (inl (j, q, f)) = e ∙ ap (λ j. Onward (To (divide m C rest j))) (one_moving P good C d i j p q) ∙ sym f
  along_once g C rest m x d numbers a b (inl (i, p, e)) (inr (inl (still, wide, f))) = absurd (still i p.moving)
  along_once g C rest m x d numbers a b (inl (i, p, e)) (inr (inr (r, still, s, f))) = absurd (still i p.moving)
  along_once g C rest m x d numbers a b (inr (inl (still, wide, e))) (inl (j, q, f)) = absurd (still j q.moving)
  along_once g C rest m x d numbers a b (inr (inl (still, wide, e))) (inr (inl (nor, far, f))) = e ∙ sym f
  along_once g C rest m x d numbers a b (inr (inl (still, wide, e))) (inr (inr (r, nor, s, f))) = absurd (wide r s)
  along_once g C rest m x d numbers a b (inr (inr (r, still, s, e))) (inl (j, q, f)) = absurd (still j q.moving)
  along_once g C rest m x d numbers a b (inr (inr (r, still, s, e))) (inr (inl (nor, wide, f))) = absurd (wide r s)
  along_once g C rest m x d numbers a b (inr (inr (r, still, s, e))) (inr (inr (q, nor, u, f))) =
      let k : r ≡ q = one_ray P.program d numbers r q s u in
      meets_once g (record C { ray = Some q }) rest m x [] a b (subst (λ r. MeetsBy S P t g (record C { ray = Some r }) rest m x [] a) k e) f

  goes_once : (g : Given) (C : Case) (rest : List Case) (m : SearchMoment) (fine : IsInstance C.program) (e : Finish) (a b : AfterRun) → ShownBy (is_some C.ray) C.program e → GoesBy S P t g C rest m e a → GoesBy S P t g C rest m e b → a ≡ b
  goes_once g C rest m fine (Ends (Clash c)) a b shown p q = p ∙ sym q
  goes_once g C rest m fine (Ends (Empty ms)) a b shown p q = p ∙ sym q
  goes_once g C rest m fine (Ends (Best c x ms)) a b shown p q = best_once g C rest m fine m.clock C.ray c x ms a b p q
  goes_once g C rest m fine (Ends (Endless x d)) a b shown p q = along_once g C rest m x d (let h = shown.2 in h.numbers) a b p q
  goes_once g C rest m fine (Ends TurnsOut) a b shown p q = p ∙ sym q
  goes_once g C rest m fine (Ends (TooWide s)) a b shown p q = p ∙ sym q
  goes_once g C rest m fine (Ends Stopped) a b shown p q = p ∙ sym q
  goes_once g C rest m fine (Passed c ms) a b shown p q = p.1 ∙ sym q.1

  visit_once : (s : MomentBy) (a b : NextBy) → HoldsBy P s.moment s.turned → IsVisitBy S P t s a → IsVisitBy S P t s b → a ≡ b
  visit_once s a b h v w =
      let m = s.moment in
      let C = w.visit.case in
      let k : Clock = looked_once m.clock in
      let l : v.visit.case ∷ v.visit.rest ≡ C ∷ w.visit.rest = sym v.visit.is ∙ w.visit.is in
      let p : v.visit.case ≡ C = cc in
      let q : v.visit.rest ≡ w.visit.rest = cc in
      let n : IsInstance C.program = let c = this P C w.visit.rest m w.visit.is h.holds in c.case.numbers in
      let r = run_once S.runs C.program (is_some C.ray) t s.basis (best_value m.level m.best) k v.finish w.finish v.clock w.clock v.basis w.basis legal.runs single.runs n (subst (λ D. RunBy S.runs D.program (is_some D.ray) t s.basis (best_value m.level m.best) k v.finish v.clock v.basis) p v.visit.run) w.visit.run in
      let g = subst (λ D. GoesBy S P t v.basis D v.visit.rest (record m { clock = v.clock }) v.finish v.after) p v.goes in
      let g = subst (λ l. GoesBy S P t v.basis C l (record m { clock = v.clock }) v.finish v.after) q g in
      let g = subst (λ e. GoesBy S P t v.basis C w.visit.rest (record m { clock = v.clock }) e v.after) r.0 g in
      let g = subst (λ c. GoesBy S P t v.basis C w.visit.rest (record m { clock = c }) w.finish v.after) r.1 g in
      let g = subst (λ z. GoesBy S P t z C w.visit.rest (record m { clock = w.clock }) w.finish v.after) r.2 g in
      let o : v.after ≡ w.after = goes_once w.basis C w.visit.rest (record m { clock = w.clock }) n w.finish v.after w.after (visit_true S legal P t s w.finish w.clock w.basis w.visit h) g w.goes in
      v.is
      ∙ ap (λ D. with_side (kept_for (is_some D.ray) v.basis v.after) s.turned (length m.nodes) v.after) p
      ∙ ap (λ z. with_side (kept_for (is_some C.ray) z v.after) s.turned (length m.nodes) v.after) r.2
      ∙ ap (λ n. with_side (kept_for (is_some C.ray) w.basis n) s.turned (length m.nodes) n) o
      ∙ sym w.is

  waits : (s : MomentBy) (a : NextBy) → IsVisitBy S P t s a → s.moment.waiting ≡ [] → ⊥
  waits s a v e = let q = v.visit.is in cc

  pub next_once : (s : MomentBy) (a b : NextBy) → HoldsBy P s.moment s.turned → IsNextBy S P t s a → IsNextBy S P t s b → a ≡ b
  next_once s a b h (inl (x, e, p, i)) (inl (y, f, q, j)) = i ∙ ap (with_basis s.basis []) (closes_once P good t (in_place s) x y (placed_holds P s.moment s.turned h e) s.moment.best s.moment.level.later refl p q) ∙ sym j
  next_once s a b h (inl (x, e, p, i)) (inr (inl (y, f, q, j))) = absurd (f e)
  next_once s a b h (inl (x, e, p, i)) (inr (inr w)) = absurd (waits s b w e)
  next_once s a b h (inr (inl (x, e, p, i))) (inl (y, f, q, j)) = absurd (e f)
  next_once s a b h (inr (inl (x, e, p, i))) (inr (inl (y, f, q, j))) = i ∙ ap (with_basis s.basis s.turned) (stops_once P good t s.moment x y p q) ∙ sym j
  next_once s a b h (inr (inl (x, e, p, i))) (inr (inr w)) = absurd (stops_begun P good t s.moment x p (let c = w.visit in c.begins))
  next_once s a b h (inr (inr v)) (inl (y, f, q, j)) = absurd (waits s a v f)
  next_once s a b h (inr (inr v)) (inr (inl (y, f, q, j))) = absurd (stops_begun P good t s.moment y q (let c = v.visit in c.begins))
  next_once s a b h (inr (inr v)) (inr (inr w)) = visit_once s a b h v w

  -- the moments from one on, to the end
  pub data Halts : MomentBy → Outcome → Clock → Type 0 where
    now : {m : MomentBy} {o : Outcome} {c : Clock} → IsNextBy S P t m (Off o c) → Halts m o c
    later : {m n : MomentBy} {o : Outcome} {c : Clock} → IsNextBy S P t m (On n) → Halts n o c → Halts m o c

  from_first : (m : MomentBy) (o : Outcome) (c : Clock) → ComesBy S P t m → Halts m o c → Halts (record { moment = first P; basis = None; turned = [] }) o c
  from_first m o c begins h = h
  from_first m o c (goes_on {m = before} p next) h = from_first before o c p (later next h)

  pub halts_once : (m : MomentBy) (o : Outcome) (c : Clock) → HoldsBy P m.moment m.turned → Halts m o c → (n : MomentBy) (p : Outcome) (d : Clock) → n ≡ m → Halts n p d → (o ≡ p) × (c ≡ d)
  halts_once m o c h (now a) n p d e (now b) = let q = next_once m (Off o c) (Off p d) h a (subst (λ k. IsNextBy S P t k (Off p d)) e b) in (cc, cc)
  halts_once m o c h (now a) n p d e (later {n = k} b i) = let q = next_once m (Off o c) (On k) h a (subst (λ i. IsNextBy S P t i (On k)) e b) in absurd (cc)
  halts_once m o c h (later {n = k} a i) n p d e (now b) = let q = next_once m (On k) (Off p d) h a (subst (λ i. IsNextBy S P t i (Off p d)) e b) in absurd (cc)
  halts_once m o c h (later {n = k} a i) n p d e (later {n = l} b j) =
      let q = next_once m (On k) (On l) h a (subst (λ i. IsNextBy S P t i (On l)) e b) in
      let r : l ≡ k = cc in
      halts_once k o c (next_holds S legal P t m k h a) i l p d r j

  pub search_once : (o p : Outcome) (c d : Clock) → SearchBy S P t o c → SearchBy S P t p d → (o ≡ p) × (c ≡ d)
  search_once o p c d s u = halts_once (record { moment = first P; basis = None; turned = [] }) o c (first_by S legal P t good) (from_first s.last o c s.comes (now s.ends)) (record { moment = first P; basis = None; turned = [] }) p d refl (from_first u.last p d u.comes (now u.ends))
