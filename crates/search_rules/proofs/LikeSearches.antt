-- Rules that split and divide each case at hand as others do have their searches.
use Rattle.std.proofs.Common.{◌≡◌, ℕ, inl, inr, ℤ, Option, None, Some, List, [], ◌∷◌, refl}
use Rattle.rational.specs.Ratio.{Ratio}
use Rattle.evidence.specs.Instance.{Instance, Problem}
use Rattle.evidence.specs.Cases.{Multiplier}
use Rattle.simplex_rules.specs.Ends.{Terms, Clock, Clash, Empty, Best, Endless, TurnsOut, TooWide, Stopped}
use Rattle.simplex_rules.specs.Rules.{Given}
use Rattle.simplex_rules.specs.RuleRuns.{Finish, Ends, Passed}
use Rattle.search_rules.specs.Branching.{Case}
use Rattle.search_rules.specs.Cuts.{Trial, NoCut, WideCut, Cut}
use Rattle.search_rules.specs.Search.{SearchMoment, Outcome}
use Rattle.search_rules.specs.RuleSearch.{BranchView, SearchRules, MomentBy, NextBy, On, AfterRun, BranchesBy, MeetsBy, TriedBy, HopesBy, RoundsBy, BestBy, GoesBy, IsRunOfCase, IsNextBy, ComesBy, begins, goes_on, SearchBy, IsAnswerBy, searched, given_up, given_up_after}

module _ (S : SearchRules) (Splits : BranchView → ℕ → ℤ → Type 0) (Divides : BranchView → ℕ → Type 0) (P : Problem) (t : Terms) where
  abbrev others : SearchRules
  others = record S { Splits = Splits; Divides = Divides }

  -- the cases of this program are split and divided by the others too
  pub record IsLike (J : Instance) : Type 0 where
    pub splits : (h : BranchView) (j : ℕ) (k : ℤ) → h.case.program ≡ J → S.Splits h j k → Splits h j k
    pub divides : (h : BranchView) (j : ℕ) → h.case.program ≡ J → S.Divides h j → Divides h j

  module _ (g : Given) (C : Case) (like : IsLike C.program) (rest : List Case) (m : SearchMoment) where
    branches : (D : Case) → D.program ≡ C.program → (x : List Ratio) (n : AfterRun) → BranchesBy S P t g D rest m x n → BranchesBy others P t g D rest m x n
    branches D e x n (inl (j, k, s, low, q)) = inl (j, k, like.splits (record { case = D; basis = g; point = x }) j k e s, low, q)
    branches D e x n (inr (inl (j, k, s, high, q))) = inr (inl (j, k, like.splits (record { case = D; basis = g; point = x }) j k e s, high, q))
    branches D e x n (inr (inr (j, s, q))) = inr (inr (j, like.divides (record { case = D; basis = g; point = x }) j e s, q))

    meets : (D : Case) → D.program ≡ C.program → (x : List Ratio) (ms : List Multiplier) (n : AfterRun) → MeetsBy S P t g D rest m x ms n → MeetsBy others P t g D rest m x ms n
    meets D e x ms n (inl b) = inl (branches D e x n b)
    meets D e x ms n (inr p) = inr p

    tries : (x : List Ratio) (trial : Trial) (n : AfterRun) → TriedBy S P t g C rest m x trial n → TriedBy others P t g C rest m x trial n
    tries x NoCut n b = branches C refl x n b
    tries x WideCut n e = e
    tries x (Cut ms cs k) n e = e

    hopes : (b : Ratio) (x : List Ratio) (ms : List Multiplier) (n : AfterRun) → HopesBy S P t g C rest m b x ms n → HopesBy others P t g C rest m b x ms n
    hopes b x ms n (inl p) = inl p
    hopes b x ms n (inr (inl (never, p))) = inr (inl (never, branches C refl x n p))
    hopes b x ms n (inr (inr (ss, trial, may, unmet, e, from, p))) = inr (inr (ss, trial, may, unmet, e, from, tries x trial n p))

    rounds : (b : Ratio) (x : List Ratio) (ms : List Multiplier) (n : AfterRun) → RoundsBy S P t g C rest m b x ms n → RoundsBy others P t g C rest m b x ms n
    rounds b x ms n (inl p) = inl p
    rounds b x ms n (inr (off, p)) = inr (off, hopes b x ms n p)

    bests : (ray : Option (List Ratio)) (b : Ratio) (x : List Ratio) (ms : List Multiplier) (n : AfterRun) → BestBy S P t ray g C rest m b x ms n → BestBy others P t ray g C rest m b x ms n
    bests None b x ms n (inl p) = inl p
    bests None b x ms n (inr (hope, p)) = inr (hope, rounds b x ms n p)
    bests (Some r) b x ms n p = meets C refl x ms n p

    goes : (f : Finish) (n : AfterRun) → GoesBy S P t g C rest m f n → GoesBy others P t g C rest m f n
    goes (Ends (Clash c)) n e = e
    goes (Ends (Empty ms)) n e = e
    goes (Ends (Best b x ms)) n p = bests C.ray b x ms n p
    goes (Ends (Endless x d)) n (inl p) = inl p
    goes (Ends (Endless x d)) n (inr (inl p)) = inr (inl p)
    goes (Ends (Endless x d)) n (inr (inr (r, none, scaled, p))) = inr (inr (r, none, scaled, meets (record C { ray = Some r }) refl x [] n p))
    goes (Ends TurnsOut) n e = e
    goes (Ends (TooWide s)) n e = e
    goes (Ends Stopped) n e = e
    goes (Passed b ms) n p = p

  runs : (s : MomentBy) (f : Finish) (c : Clock) (h : Given) → IsRunOfCase S P t s f c h → IsRunOfCase others P t s f c h
  runs s f c h v = record { case = v.case; rest = v.rest; is = v.is; begins = v.begins; run = v.run }

  -- at this moment the case at hand is such
  abbrev pub IsLikeAt : MomentBy → Type 0
  IsLikeAt s = (C : Case) (rest : List Case) → s.moment.waiting ≡ C ∷ rest → IsLike C.program

  nexts : (s : MomentBy) → IsLikeAt s → (n : NextBy) → IsNextBy S P t s n → IsNextBy others P t s n
  nexts s like n (inl p) = inl p
  nexts s like n (inr (inl p)) = inr (inl p)
  nexts s like n (inr (inr v)) =
      let C = v.visit.case in
      inr (inr (record {
        finish = v.finish;
        clock = v.clock;
        basis = v.basis;
        visit = record { case = C; rest = v.visit.rest; is = v.visit.is; begins = v.visit.begins; run = v.visit.run };
        after = v.after;
        goes = goes v.basis C (like C v.visit.rest v.visit.is) v.visit.rest (record (s.moment) { clock = v.clock }) v.finish v.after v.goes;
        is = v.is;
      }))

  module _ (like : (s : MomentBy) → ComesBy S P t s → IsLikeAt s) where
    comes : (s : MomentBy) → ComesBy S P t s → ComesBy others P t s
    comes s begins = begins
    comes s (goes_on {m = before} c next) = goes_on {m = before} {n = s} (comes before c) (nexts before (like before c) (On s) next)

    pub search_like : (o : Outcome) (c : Clock) → SearchBy S P t o c → SearchBy others P t o c
    search_like o c s = record { last = s.last; comes = comes s.last s.comes; ends = nexts s.last (like s.last s.comes) _ s.ends }

    pub answer_like : (o : Outcome) (c : Clock) → IsAnswerBy S P t o c → IsAnswerBy others P t o c
    answer_like o c (searched s) = searched (search_like o c s)
    answer_like o c (given_up {m} k) = given_up {m = m} (comes m k)
    answer_like o c (given_up_after {m} {f} {c = d} {h} k r) = given_up_after {m = m} {f = f} {h = h} (comes m k) (runs m f d h r)
