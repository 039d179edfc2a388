-- Without whole variables, and without any that may be 0 besides, each level has one case.
use Rattle.std.proofs.Common.{◌≡◌, ◌⊎◌, inl, inr, ℕ, ◌<◌, Option, None, Some, IsSome, IsTrue, List, [], ◌∷◌, length, get_or, refl, sym, ◌∙◌, ap, subst}
use Rattle.rational.specs.Ratio.{Ratio}
use Rattle.evidence.specs.Instance.{Range, Variable, Goal, Problem, no_variable, width, variable_at}
use Rattle.evidence.specs.Cases.{Multiplier, IsZeroBranch}
use Rattle.simplex_rules.specs.Ends.{Terms, Clock, End, Clash, Empty, Best, Endless, TurnsOut, TooWide, Stopped}
use Rattle.simplex_rules.specs.Runs.{looked_once}
use Rattle.simplex_rules.specs.declared.columns.Status.{Status}
use Rattle.search_rules.specs.Branching.{Case}
use Rattle.search_rules.specs.Cuts.{Trial, NoCut, WideCut, Cut, TriesBasis}
use Rattle.search_rules.specs.Search.{Found, SearchMoment, To, undivided, next_level_at, Branches, TakesFound, TakesPoint, GoesFromTrial, GoesFrom, ClosesLevel, IsVisit, IsNextInSearch, ComesInSearch}
use Rattle.search_rules.specs.Outcomes.{HaveOneRange, IsPlain}
use Rattle.search_rules.specs.Beginnings.{ComesFrom, begins, goes_on}
use Rattle.search_rules.proofs.FirstPoints.{comes_from_none}

-- the level's own program is still to be searched, or nothing is
abbrev pub IsEither : SearchMoment → Type 0
IsEither m = (m.waiting ≡ undivided m.level.program ∷ []) ⊎ (m.waiting ≡ [])

-- the variables are those of the problem
pub record IsPlainMoment (P : Problem) (m : SearchMoment) : Type 0 where
  pub variables : m.level.program.variables ≡ P.program.variables
  pub either : IsEither m

module _ (P : Problem) (t : Terms) (plain : IsPlain P.program) (ranges : HaveOneRange P.program) where
  module _ (m : SearchMoment) (same : m.level.program.variables ≡ P.program.variables) where
    abbrev C : Case
    C = undivided m.level.program

    inside : (j : ℕ) → j < width m.level.program → j < width P.program
    inside j low = subst (λ (vs : List Variable). j < length vs) same low

    variable_is : (j : ℕ) → variable_at m.level.program j ≡ variable_at P.program j
    variable_is j = ap (λ (vs : List Variable). get_or vs j no_variable) same

    no_whole : (j : ℕ) → j < width m.level.program → IsTrue (variable_at m.level.program j).whole → ⊥
    no_whole j low w = plain j (inside j low) (subst (λ v. IsTrue v.whole) (variable_is j) w)

    no_zero : (j : ℕ) → IsZeroBranch m.level.program j → ⊥
    no_zero j z =
        let e : (variable_at m.level.program j).unless_zero ≡ None = ap (λ v. v.unless_zero) (variable_is j) ∙ ranges j no_variable (inside j z.variable) in
        let s : IsSome {T = Range} None = subst IsSome e z.further in absurd (cc)

    no_branch : (D : Case) (rest : List Case) (x : List Ratio) (n : SearchMoment) → D.program ≡ m.level.program → Branches D rest m x (To n) → ⊥
    no_branch D rest x n e (inl (j, k, s, f)) = let b = s.branch in no_whole j (subst (λ I. j < width I) e b.variable) (subst (λ I. IsTrue (variable_at I j).whole) e b.whole)
    no_branch D rest x n e (inr (j, s, f)) = no_zero j (subst (λ I. IsZeroBranch I j) e s.branch)

    -- the level stays, and its case is closed
    abbrev pub IsClosedIn : SearchMoment → Type 0
    IsClosedIn n = (n.level ≡ m.level) × (n.waiting ≡ [])

    takes_plain : (D : Case) (x : List Ratio) (ms : List Multiplier) (n : SearchMoment) → TakesPoint P t D [] m x ms (To n) → IsClosedIn n
    takes_plain D x ms n (met, inl (f, e)) = absurd (cc)
    takes_plain D x ms n (met, inr (vs, fits, values, takes)) = by D.ray takes
      where
        by : (ray : Option (List Ratio)) → TakesFound P t ray [] m (record { point = x; values = vs }) ms (To n) → IsClosedIn n
        by None e = (cc, cc)
        by (Some r) e = absurd (cc)

    -- no cut is tried where all is whole that must be, and a trial without one branches
    trial_plain : (x : List Ratio) (ss : List Status) (trial : Trial) (n : SearchMoment) → TriesBasis m.level.program x ss trial → GoesFromTrial P t C [] m x trial (To n) → ⊥
    trial_plain x ss NoCut n tries g = no_branch C [] x n refl g
    trial_plain x ss WideCut n tries g = cc
    trial_plain x ss (Cut ms cs k) n (inl (w, e)) g = cc
    trial_plain x ss (Cut ms cs k) n (inr (inl (j, f, b, e))) g = cc
    trial_plain x ss (Cut ms cs k) n (inr (inr (j, u, f, b, d, e))) g = no_whole j f.inside f.whole

    goes_plain : (before : Clock) (e : End) (n : SearchMoment) → GoesFrom P t C [] m before e (To n) → IsClosedIn n
    goes_plain before (Clash c) n e = (cc, cc)
    goes_plain before (Empty ms) n e = (cc, cc)
    goes_plain before (Best b x ms) n (inl (p, e)) = (cc, cc)
    goes_plain before (Best b x ms) n (inr (hope, inl p)) = takes_plain C x ms n p
    goes_plain before (Best b x ms) n (inr (hope, inr (inl (never, p)))) = absurd (no_branch C [] x n refl p)
    goes_plain before (Best b x ms) n (inr (hope, inr (inr (ss, trial, may, other, ends, tries, g)))) = absurd (trial_plain x ss trial n tries g)
    goes_plain before (Endless x d) n (inl (j, f, e)) = absurd (no_zero j (let i = f.moving in i.branch))
    goes_plain before (Endless x d) n (inr (inl (none, f, e))) = absurd (cc)
    goes_plain before (Endless x d) n (inr (inr (r, none, scaled, inl p))) = absurd (no_branch (record C { ray = Some r }) [] x n refl p)
    goes_plain before (Endless x d) n (inr (inr (r, none, scaled, inr p))) = takes_plain (record C { ray = Some r }) x [] n p
    goes_plain before TurnsOut n e = absurd (cc)
    goes_plain before (TooWide w) n e = absurd (cc)
    goes_plain before Stopped n e = absurd (cc)

    -- the next level's program has the same variables
    closes_plain : (best : Option Found) (gs : List Goal) (n : SearchMoment) → ClosesLevel P t m best gs (To n) → IsPlainMoment P n
    closes_plain None gs n e = absurd (cc)
    closes_plain (Some f) [] n e = absurd (cc)
    closes_plain (Some f) (g ∷ gs) n (inl (e, end, q)) =
        let q : next_level_at m f e g gs ≡ n = cc in
        subst (IsPlainMoment P) q (record { variables = same; either = inl refl })
    closes_plain (Some f) (g ∷ gs) n (inr (wide, inl (inl (limit, q)))) = absurd (cc)
    closes_plain (Some f) (g ∷ gs) n (inr (wide, inl (inr (within, stop, q)))) = absurd (cc)
    closes_plain (Some f) (g ∷ gs) n (inr (wide, inr (goes, q))) = absurd (cc)

  -- the one case is searched once
  pub visit_closed : (m n : SearchMoment) → IsPlainMoment P m → IsVisit P t m (To n) → (n.level ≡ m.level) × (n.waiting ≡ [])
  visit_closed m n h v = by h.either
    where
      by : IsEither m → (n.level ≡ m.level) × (n.waiting ≡ [])
      by (inr e) = let q = v.visit.is in absurd (cc)
      by (inl e) =
          let l : v.visit.case ∷ v.visit.rest ≡ undivided m.level.program ∷ [] = sym v.visit.is ∙ e in
          let p : v.visit.case ≡ undivided m.level.program = cc in
          let q : v.visit.rest ≡ [] = cc in
          let g = subst (λ D. GoesFrom P t D v.visit.rest (record m { clock = v.clock }) (looked_once m.clock) v.end (To n)) p v.goes in
          let g = subst (λ r. GoesFrom P t (undivided m.level.program) r (record m { clock = v.clock }) (looked_once m.clock) v.end (To n)) q g in
          goes_plain (record m { clock = v.clock }) h.variables (looked_once m.clock) v.end n g

  pub next_plain : (m n : SearchMoment) → IsPlainMoment P m → IsNextInSearch P t m (To n) → IsPlainMoment P n
  next_plain m n h (inl (none, c)) = closes_plain m h.variables m.best m.level.later n c
  next_plain m n h (inr (inl (some, inl (limit, e)))) = absurd (cc)
  next_plain m n h (inr (inl (some, inr (within, stop, e)))) = absurd (cc)
  next_plain m n h (inr (inr v)) = let c = visit_closed m n h v in record { variables = ap (λ l. l.program.variables) c.0 ∙ h.variables; either = inr c.1 }

  pub from_plain : (start : Option Found) (m : SearchMoment) → ComesFrom P t start m → IsPlainMoment P m
  from_plain start m begins = record { variables = refl; either = inl refl }
  from_plain start m (goes_on {m = before} c next) = next_plain before m (from_plain start before c) next

  pub comes_plain : (m : SearchMoment) → ComesInSearch P t m → IsPlainMoment P m
  comes_plain m c = from_plain None m (comes_from_none P t m c)
