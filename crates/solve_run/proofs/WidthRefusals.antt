-- What a search has shown is refused for width alone.
use Rattle.std.specs.Prelude.{IfSome}
use Rattle.std.proofs.Common.{◌≡◌, ◌∙◌, ℕ, ◌+◌, ◌≤◌, inl, inr, refl, Option, None, List, [], ◌∷◌, length, arith, ap, sym, subst}
use Rattle.std.proofs.lemmas.List.{length-map, length-drop, get_or_default}
use Rattle.rational.specs.Ratio.{Ratio, IsNumber}
use Rattle.fraction.specs.Frac.{ratio, ratios}
use Rattle.fraction.specs.declared.frac.Frac.{Frac}
use Rattle.evidence.specs.Sums.{none}
use Rattle.evidence.specs.Instance.{Goal, Instance, Problem, IsProblem}
use Rattle.evidence.specs.Width.{PointFits}
use Rattle.evidence.specs.Rounds.{Certificate}
use Rattle.evidence.specs.Levels.{HasGoalValues, next_level, RoundsAreOfOneGoal}
use Rattle.evidence.specs.ProvedBounds.{ProvedBound, IsProvedBound}
use Rattle.evidence.specs.Claim as Says
use Rattle.evidence.specs.Claim.{Accepts}
use Rattle.instance.specs.Parts.{Parts, IsValid}
use Rattle.instance.specs.Program.{problem, variable, goal, goals}
use Rattle.certificate.specs.Meanings as Means
use Rattle.certificate.specs.declared.causes.Cause.{Cause}
use Rattle.certificate.specs.declared.claims.Claim.{Claim}
use Rattle.certificate.specs.declared.claims.Claim.TheVariants as Has
use Rattle.search_rules.specs.Search.{Outcome, Optimal, Infeasible, Unbounded, BestSoFar, Unsure}
use Rattle.search_rules.specs.Outcomes.{IsPoint, IsShown}
use Rattle.search_rules.specs.Bounds.{claimed}
use Rattle.branch_bound.specs.Claims.{said}
use Rattle.cert_checker.specs.declared.refused.Refused.{Refused}
use Rattle.cert_checker.specs.declared.refused.Refused.TheVariants.{WideRound}
use Rattle.cert_checker.specs.LevelRefusals.{Ending, Best, Endless, AreEnough, ClaimRoundsHold, LevelsRefuse, CertificatesRefuse}
use Rattle.cert_checker.specs.Points.{ValueRefuses, PointRefuses}
use Rattle.cert_checker.specs.Settled.{Settles, AreSettled, IsForWidth}
use Rattle.cert_checker.specs.Refusals.{IsRefusedFor}
use Rattle.cert_checker.proofs.Refusals.{not_claim_rounds}
use Rattle.solve_run.specs.Judging.{IsShownClaim, IsFinal, IsWideAt}
use Rattle.solve_run.proofs.LevelProofs.{settled_by, best_levels, endless_levels, rounds_hold}

-- ---- points

pub has_values : (P : Problem) (x vs : List Ratio) → IsPoint P x vs → HasGoalValues P x vs
has_values P x vs p =
    let count = p.values.count in
    record {
      feasible = p.feasible;
      count = count;
      numbers = λ k d h. (let v = p.values.values k (omega (arith, count, h)) in let r = v.reduced in subst IsNumber (get_or_default vs k none d h) r.0);
      values = λ k h. (let v = p.values.values k h in v.same);
    }

-- ---- refusals

-- of rounds that hold none is too wide
value_round : (P : Problem) (x vs : List Ratio) (k n : ℕ) → ValueRefuses P x vs k (WideRound n) → ⊥
value_round P x vs k n (inl (w, e)) = cc
value_round P x vs k n (inr (w, d, e)) = cc

point_round : (P : Problem) (x vs : List Ratio) (n : ℕ) → PointRefuses P x vs (WideRound n) → ⊥
point_round P x vs n (inl (c, m, e)) = cc
point_round P x vs n (inr (inl (l, c, m, e))) = cc
point_round P x vs n (inr (inr (inl (l, m, e)))) = cc
point_round P x vs n (inr (inr (inr (f, inl (l, e))))) = cc
point_round P x vs n (inr (inr (inr (f, inr (l, first))))) = value_round P x vs first.goal n first.why

levels_round : (cs : List Certificate) (end : Ending) (I : Instance) (gs : List Goal) (vs : List Ratio) (level n : ℕ) → LevelsRefuse end I gs vs cs level (WideRound n) → ⊥
levels_round [] Best I gs vs level n q = q
levels_round [] (Endless x d) I gs vs level n (why, ray, e) = cc
levels_round (c ∷ cs) end I [] [] level n q = q
levels_round (c ∷ cs) end I [] (v ∷ vs) level n (J, why, after, tree, e) = cc
levels_round (c ∷ cs) end I (g ∷ gs) [] level n q = q
levels_round (c ∷ cs) end I (g ∷ gs) (v ∷ vs) level n (inl (J, why, after, tree, e)) = cc
levels_round (c ∷ cs) end I (g ∷ gs) (v ∷ vs) level n (inr (inl (shows, wide, e))) = cc
levels_round (c ∷ cs) end I (g ∷ gs) (v ∷ vs) level n (inr (inr (shows, e, reached, q))) = levels_round cs end (next_level I e g) gs vs (level + 1) n q

node_of : (r : Refused) → IsForWidth r → ((n : ℕ) → r ≡ WideRound n → ⊥) → (n : ℕ) × IsWideAt r n
node_of r (inl (n, e)) apart = absurd (apart n e)
node_of r (inr (level, n, e)) apart = (n, (level, e))

module _ (P : Problem) (good : IsProblem P) (n : ℕ) where
  certificates_round : (end : Ending) (vs : List Ratio) (cs : List Certificate) → ClaimRoundsHold P cs → CertificatesRefuse end P vs cs (WideRound n) → ⊥
  certificates_round end vs cs hold (inl q) = not_claim_rounds P cs (WideRound n) good hold q
  certificates_round end vs cs hold (inr (inl (held, few, e))) = cc
  certificates_round end vs cs hold (inr (inr (held, enough, q))) = levels_round cs end P.program P.later vs 1 n q

  -- nor of any claim of a search
  no_round : (o : Outcome) → IsShown P o → IsRefusedFor P (said o) (WideRound n) → ⊥
  no_round (Optimal x vs cs) s (inl point) = point_round P x vs n point
  no_round (Optimal x vs cs) s (inr (has, fits, q)) = let l = best_levels P vs cs s.2 in certificates_round Best vs cs (rounds_hold P cs s.1 l.first) q
  no_round (Infeasible c) s (inl q) = not_claim_rounds P (c ∷ []) (WideRound n) good (rounds_hold P (c ∷ []) s.0 (None, s.1)) q
  no_round (Infeasible c) s (inr (held, (J, why, after, tree, e))) = cc
  no_round (Unbounded x vs cs r) s (inl point) = point_round P x vs n point
  no_round (Unbounded x vs cs r) s (inr (has, fits, q)) = let l = endless_levels P vs x r cs s.2 in certificates_round (Endless x r) vs cs (rounds_hold P cs s.1 l.first) q
  no_round (BestSoFar x vs c) s point = point_round P x vs n point
  no_round (Unsure c) s e = cc

-- what the checker's laws say of what is shown
pub record WidthAlone : Type 0 where
  pub optimal : (P : Problem) (x vs : List Ratio) (cs : List Certificate) (r : Refused) → IsProblem P → HasGoalValues P x vs → PointFits P x → RoundsAreOfOneGoal P cs → AreEnough Best P cs → AreSettled Best P.program P.later vs cs → IsRefusedFor P (Says.Optimal x vs cs) r → IsForWidth r
  pub infeasible : (P : Problem) (c : Certificate) (r : Refused) → IsProblem P → RoundsAreOfOneGoal P (c ∷ []) → Settles P.program c.rounds c.nodes None → IsRefusedFor P (Says.Infeasible c) r → IsForWidth r
  pub unbounded : (P : Problem) (x vs : List Ratio) (cs : List Certificate) (d : List Ratio) (r : Refused) → IsProblem P → HasGoalValues P x vs → PointFits P x → RoundsAreOfOneGoal P cs → AreEnough (Endless x d) P cs → AreSettled (Endless x d) P.program P.later vs cs → IsRefusedFor P (Says.Unbounded x vs cs d) r → IsForWidth r

-- the outcome decides something
abbrev pub IsDecided : Outcome → Type 0
IsDecided (Optimal x vs cs) = Unit {0}
IsDecided (Infeasible c) = Unit {0}
IsDecided (Unbounded x vs cs r) = Unit {0}
IsDecided (BestSoFar x vs c) = ⊥
IsDecided (Unsure c) = ⊥

pub decided : (c : Claim) (o : Outcome) (h : Option ProvedBound) → IsFinal c → Means.claim c ≡ claimed o h → IsDecided o
decided c (Optimal y vs cs) h f e = tt
decided c (Infeasible cert) h f e = tt
decided c (Unbounded y vs cs r) h f e = tt
decided (Has.BestSoFar x vs c b) (BestSoFar y ws d) h f e = f
decided (Has.BestSoFar x vs c b) (Unsure d) h f e = f
decided (Has.Unsure c b) (BestSoFar y ws d) h f e = f
decided (Has.Unsure c b) (Unsure d) h f e = f
decided c o h f e = absurd (cc)

-- its bound is no part of what it says
decided_says : (o : Outcome) (h : Option ProvedBound) → IsDecided o → claimed o h ≡ said o
decided_says (Optimal x vs cs) h f = refl
decided_says (Infeasible c) h f = refl
decided_says (Unbounded x vs cs r) h f = refl
decided_says (BestSoFar x vs c) h f = absurd f
decided_says (Unsure c) h f = absurd f

-- a best point so far has a number for each variable, and a value for each goal
pub few_values : (p : Parts) (x vs : List Frac) (c : Cause) → IsValid p → IsShownClaim p (Has.BestSoFar x vs c None) → (length x ≤ 1000) × (length vs ≤ 8)
few_values p x vs c valid s = by s.outcome s.bound s.tells.says s.shown
  where
    by : (o : Outcome) (h : Option ProvedBound) → Says.BestSoFar (ratios x) (ratios vs) None ≡ claimed o h → IsShown (problem p) o → (length x ≤ 1000) × (length vs ≤ 8)
    by (BestSoFar y ws d) h e point =
        let all : Says.BestSoFar (ratios x) (ratios vs) None ≡ Says.BestSoFar y ws h = e in
        let here : ratios x ≡ y = cc in
        let told : ratios vs ≡ ws = cc in
        let count = point.feasible.count in
        let values = point.values.count in
        let few = valid.few_vars in
        let some = valid.some_goal in
        let asked = valid.few_goals in (
          omega (arith, ap length here, count, few, length-map x ratio, length-map p.vars variable),
          omega (arith, ap length told, values, some, asked, length-map vs ratio, length-drop 1 (goals p.goals), length-map p.goals goal),
        )
    by o h e point = absurd (cc)

-- and is accepted
pub best_accepted : (p : Parts) (x vs : List Frac) (c : Cause) → IsShownClaim p (Has.BestSoFar x vs c None) → Accepts (problem p) (Means.claim (Has.BestSoFar x vs c None))
best_accepted p x vs c s = subst (Accepts (problem p)) (sym s.tells.says) (by s.outcome s.bound s.tells.says s.shown)
  where
    by : (o : Outcome) (h : Option ProvedBound) → Says.BestSoFar (ratios x) (ratios vs) None ≡ claimed o h → IsShown (problem p) o → Accepts (problem p) (claimed o h)
    by (BestSoFar y ws d) h e point =
        let all : Says.BestSoFar (ratios x) (ratios vs) None ≡ Says.BestSoFar y ws h = e in
        let none : None ≡ h = cc in
        (has_values (problem p) y ws point, point.fits, subst (λ (g : Option ProvedBound). IfSome g (λ b. IsProvedBound (problem p) b)) none tt)
    by o h e point = absurd (cc)

module _ (laws : WidthAlone) (P : Problem) (good : IsProblem P) where
  for_width : (o : Outcome) (r : Refused) → IsDecided o → IsShown P o → IsRefusedFor P (said o) r → IsForWidth r
  for_width (Optimal x vs cs) r f s q = let l = best_levels P vs cs s.2 in laws.optimal P x vs cs r good (has_values P x vs s.0) s.0.fits s.1 l.enough l.settled q
  for_width (Infeasible c) r f s q = laws.infeasible P c r good s.0 (settled_by P.program c None s.1) q
  for_width (Unbounded x vs cs d) r f s q = let l = endless_levels P vs x d cs s.2 in laws.unbounded P x vs cs d r good (has_values P x vs s.0) s.0.fits s.1 l.enough l.settled q
  for_width (BestSoFar x vs c) r f s q = absurd f
  for_width (Unsure c) r f s q = absurd f

-- a final claim that is shown is refused for width alone
pub width_alone : WidthAlone → (p : Parts) (c : Claim) (r : Refused) → IsProblem (problem p) → IsFinal c → IsShownClaim p c → IsRefusedFor (problem p) (Means.claim c) r → (n : ℕ) × IsWideAt r n
width_alone laws p c r good final s refused =
    let over = decided c s.outcome s.bound final s.tells.says in
    let q : IsRefusedFor (problem p) (said s.outcome) r = subst (λ (d : Says.Claim). IsRefusedFor (problem p) d r) (s.tells.says ∙ decided_says s.outcome s.bound over) refused in
    node_of r (for_width laws (problem p) good s.outcome r over s.shown q)
    (λ n e. no_round (problem p) good n s.outcome s.shown (subst (IsRefusedFor (problem p) (said s.outcome)) e q))
