-- What a walk keeps for its open cases, after each of its steps.
use Rattle.std.proofs.Common.{◌≡◌, ℕ, zero, suc, ◌+◌, ◌-◌, ◌<◌, ◌≤◌, Bool, true, false, cond, Option, None, Some, IfSome, MatchOption, List, [], ◌∷◌, length, arith, refl, sym, ◌∙◌, ap, ap₂, subst}
use Rattle.case_tree.specs.declared.path.Branch.{Branch}
use Rattle.case_tree.specs.Cuts.{pending_places, branch_at}
use Rattle.branch_bound.specs.declared.carried.Carried.{Carried}
use Rattle.branch_bound.specs.Bounds.{carried_at, kept_after, kept_at, kept_next}

-- only what stands at most as deep counts
pub kept_same : (ks ls : List (Option Carried)) (bs : List Branch) (d : ℕ) → ((e : ℕ) → e < d + 1 → carried_at ls e ≡ carried_at ks e) → kept_after ls (pending_places bs d) ≡ kept_after ks (pending_places bs d)
kept_same ks ls bs zero same = refl
kept_same ks ls bs (suc d) same =
    by (branch_at bs d).is_second (kept_same ks ls bs d (λ e h. same e (omega arith)))
  where
    by : (b : Bool) → kept_after ls (pending_places bs d) ≡ kept_after ks (pending_places bs d) → kept_after ls (cond b (pending_places bs d) (d ∷ pending_places bs d)) ≡ kept_after ks (cond b (pending_places bs d) (d ∷ pending_places bs d))
    by true below = below
    by false below = ap₂ (λ (k : Option Carried) (l : List (Option Carried)). k ∷ l) (same (d + 1) (omega arith)) below

-- the case at hand is closed
pub closed_kept : (ks : List (Option Carried)) (bs es : List Branch) (d : ℕ) (o : Option ℕ) → IfSome o (λ n. 0 < n) → MatchOption o (pending_places bs d ≡ []) (λ n. pending_places bs d ≡ (n - 1) ∷ pending_places es n) → kept_next ks es o ≡ kept_after ks (pending_places bs d)
closed_kept ks bs es d None up places = sym (ap (kept_after ks) places)
closed_kept ks bs es d (Some n) up places =
    let one : n ≡ n - 1 + 1 = omega arith in
    ap (λ i. carried_at ks i ∷ kept_after ks (pending_places es n)) one ∙ sym (ap (kept_after ks) places)

-- and it is divided, where both cases carry k
pub divided_kept : (ks ls : List (Option Carried)) (bs es : List Branch) (d : ℕ) (k : Option Carried) → pending_places es (d + 1) ≡ d ∷ pending_places bs d → carried_at ls (d + 1) ≡ k → ((e : ℕ) → e < d + 1 → carried_at ls e ≡ carried_at ks e) → kept_at ls es (d + 1) ≡ k ∷ k ∷ kept_after ks (pending_places bs d)
divided_kept ks ls bs es d k places here same =
    ap (λ (l : List ℕ). carried_at ls (d + 1) ∷ kept_after ls l) places
    ∙ ap₂ (λ (x : Option Carried) (l : List (Option Carried)). x ∷ x ∷ l) here (kept_same ks ls bs d same)

-- the next case isn't deeper than the one before
pub next_inside : (ks : List (Option Carried)) (d : ℕ) (o : Option ℕ) → d < length ks → IfSome o (λ n. n ≤ d) → IfSome o (λ n. n < length ks)
next_inside ks d None h up = up
next_inside ks d (Some n) h up = omega arith

-- where the next case is told
pub some_below : (m : ℕ) (o : Option ℕ) (d : ℕ) → o ≡ Some d → IfSome o (λ n. n < m) → d < m
some_below m o d e h = subst (λ (q : Option ℕ). IfSome q (λ n. n < m)) e h

-- a first case is searched anew, and carries k then
pub anew_kept : (ks ls : List (Option Carried)) (bs : List Branch) (k : Option Carried) (d : ℕ) (o : Option ℕ) → o ≡ Some d → d ≡ 0 → carried_at ls d ≡ k → kept_next ls bs o ≡ k ∷ kept_after ks (pending_places bs d)
anew_kept ks ls bs k zero o next first here = ap (kept_next ls bs) next ∙ ap (λ (x : Option Carried). x ∷ []) here
anew_kept ks ls bs k (suc d) o next first here = absurd (omega arith)
