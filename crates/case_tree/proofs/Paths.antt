-- What is still to show after each step of the walk.
use Rattle.std.proofs.Common.{◌≡◌, ℕ, zero, suc, ◌+◌, ◌<◌, ◌≤◌, true, false, cond, Some, List, ◌∷◌, length, slice_set, map, arith, refl, sym, ◌∙◌, ap, subst, add-one}
use Rattle.std.proofs.lemmas.List.{get_or-map, map-set, set-set, set-get_or, get_or-set_same, get_or-set_other}
use Rattle.evidence.specs.Instance as Of
use Rattle.evidence.specs.Cases.{with_range}
use Rattle.evidence.proofs.Columns.{by_lt}
use Rattle.case_tree.specs.declared.cuts.Cut.{Cut}
use Rattle.case_tree.specs.declared.cuts.Division.{Division}
use Rattle.case_tree.specs.declared.path.Branch.{Branch}
use Rattle.instance.specs.declared.parts.Row.{Row}
use Rattle.instance.specs.Program.{row}
use Rattle.case_tree.specs.Cuts.{cut, cut_at, cut_variable, cases, pending, branch_at, with_ends, no_branch, no_cut, first_case, second_case, HasNext, AreBranches}

-- a variable in place of another
module _ (I : Of.Instance) (vs : List Cut) (j : ℕ) (w : Cut) (h : j < length vs) where
  variable_is : Of.variable_at (cut I vs) j ≡ cut_variable (cut_at vs j)
  variable_is = get_or-map cut_variable vs j no_cut Of.no_variable h

  with_variable : (u : Of.Variable) → cut_variable w ≡ u → cut I (slice_set vs j w) ≡ record (cut I vs) { variables = slice_set (cut I vs).variables j u }
  with_variable u e =
      ap (λ (l : List Of.Variable). let J : Of.Instance = record (cut I vs) { variables = l } in J) (map-set cut_variable vs j w ∙ ap (λ (x : Of.Variable). slice_set (map cut_variable vs) j x) e)

  -- its range is changed
  pub cut_by : (f : Of.Variable → Of.Range) → cut_variable w ≡ record (cut_variable (cut_at vs j)) { range = f (cut_variable (cut_at vs j)) } → cut I (slice_set vs j w) ≡ with_range (cut I vs) j (f (Of.variable_at (cut I vs) j))
  cut_by f e = with_variable (record (Of.variable_at (cut I vs) j) { range = f (Of.variable_at (cut I vs) j) })
      (e ∙ ap (λ (x : Of.Variable). let y : Of.Variable = record x { range = f x } in y) (sym variable_is))

-- other ends change its range alone
pub ends_range : (v w : Cut) (r : Row) (u : Of.Range) → w ≡ with_ends v r → row r ≡ u → cut_variable w ≡ record (cut_variable v) { range = u }
ends_range v w r u is e = ap cut_variable is ∙ ap (λ (x : Of.Range). let y : Of.Variable = record (cut_variable v) { range = x } in y) e

-- the variables before a branch
abbrev before : List Cut → Branch → List Cut
before vs b = slice_set vs b.col (with_ends (cut_at vs b.col) b.before)

-- they are the same, whatever ends the branch's variable has at hand
before_again : (vs : List Cut) (b : Branch) (w : Cut) → b.col < length vs → w.var ≡ (cut_at vs b.col).var → before (slice_set vs b.col w) b ≡ before vs b
before_again vs b w h kept =
    set-set vs b.col w (with_ends (cut_at (slice_set vs b.col w) b.col) b.before)
    ∙ ap (λ c. slice_set vs b.col (with_ends c b.before)) (get_or-set_same vs b.col w no_cut h)
    ∙ ap (λ v. slice_set vs b.col (record { lb = b.before.lb; ub = b.before.ub; var = v })) kept

-- what is to show from a branch on
abbrev from : Of.Instance → List Cut → Branch → List Of.Instance → List Of.Instance
from I vs b rest = cond b.is_second rest (second_case (cut I (before vs b)) b.col b.by ∷ rest)

pub pending_next : (I : Of.Instance) (vs : List Cut) (bs : List Branch) (d : ℕ) → pending I vs bs (d + 1) ≡ from I vs (branch_at bs d) (pending I (before vs (branch_at bs d)) bs d)
pending_next I vs bs d = ap (pending I vs bs) (add-one d)

-- only the branches above count
pub pending_same : (I : Of.Instance) (vs : List Cut) (bs cs : List Branch) (d : ℕ) → ((e : ℕ) → e < d → branch_at bs e ≡ branch_at cs e) → pending I vs bs d ≡ pending I vs cs d
pending_same I vs bs cs zero same = refl
pending_same I vs bs cs (suc d) same =
    ap (λ b. from I vs b (pending I (before vs b) bs d)) (same d (omega arith))
    ∙ ap (from I vs (branch_at cs d)) (pending_same I (before vs (branch_at cs d)) bs cs d (λ e h. same e (omega arith)))

set_below : (bs : List Branch) (d e : ℕ) (b : Branch) → e < d → branch_at (slice_set bs d b) e ≡ branch_at bs e
set_below bs d e b h = get_or-set_other bs d e b no_branch (λ q. omega arith)

set_here : (bs : List Branch) (d : ℕ) (b : Branch) → d < length bs → branch_at (slice_set bs d b) d ≡ b
set_here bs d b h = get_or-set_same bs d b no_branch h

pub branches_with : (n : ℕ) (bs : List Branch) (d : ℕ) (b : Branch) → d < length bs → AreBranches n bs d → b.col < n → HasNext b.by → AreBranches n (slice_set bs d b) (d + 1)
branches_with n bs d b h above col next = record {
  columns = all (λ b. b.col < n) above.columns col;
  next = all (λ b. HasNext b.by) above.next next;
}
  where
    all : (P : Branch → Type 0) → ((e : ℕ) → e < d → P (branch_at bs e)) → P b → (e : ℕ) → e < d + 1 → P (branch_at (slice_set bs d b) e)
    all P f q e g =
        by_lt e d (λ l. subst P (sym (set_below bs d e b l)) (f e l))
        (λ l. let t : e ≡ d = omega arith in subst (λ i. P (branch_at (slice_set bs d b) i)) (sym t) (subst P (sym (set_here bs d b h)) q))

pub branches_less : (n : ℕ) (bs : List Branch) (d e : ℕ) → d ≤ e → AreBranches n bs e → AreBranches n bs d
branches_less n bs d e h above = record {
  columns = λ i g. above.columns i (omega arith);
  next = λ i g. above.next i (omega arith);
}

-- the first case of a branch, and after it the second
pub entered : (I : Of.Instance) (vs : List Cut) (bs : List Branch) (d j : ℕ) (by : Division) (w : Cut) (b : Branch) → d < length bs → j < length vs → w.var ≡ (cut_at vs j).var → b ≡ record { col = j; by = by; before = record { lb = (cut_at vs j).lb; ub = (cut_at vs j).ub }; is_second = false } → cut I (slice_set vs j w) ≡ first_case (cut I vs) j by → cases I (slice_set vs j w) (slice_set bs d b) (Some (d + 1)) ≡ first_case (cut I vs) j by ∷ second_case (cut I vs) j by ∷ pending I vs bs d
entered I vs bs d j by w b hd hj kept eb first =
    let above : Branch = record { col = j; by = by; before = record { lb = (cut_at vs j).lb; ub = (cut_at vs j).ub }; is_second = false } in
    let back : before (slice_set vs j w) above ≡ vs = before_again vs above w hj kept ∙ set-get_or vs j no_cut in
    let here : branch_at (slice_set bs d b) d ≡ above = set_here bs d b hd ∙ eb in
    let rest : pending I vs (slice_set bs d b) d ≡ pending I vs bs d = pending_same I vs (slice_set bs d b) bs d (λ e h. set_below bs d e b h) in
    let second : pending I (slice_set vs j w) (slice_set bs d b) (d + 1) ≡ second_case (cut I vs) j by ∷ pending I vs bs d =
    pending_next I (slice_set vs j w) (slice_set bs d b) d
    ∙ ap (λ c. from I (slice_set vs j w) c (pending I (before (slice_set vs j w) c) (slice_set bs d b) d)) here
    ∙ ap (λ us. second_case (cut I us) j by ∷ pending I us (slice_set bs d b) d) back
    ∙ ap (λ r. second_case (cut I vs) j by ∷ r) rest in
    ap (λ J. J ∷ pending I (slice_set vs j w) (slice_set bs d b) (d + 1)) first ∙ ap (λ r. first_case (cut I vs) j by ∷ r) second

-- the second case of a branch whose first is done
pub turned : (I : Of.Instance) (vs : List Cut) (bs : List Branch) (d : ℕ) (b c : Branch) (w : Cut) → d < length bs → b.col < length vs → branch_at bs d ≡ b → b.is_second ≡ false → c ≡ record b { is_second = true } → w.var ≡ (cut_at vs b.col).var → cut I (slice_set (before vs b) b.col w) ≡ second_case (cut I (before vs b)) b.col b.by → cases I (slice_set vs b.col w) (slice_set bs d c) (Some (d + 1)) ≡ pending I vs bs (d + 1)
turned I vs bs d b c w hd hj eb first ec kept second =
    let us : List Cut = slice_set vs b.col w in
    let over : slice_set (before vs b) b.col w ≡ us = set-set vs b.col (with_ends (cut_at vs b.col) b.before) w in
    let back : before us b ≡ before vs b = before_again vs b w hj kept in
    let here : branch_at (slice_set bs d c) d ≡ record b { is_second = true } = set_here bs d c hd ∙ ec in
    let rest : pending I (before vs b) (slice_set bs d c) d ≡ pending I (before vs b) bs d = pending_same I (before vs b) (slice_set bs d c) bs d (λ e h. set_below bs d e c h) in
    let now : pending I us (slice_set bs d c) (d + 1) ≡ pending I (before vs b) bs d =
    pending_next I us (slice_set bs d c) d
    ∙ ap (λ a. from I us a (pending I (before us a) (slice_set bs d c) d)) here
    ∙ ap (λ l. pending I l (slice_set bs d c) d) back
    ∙ rest in
    let then : pending I vs bs (d + 1) ≡ second_case (cut I (before vs b)) b.col b.by ∷ pending I (before vs b) bs d =
    pending_next I vs bs d
    ∙ ap (λ a. from I vs a (pending I (before vs a) bs d)) eb
    ∙ ap (λ t. cond t (pending I (before vs b) bs d) (second_case (cut I (before vs b)) b.col b.by ∷ pending I (before vs b) bs d)) first in
    ap (λ l. cut I l ∷ pending I us (slice_set bs d c) (d + 1)) (sym over)
    ∙ ap (λ J. J ∷ pending I us (slice_set bs d c) (d + 1)) second
    ∙ ap (λ r. second_case (cut I (before vs b)) b.col b.by ∷ r) now
    ∙ sym then
