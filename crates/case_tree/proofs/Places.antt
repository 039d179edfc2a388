-- At which branches second cases are still to show, after each step of the walk.
use Rattle.std.proofs.Common.{◌≡◌, ℕ, zero, suc, ◌+◌, ◌<◌, Bool, true, false, cond, List, ◌∷◌, length, slice_set, arith, refl, sym, ◌∙◌, ap, ap₂, subst, add-one}
use Rattle.std.proofs.lemmas.List.{get_or-set_same, get_or-set_other}
use Rattle.evidence.proofs.Columns.{by_eq}
use Rattle.case_tree.specs.declared.path.Branch.{Branch}
use Rattle.case_tree.specs.Cuts.{pending_places, branch_at, no_branch, HaveOneDivision}

-- only the branches above count
pub places_same : (bs cs : List Branch) (d : ℕ) → ((e : ℕ) → e < d → (branch_at bs e).is_second ≡ (branch_at cs e).is_second) → pending_places bs d ≡ pending_places cs d
places_same bs cs zero same = refl
places_same bs cs (suc d) same = ap₂ (λ b r. cond b r (d ∷ r)) (same d (omega arith)) (places_same bs cs d (λ e h. same e (omega arith)))

pub places_next : (bs : List Branch) (d : ℕ) (b : Bool) → (branch_at bs d).is_second ≡ b → pending_places bs (d + 1) ≡ cond b (pending_places bs d) (d ∷ pending_places bs d)
places_next bs d b is = ap (pending_places bs) (add-one d) ∙ ap (λ s. cond s (pending_places bs d) (d ∷ pending_places bs d)) is

-- a branch in place of another
module _ (bs : List Branch) (d : ℕ) (b : Branch) (h : d < length bs) where
  here : branch_at (slice_set bs d b) d ≡ b
  here = get_or-set_same bs d b no_branch h

  elsewhere : (e : ℕ) → (e ≡ d → ⊥) → branch_at (slice_set bs d b) e ≡ branch_at bs e
  elsewhere e n = get_or-set_other bs d e b no_branch n

  below : pending_places (slice_set bs d b) d ≡ pending_places bs d
  below = places_same (slice_set bs d b) bs d (λ e l. ap (λ (c : Branch). c.is_second) (elsewhere e (λ q. omega arith)))

  pub entered_places : b.is_second ≡ false → pending_places (slice_set bs d b) (d + 1) ≡ d ∷ pending_places bs d
  entered_places first = places_next (slice_set bs d b) d false (ap (λ (c : Branch). c.is_second) here ∙ first) ∙ ap (λ r. d ∷ r) below

  pub turned_places : (branch_at bs d).is_second ≡ false → b.is_second ≡ true → pending_places bs (d + 1) ≡ d ∷ pending_places (slice_set bs d b) (d + 1)
  turned_places first second =
      places_next bs d false first
      ∙ ap (λ r. d ∷ r) (sym below ∙ sym (places_next (slice_set bs d b) d true (ap (λ (c : Branch). c.is_second) here ∙ second)))

  pub other_divisions : (e : ℕ) → (e ≡ d → ⊥) → HaveOneDivision (branch_at bs e) (branch_at (slice_set bs d b) e)
  other_divisions e n = record { col = ap (λ (c : Branch). c.col) (sym (elsewhere e n)); by = ap (λ (c : Branch). c.by) (sym (elsewhere e n)) }

  pub own_division : ((branch_at (slice_set bs d b) d).col ≡ b.col) × ((branch_at (slice_set bs d b) d).by ≡ b.by)
  own_division = (ap (λ (c : Branch). c.col) here, ap (λ (c : Branch). c.by) here)

  pub same_divisions : HaveOneDivision (branch_at bs d) b → (e : ℕ) → HaveOneDivision (branch_at bs e) (branch_at (slice_set bs d b) e)
  same_divisions s e =
      by_eq e d
      (λ q. subst (λ i. HaveOneDivision (branch_at bs i) (branch_at (slice_set bs d b) i)) (sym q) (subst (λ (c : Branch). HaveOneDivision (branch_at bs d) c) (sym here) s))
      (other_divisions e)
