-- Room for one more branch.
use Rattle.std.proofs.Common.{◌≡◌, ℕ, zero, suc, ◌<◌, ◌≤◌, List, [], ◌∷◌, ◌++◌, length, cond, arith, refl, ap₂}
use Rattle.case_tree.specs.declared.path.Branch.{Branch}
use Rattle.case_tree.specs.Cuts.{branch_at, pending_places}

below_more : (bs : List Branch) (b : Branch) (e : ℕ) → e < length bs → branch_at (bs ++ b ∷ []) e ≡ branch_at bs e
below_more [] b e h = absurd (omega arith)
below_more (x ∷ bs) b zero h = refl
below_more (x ∷ bs) b (suc e) h = below_more bs b e (omega arith)

pub branches_same : (bs : List Branch) (b : Branch) (d : ℕ) → d ≤ length bs → (e : ℕ) → e < d → branch_at (bs ++ b ∷ []) e ≡ branch_at bs e
branches_same bs b d h e g = below_more bs b e (omega arith)

pub places_same : (bs : List Branch) (b : Branch) (d : ℕ) → d ≤ length bs → pending_places (bs ++ b ∷ []) d ≡ pending_places bs d
places_same bs b zero h = refl
places_same bs b (suc d) h = ap₂ (λ (c : Branch) (es : List ℕ). cond c.is_second es (d ∷ es)) (below_more bs b d (omega arith)) (places_same bs b d (omega arith))
