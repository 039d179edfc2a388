-- A leaf of rows that is refused doesn't show its case, is refused for one reason, and for width alone where it shows its case.
use Rattle.std.proofs.Common.{◌≡◌, ◌∙◌, ◌⊎◌, inl, inr, ℕ, Option, None, Some, List, sym}
use Rattle.rational.specs.Ratio.{Ratio}
use Rattle.evidence.specs.Instance.{Instance}
use Rattle.evidence.specs.Cases.{Multiplier, multiplier_at, low_sum, completed, no_costs, goal_costs, AreLegal, AreOfRows, IsFarkas, IsBound, IsGrid}
use Rattle.evidence.specs.Width.{LowFits}
use Rattle.cert_checker.specs.declared.refused.Unshown.{Unshown}
use Rattle.cert_checker.specs.declared.refused.Unshown.TheVariants.{Sign, Sum, Wide}
use Rattle.cert_checker.specs.Leaves.{start, ReachesBound, SignRefuses, SumRefuses}
use Rattle.cert_checker.specs.Grids.{StepRefuses, StepsRefuse, GridFits, ReachesInSteps}
use Rattle.cert_checker.specs.RowLeaves.{all_of, LeftFits, HasOwnEnd, LeftRefusesAt, LeftRefuses, RowsStand, RowsRefuse, RowLeafHolds, RowLeafRefuses, BoundRowsHold, BoundRowsRefuse, GridRowsHold, GridRowsRefuse, GridRowLeafHolds, GridRowLeafRefuses}
use Rattle.cert_checker.proofs.Firsts.{Staged, stage_once, twofold_once, AtFirst, place_once, node_once}
use Rattle.cert_checker.proofs.OneLeaf.{sign_once, not_legal, Goes, step_once, not_step}
use Rattle.cert_checker.proofs.RowLeaves.{parts_of}

not_rows : (I : Instance) (ms : List Multiplier) (z : Option Ratio) (n : ℕ) (r : Unshown) → RowsStand I ms z → RowsRefuse I ms z n r → ⊥
not_rows I ms z n r s (inl q) = not_legal I ms n r q s.legal
not_rows I ms z n r s (inr (inl (l, other, e))) = other s.rows
not_rows I ms z n r s (inr (inr (l, o, (j, h, below, inl (unfit, e))))) = unfit (s.lefts j h).fits
not_rows I ms z n r s (inr (inr (l, o, (j, h, below, inr (fits, endless, e))))) = endless (s.lefts j h).finite

pub not_row_leaf : (I : Instance) (ms : List Multiplier) (z : Option Ratio) (n : ℕ) (r : Unshown) → RowLeafHolds I ms z → RowLeafRefuses I ms z n r → ⊥
not_row_leaf I ms z n r h (inl q) = not_rows I ms z n r h.stand q
not_row_leaf I ms z n r h (inr (s, inl (unfit, e))) = unfit h.sum.fits
not_row_leaf I ms z n r h (inr (s, inr (fits, other, e))) = other h.sum.reaches

pub not_bound_rows : (I : Instance) (ms : List Multiplier) (z : Option Ratio) (n : ℕ) (r : Unshown) → BoundRowsHold I ms z → BoundRowsRefuse I ms z n r → ⊥
not_bound_rows I ms None n r h q = h
not_bound_rows I ms (Some z) n r h q = not_row_leaf I ms (Some z) n r h q

pub not_grid_rows : (I : Instance) (g : Ratio) (ms : List Multiplier) (z : Ratio) (n : ℕ) (r : Unshown) → GridRowsHold I g ms z → GridRowsRefuse I g ms z n r → ⊥
not_grid_rows I g ms z n r h (inl q) = not_rows I ms (Some z) n r h.stand q
not_grid_rows I g ms z n r h (inr (inl (s, q))) = not_step I g n r q (h.above, h.costs)
not_grid_rows I g ms z n r h (inr (inr (s, up, costs, inl (unfit, e)))) = unfit h.fits
not_grid_rows I g ms z n r h (inr (inr (s, up, costs, inr (fits, other, e)))) = other h.reaches

pub not_grid_row_leaf : (I : Instance) (g : Ratio) (ms : List Multiplier) (z : Option Ratio) (n : ℕ) (r : Unshown) → GridRowLeafHolds I g ms z → GridRowLeafRefuses I g ms z n r → ⊥
not_grid_row_leaf I g ms None n r h q = h
not_grid_row_leaf I g ms (Some z) n r h q = not_grid_rows I g ms z n r h q

-- one reason
fails_at : (I : Instance) (ms : List Multiplier) (z : Option Ratio) (n j : ℕ) (r : Unshown) → LeftRefusesAt I ms z n j r → LeftFits I ms z j × HasOwnEnd I ms z j → ⊥
fails_at I ms z n j r (inl (unfit, e)) p = unfit p.0
fails_at I ms z n j r (inr (fits, endless, e)) p = endless p.1

at_left : (I : Instance) (ms : List Multiplier) (z : Option Ratio) (n : ℕ) (r : Unshown) → LeftRefuses I ms z n r → AtFirst (LeftFits I ms z) (HasOwnEnd I ms z) (Wide n) (Sign n) r
at_left I ms z n r (j, h, below, q) = (j, record { below = λ k l. ((below k l).fits, (below k l).finite); fails = fails_at I ms z n j r q }, q)

abbrev NotRows : Instance → List Multiplier → ℕ → Unshown → Type 0
NotRows I ms n r = r ≡ Sign n (multiplier_at ms 0).column

abbrev ThenLefts : Instance → List Multiplier → Option Ratio → ℕ → Unshown → Type 0
ThenLefts I ms z n r = Staged (AreOfRows I ms) (NotRows I ms n) (LeftRefuses I ms z n) r

staged_rows : (I : Instance) (ms : List Multiplier) (z : Option Ratio) (n : ℕ) (r : Unshown) → RowsRefuse I ms z n r → Staged (AreLegal I ms) (SignRefuses I ms n) (ThenLefts I ms z n) r
staged_rows I ms z n r (inl q) = inl (not_legal I ms n r q, q)
staged_rows I ms z n r (inr (inl (l, other, e))) = inr (l, inl (other, e))
staged_rows I ms z n r (inr (inr (l, o, q))) = inr (l, inr (o, q))

rows_once : (I : Instance) (ms : List Multiplier) (z : Option Ratio) (n : ℕ) (r s : Unshown) → RowsRefuse I ms z n r → RowsRefuse I ms z n s → r ≡ s
rows_once I ms z n r s h k =
    stage_once (AreLegal I ms) (SignRefuses I ms n) (ThenLefts I ms z n) r s (sign_once I ms n r s)
    (stage_once (AreOfRows I ms) (NotRows I ms n) (LeftRefuses I ms z n) r s (λ e f. e ∙ sym f)
    (λ p q. place_once (LeftFits I ms z) (HasOwnEnd I ms z) (Wide n) (Sign n) r s (at_left I ms z n r p) (at_left I ms z n s q)))
    (staged_rows I ms z n r h) (staged_rows I ms z n s k)

pub row_leaf_once : (I : Instance) (ms : List Multiplier) (z : Option Ratio) (n : ℕ) (r s : Unshown) → RowLeafRefuses I ms z n r → RowLeafRefuses I ms z n s → r ≡ s
row_leaf_once I ms z n r s h k =
    node_once (RowsStand I ms z) (RowsRefuse I ms z n) (SumRefuses I (all_of I ms z) z n) r s (not_rows I ms z n) (rows_once I ms z n r s)
    (twofold_once (LowFits I (start I z) (all_of I ms z)) (ReachesBound z (low_sum I (start I z) (all_of I ms z))) (Wide n) (Sum n) r s) h k

pub bound_rows_once : (I : Instance) (ms : List Multiplier) (z : Option Ratio) (n : ℕ) (r s : Unshown) → BoundRowsRefuse I ms z n r → BoundRowsRefuse I ms z n s → r ≡ s
bound_rows_once I ms None n r s h k = h ∙ sym k
bound_rows_once I ms (Some z) n r s h k = row_leaf_once I ms (Some z) n r s h k

abbrev ThenSteps : Instance → Ratio → List Multiplier → Ratio → ℕ → Unshown → Type 0
ThenSteps I g ms z n r = Staged (Goes I g) (StepRefuses I g n) (StepsRefuse I g (all_of I ms (Some z)) z n) r

staged_grid : (I : Instance) (g : Ratio) (ms : List Multiplier) (z : Ratio) (n : ℕ) (r : Unshown) → GridRowsRefuse I g ms z n r → RowsRefuse I ms (Some z) n r ⊎ (RowsStand I ms (Some z) × ThenSteps I g ms z n r)
staged_grid I g ms z n r (inl q) = inl q
staged_grid I g ms z n r (inr (inl (s, q))) = inr (s, inl (not_step I g n r q, q))
staged_grid I g ms z n r (inr (inr (s, up, costs, q))) = inr (s, inr ((up, costs), q))

pub grid_rows_once : (I : Instance) (g : Ratio) (ms : List Multiplier) (z : Option Ratio) (n : ℕ) (r s : Unshown) → GridRowLeafRefuses I g ms z n r → GridRowLeafRefuses I g ms z n s → r ≡ s
grid_rows_once I g ms None n r s h k = h ∙ sym k
grid_rows_once I g ms (Some z) n r s h k =
    node_once (RowsStand I ms (Some z)) (RowsRefuse I ms (Some z) n) (ThenSteps I g ms z n) r s (not_rows I ms (Some z) n) (rows_once I ms (Some z) n r s)
    (stage_once (Goes I g) (StepRefuses I g n) (StepsRefuse I g (all_of I ms (Some z)) z n) r s (step_once I g n r s)
    (twofold_once (GridFits I g (all_of I ms (Some z))) (ReachesInSteps I g (all_of I ms (Some z)) z) (Wide n) (Sum n) r s))
    (staged_grid I g ms z n r h) (staged_grid I g ms z n s k)

-- width alone
abbrev pub IsWide : Unshown → Type 0
IsWide r = (n : ℕ) × (r ≡ Wide n)

rows_wide : (I : Instance) (ms : List Multiplier) (z : Option Ratio) (n : ℕ) (r : Unshown) → AreOfRows I ms → AreLegal I (all_of I ms z) → RowsRefuse I ms z n r → IsWide r
rows_wide I ms z n r rows legal (inl q) = absurd (not_legal I ms n r q (parts_of I ms z legal).0)
rows_wide I ms z n r rows legal (inr (inl (l, other, e))) = absurd (other rows)
rows_wide I ms z n r rows legal (inr (inr (l, o, (j, h, below, inl (unfit, e))))) = (n, e)
rows_wide I ms z n r rows legal (inr (inr (l, o, (j, h, below, inr (fits, endless, e))))) = absurd (endless ((parts_of I ms z legal).1 j h))

pub farkas_rows_wide : (I : Instance) (ms : List Multiplier) (n : ℕ) (r : Unshown) → AreOfRows I ms × IsFarkas I (completed I no_costs ms) → RowLeafRefuses I ms None n r → IsWide r
farkas_rows_wide I ms n r (rows, f) (inl q) = rows_wide I ms None n r rows f.legal q
farkas_rows_wide I ms n r (rows, f) (inr (s, inl (unfit, e))) = (n, e)
farkas_rows_wide I ms n r (rows, f) (inr (s, inr (fits, other, e))) = absurd (other f.above)

pub bound_rows_wide : (I : Instance) (ms : List Multiplier) (z : Ratio) (n : ℕ) (r : Unshown) → AreOfRows I ms × IsBound I (completed I (goal_costs I) ms) z → RowLeafRefuses I ms (Some z) n r → IsWide r
bound_rows_wide I ms z n r (rows, b) (inl q) = rows_wide I ms (Some z) n r rows b.legal q
bound_rows_wide I ms z n r (rows, b) (inr (s, inl (unfit, e))) = (n, e)
bound_rows_wide I ms z n r (rows, b) (inr (s, inr (fits, other, e))) = absurd (other b.reaches)

pub grid_rows_wide : (I : Instance) (g : Ratio) (ms : List Multiplier) (z : Ratio) (n : ℕ) (r : Unshown) → AreOfRows I ms × IsGrid I g (completed I (goal_costs I) ms) z → GridRowsRefuse I g ms z n r → IsWide r
grid_rows_wide I g ms z n r (rows, b) (inl q) = rows_wide I ms (Some z) n r rows b.legal q
grid_rows_wide I g ms z n r (rows, b) (inr (inl (s, q))) = absurd (not_step I g n r q (b.step.above, λ j h. record { multiple = b.step.multiples j h; other = b.step.others j h }))
grid_rows_wide I g ms z n r (rows, b) (inr (inr (s, up, costs, inl (unfit, e)))) = (n, e)
grid_rows_wide I g ms z n r (rows, b) (inr (inr (s, up, costs, inr (fits, other, e)))) = absurd (other (record { steps = b.steps; rounded = b.rounded; reaches = b.reaches }))
