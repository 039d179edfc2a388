-- A direction is refused for one reason.
use Rattle.std.proofs.Common.{◌≡◌, ◌∙◌, inl, inr, ℕ, ◌+◌, List, length, ap, sym}
use Rattle.rational.specs.Ratio.{Ratio, IsBelow}
use Rattle.evidence.specs.Sums.{none}
use Rattle.evidence.specs.Instance.{Instance, width, height, variable_at, row_at}
use Rattle.evidence.specs.Point.{value_at, activity, NeverLeaves}
use Rattle.evidence.specs.Width.{RowFits}
use Rattle.cert_checker.specs.declared.refused.Unshown.{Unshown}
use Rattle.cert_checker.specs.declared.refused.Unshown.TheVariants.{Direction, Wide}
use Rattle.cert_checker.specs.Rays.{MayMove, VariablesMove, RowsMove, IsVariableHeld, slope, SlopeFits, RowsRefuse, SlopeRefuses, RayRefuses}
use Rattle.cert_checker.proofs.Firsts.{first_once, Staged, stage_once, twofold_once, AtFirst, place_once}
use Rattle.cert_checker.proofs.OnePoint.{Miscounted, miscount_once}

abbrev Held : Instance → List Ratio → List Ratio → Unshown → Type 0
Held I x d r = (j : ℕ) × IsVariableHeld I x d j × (r ≡ Direction j)

held_once : (I : Instance) (x d : List Ratio) (r s : Unshown) → Held I x d r → Held I x d s → r ≡ s
held_once I x d r s (j, h, e) (k, i, f) =
    let same : j ≡ k = first_once (λ (n : ℕ). MayMove (variable_at I n) (value_at x n) (value_at d n)) j k (record { below = h.below; fails = h.held }) (record { below = i.below; fails = i.held }) in
    e ∙ ap Direction same ∙ sym f

abbrev Never : Instance → List Ratio → ℕ → Type 0
Never I d i = NeverLeaves (row_at I i) (activity I d i)

abbrev row_told : Instance → ℕ → Unshown
row_told I i = Direction (width I + i)

at_row : (I : Instance) (d : List Ratio) (r : Unshown) → RowsRefuse I d r → AtFirst (RowFits I d) (Never I d) (Wide 0) (row_told I) r
at_row I d r (inl (i, h, e)) = (i, record { below = λ j l. ((h.below j l).fits, (h.below j l).never); fails = λ p. h.held p.1 }, inr (h.fits, h.held, e))
at_row I d r (inr (i, h, e)) = (i, record { below = λ j l. ((h.below j l).fits, (h.below j l).never); fails = λ p. h.wide p.0 }, inl (h.wide, e))

rows_once : (I : Instance) (d : List Ratio) (r s : Unshown) → RowsRefuse I d r → RowsRefuse I d s → r ≡ s
rows_once I d r s h k = place_once (RowFits I d) (Never I d) (Wide 0) (row_told I) r s (at_row I d r h) (at_row I d s k)

not_moving : (I : Instance) (d : List Ratio) (r : Unshown) → RowsRefuse I d r → RowsMove I d (height I) → ⊥
not_moving I d r (inl (i, h, e)) rows = h.held (rows i h.inside).never
not_moving I d r (inr (i, h, e)) rows = h.wide (rows i h.inside).fits

abbrev ThenSlope : Instance → List Ratio → Unshown → Type 0
ThenSlope I d r = Staged (RowsMove I d (height I)) (RowsRefuse I d) (SlopeRefuses I d) r

abbrev ThenRows : Instance → List Ratio → List Ratio → Unshown → Type 0
ThenRows I x d r = Staged (VariablesMove I x d (width I)) (Held I x d) (ThenSlope I d) r

staged : (I : Instance) (x d : List Ratio) (r : Unshown) → RayRefuses I x d r → Staged (length d ≡ width I) (Miscounted I d Direction) (ThenRows I x d) r
staged I x d r (inl (c, m, e)) = inl (m.0, (c, m, e))
staged I x d r (inr (inl (n, j, h, e))) = inr (n, inl (λ vars. h.held (vars j h.inside), (j, h, e)))
staged I x d r (inr (inr (inl (n, vars, h)))) = inr (n, inr (vars, inl (not_moving I d r h, h)))
staged I x d r (inr (inr (inr (n, vars, rows, h)))) = inr (n, inr (vars, inr (rows, h)))

pub ray_once : (I : Instance) (x d : List Ratio) (r s : Unshown) → RayRefuses I x d r → RayRefuses I x d s → r ≡ s
ray_once I x d r s h k =
    stage_once (length d ≡ width I) (Miscounted I d Direction) (ThenRows I x d) r s (miscount_once I d Direction r s)
    (stage_once (VariablesMove I x d (width I)) (Held I x d) (ThenSlope I d) r s (held_once I x d r s)
    (stage_once (RowsMove I d (height I)) (RowsRefuse I d) (SlopeRefuses I d) r s (rows_once I d r s)
    (twofold_once (SlopeFits I d) (IsBelow (slope I d) none) (Wide 0) (Direction (width I + height I)) r s)))
    (staged I x d r h) (staged I x d s k)
