-- A leaf of a tree of cases is refused for one reason.
use Rattle.std.proofs.Common.{◌≡◌, ◌∙◌, inl, inr, ℕ, ◌+◌, ◌<◌, Option, None, Some, List, ap, sym}
use Rattle.rational.specs.Ratio.{Ratio, IsSame, IsBelow}
use Rattle.evidence.specs.Sums.{none}
use Rattle.evidence.specs.Instance.{Instance, width, height, column_at}
use Rattle.evidence.specs.Cases.{Multiplier, multiplier_at, AreLegal, IsEmpty, form, low_sum}
use Rattle.evidence.specs.Width.{FormFits, LowFits}
use Rattle.cert_checker.specs.declared.refused.Unshown.{Unshown}
use Rattle.cert_checker.specs.declared.refused.Unshown.TheVariants.{Sign, Form, Step, Sum, Wide}
use Rattle.cert_checker.specs.Leaves.{IsPair, IsFirstIllegal, wanted, start, ReachesBound, FormsBelow, SignRefuses, FormRefuses, SumRefuses, LeafRefuses, ClashRefuses}
use Rattle.cert_checker.specs.Grids.{GoesInSteps, StepsBelow, IsFirstOff, StepRefuses, StepsRefuse, GridFits, ReachesInSteps, GridRefuses, GridLeafRefuses}
use Rattle.cert_checker.proofs.Firsts.{first_once, Staged, stage_once, twofold_once, AtFirst, place_once}
use Rattle.cert_checker.proofs.Multipliers.{pair_of}

pub illegal_once : {R : Type 0} (I : Instance) (ms : List Multiplier) (told : ℕ → R) (r s : R) → (c : ℕ) × IsFirstIllegal I ms c × (r ≡ told c) → (c : ℕ) × IsFirstIllegal I ms c × (s ≡ told c) → r ≡ s
illegal_once I ms told r s (c, h, e) (d, k, f) =
    let same : h.at ≡ k.at = first_once (IsPair I ms) h.at k.at (record { below = h.below; fails = h.out }) (record { below = k.below; fails = k.out }) in
    e ∙ ap told (h.is ∙ ap (λ (i : ℕ). (multiplier_at ms i).column) same ∙ sym k.is) ∙ sym f

pub sign_once : (I : Instance) (ms : List Multiplier) (n : ℕ) (r s : Unshown) → SignRefuses I ms n r → SignRefuses I ms n s → r ≡ s
sign_once I ms n r s h k = illegal_once I ms (Sign n) r s h k

pub not_legal : (I : Instance) (ms : List Multiplier) (n : ℕ) (r : Unshown) → SignRefuses I ms n r → AreLegal I ms → ⊥
not_legal I ms n r (c, h, e) legal = h.out (pair_of I ms legal h.at h.inside)

abbrev IsWanted : Instance → List Multiplier → Option Ratio → ℕ → Type 0
IsWanted I ms z j = IsSame (form I ms j) (wanted I z j)

at_form : (I : Instance) (ms : List Multiplier) (z : Option Ratio) (n : ℕ) (r : Unshown) → FormRefuses I ms z n r → AtFirst (FormFits I ms) (IsWanted I ms z) (Wide n) (Form n) r
at_form I ms z n r (inl (j, h, e)) = (j, record { below = λ k l. ((h.below k l).fits, (h.below k l).is); fails = λ p. h.other p.1 }, inr (h.fits, h.other, e))
at_form I ms z n r (inr (j, h, e)) = (j, record { below = λ k l. ((h.below k l).fits, (h.below k l).is); fails = λ p. h.wide p.0 }, inl (h.wide, e))

form_once : (I : Instance) (ms : List Multiplier) (z : Option Ratio) (n : ℕ) (r s : Unshown) → FormRefuses I ms z n r → FormRefuses I ms z n s → r ≡ s
form_once I ms z n r s h k = place_once (FormFits I ms) (IsWanted I ms z) (Wide n) (Form n) r s (at_form I ms z n r h) (at_form I ms z n s k)

not_forms : (I : Instance) (ms : List Multiplier) (z : Option Ratio) (n : ℕ) (r : Unshown) → FormRefuses I ms z n r → FormsBelow I ms z (width I) → ⊥
not_forms I ms z n r (inl (j, h, e)) forms = h.other (forms j h.inside).is
not_forms I ms z n r (inr (j, h, e)) forms = h.wide (forms j h.inside).fits

abbrev ThenSum : Instance → List Multiplier → Option Ratio → ℕ → Unshown → Type 0
ThenSum I ms z n r = Staged (FormsBelow I ms z (width I)) (FormRefuses I ms z n) (SumRefuses I ms z n) r

staged : (I : Instance) (ms : List Multiplier) (z : Option Ratio) (n : ℕ) (r : Unshown) → LeafRefuses I ms z n r → Staged (AreLegal I ms) (SignRefuses I ms n) (ThenSum I ms z n) r
staged I ms z n r (inl h) = inl (not_legal I ms n r h, h)
staged I ms z n r (inr (inl (l, h))) = inr (l, inl (not_forms I ms z n r h, h))
staged I ms z n r (inr (inr (l, f, h))) = inr (l, inr (f, h))

pub leaf_once : (I : Instance) (ms : List Multiplier) (z : Option Ratio) (n : ℕ) (r s : Unshown) → LeafRefuses I ms z n r → LeafRefuses I ms z n s → r ≡ s
leaf_once I ms z n r s h k =
    stage_once (AreLegal I ms) (SignRefuses I ms n) (ThenSum I ms z n) r s (sign_once I ms n r s)
    (stage_once (FormsBelow I ms z (width I)) (FormRefuses I ms z n) (SumRefuses I ms z n) r s (form_once I ms z n r s)
    (twofold_once (LowFits I (start I z) ms) (ReachesBound z (low_sum I (start I z) ms)) (Wide n) (Sum n) r s))
    (staged I ms z n r h) (staged I ms z n s k)

-- on a grid
abbrev Off : Instance → Ratio → ℕ → Unshown → Type 0
Off I g n r = (j : ℕ) × IsFirstOff I g j × (r ≡ Step n j)

off_once : (I : Instance) (g : Ratio) (n : ℕ) (r s : Unshown) → Off I g n r → Off I g n s → r ≡ s
off_once I g n r s (i, h, e) (j, k, f) = e ∙ ap (Step n) (first_once (GoesInSteps I g) i j (record { below = h.below; fails = h.off }) (record { below = k.below; fails = k.off })) ∙ sym f

abbrev pub Goes : Instance → Ratio → Type 0
Goes I g = IsBelow none g × StepsBelow I g (width I)

pub step_once : (I : Instance) (g : Ratio) (n : ℕ) (r s : Unshown) → StepRefuses I g n r → StepRefuses I g n s → r ≡ s
step_once I g n r s h k = stage_once (IsBelow none g) (λ (q : Unshown). q ≡ Step n (width I)) (Off I g n) r s (λ e f. e ∙ sym f) (off_once I g n r s) h k

pub not_step : (I : Instance) (g : Ratio) (n : ℕ) (r : Unshown) → StepRefuses I g n r → Goes I g → ⊥
not_step I g n r (inl (low, e)) goes = low goes.0
not_step I g n r (inr (up, (j, h, e))) goes = h.off (goes.1 j h.inside)

abbrev ThenSteps : Instance → Ratio → List Multiplier → Ratio → ℕ → Unshown → Type 0
ThenSteps I g ms z n r = Staged (Goes I g) (StepRefuses I g n) (StepsRefuse I g ms z n) r

abbrev ThenGoes : Instance → Ratio → List Multiplier → Ratio → ℕ → Unshown → Type 0
ThenGoes I g ms z n r = Staged (FormsBelow I ms (Some z) (width I)) (FormRefuses I ms (Some z) n) (ThenSteps I g ms z n) r

staged_grid : (I : Instance) (g : Ratio) (ms : List Multiplier) (z : Ratio) (n : ℕ) (r : Unshown) → GridRefuses I g ms z n r → Staged (AreLegal I ms) (SignRefuses I ms n) (ThenGoes I g ms z n) r
staged_grid I g ms z n r (inl h) = inl (not_legal I ms n r h, h)
staged_grid I g ms z n r (inr (inl (l, h))) = inr (l, inl (not_forms I ms (Some z) n r h, h))
staged_grid I g ms z n r (inr (inr (inl (l, f, h)))) = inr (l, inr (f, inl (not_step I g n r h, h)))
staged_grid I g ms z n r (inr (inr (inr (l, f, up, costs, h)))) = inr (l, inr (f, inr ((up, costs), h)))

grid_once : (I : Instance) (g : Ratio) (ms : List Multiplier) (z : Ratio) (n : ℕ) (r s : Unshown) → GridRefuses I g ms z n r → GridRefuses I g ms z n s → r ≡ s
grid_once I g ms z n r s h k =
    stage_once (AreLegal I ms) (SignRefuses I ms n) (ThenGoes I g ms z n) r s (sign_once I ms n r s)
    (stage_once (FormsBelow I ms (Some z) (width I)) (FormRefuses I ms (Some z) n) (ThenSteps I g ms z n) r s (form_once I ms (Some z) n r s)
    (stage_once (Goes I g) (StepRefuses I g n) (StepsRefuse I g ms z n) r s (step_once I g n r s)
    (twofold_once (GridFits I g ms) (ReachesInSteps I g ms z) (Wide n) (Sum n) r s)))
    (staged_grid I g ms z n r h) (staged_grid I g ms z n s k)

pub grid_leaf_once : (I : Instance) (g : Ratio) (ms : List Multiplier) (z : Option Ratio) (n : ℕ) (r s : Unshown) → GridLeafRefuses I g ms z n r → GridLeafRefuses I g ms z n s → r ≡ s
grid_leaf_once I g ms None n r s h k = h ∙ sym k
grid_leaf_once I g ms (Some z) n r s h k = grid_once I g ms z n r s h k

pub clash_once : (I : Instance) (c n : ℕ) (r s : Unshown) → ClashRefuses I c n r → ClashRefuses I c n s → r ≡ s
clash_once I c n r s h k = twofold_once (c < width I + height I) (IsEmpty (column_at I c)) (Sign n c) (Sum n) r s h k
