-- The sum of the ends, each times its multiplier: its terms are numbers.
use Rattle.std.proofs.Common.{◌≡◌, ℕ, Option, None, Some, IfSome, List, length, inr, refl, subst}
use Rattle.rational.specs.Ratio.{Ratio, IsNumber, IsSame, product}
use Rattle.fraction.specs.Frac.{ratio}
use Rattle.fraction.specs.declared.frac.Frac.{Frac}
use Rattle.evidence.specs.Sums.{none}
use Rattle.evidence.specs.Instance.{Instance, IsInstance, column_at}
use Rattle.evidence.specs.Cases.{Multiplier, multiplier_at, end_of, or_none, low_sum}
use Rattle.evidence.specs.Width.{LowFits}
use Rattle.evidence.proofs.Numbers.{◌≈◌, ◌⋖◌, ◌≲◌, ≈-sym, ≲-from, ≲-trans, ⋖-≲, product-number}
use Rattle.evidence.proofs.Totals.{total-number}
use Rattle.evidence.proofs.UniqueRows.{end_by-number}
use Rattle.evidence.proofs.Columns.{none-number, column-numbers}
use Rattle.certificate.specs.declared.lists.Mult.{Mult}
use Rattle.certificate.specs.Meanings.{multipliers}
use Rattle.cert_checker.specs.Cuts.{aim}
use Rattle.cert_checker.specs.declared.refused.Unshown.TheVariants.{Sum}
use Rattle.cert_checker.specs.Leaves.{start, ReachesBound, HasSum, SumRefuses}
use Rattle.cert_checker.proofs.ColumnSums.{factors-number}

pub ends-number : (I : Instance) → IsInstance I → (ms : List Mult) (k : ℕ) → IsNumber (or_none (end_of I (multiplier_at (multipliers ms) k)))
ends-number I good ms k =
    end_by-number (multiplier_at (multipliers ms) k).by.num (column_at I (multiplier_at (multipliers ms) k).column)
    (column-numbers I good (multiplier_at (multipliers ms) k).column)

-- a sum of the same value reaches the same
pub reaches_same : (z : Option Ratio) (s t : Ratio) → IfSome z IsNumber → s ≈ t → ReachesBound z s → ReachesBound z t
reaches_same None s t n e r =
    let a : none ⋖ s = record { left = none-number; right = e.left; is = r } in
    let b = ⋖-≲ a (≲-from e) in
    b.is
reaches_same (Some v) s t n e r =
    let a : v ≲ s = record { left = n; right = e.left; is = r } in
    let b = ≲-trans a (≲-from e) in
    b.is

pub aim-number : (z : Option Frac) → IfSome (aim z) IsNumber
aim-number None = tt
aim-number (Some z) = z.above

pub mults_low-number : (I : Instance) → IsInstance I → (ms : List Mult) (f : Frac) → IsNumber (low_sum I (ratio f) (multipliers ms))
mults_low-number I good ms f =
    total-number (ratio f) (length (multipliers ms)) (λ k. product (multiplier_at (multipliers ms) k).by (or_none (end_of I (multiplier_at (multipliers ms) k)))) f.above
    (λ k. product-number (multiplier_at (multipliers ms) k).by (or_none (end_of I (multiplier_at (multipliers ms) k))) (factors-number ms k) (ends-number I good ms k))

module _ (I : Instance) (ms : List Multiplier) (z : Option Frac) (f s : Frac) (ef : ratio f ≡ start I (aim z)) (pl : IsNumber (low_sum I (ratio f) ms)) (fits : LowFits I (ratio f) ms) (is : IsSame (ratio s) (low_sum I (ratio f) ms)) where
  near : ratio s ≈ low_sum I (start I (aim z)) ms
  near = subst (λ t. ratio s ≈ low_sum I t ms) ef (record { left = s.above; right = pl; is = is })

  fits_start : LowFits I (start I (aim z)) ms
  fits_start = subst (λ t. LowFits I t ms) ef fits

  pub has_sum : ReachesBound (aim z) (ratio s) → HasSum I ms (aim z)
  has_sum r = record { fits = fits_start; reaches = reaches_same (aim z) (ratio s) (low_sum I (start I (aim z)) ms) (aim-number z) near r }

  pub lacks_sum : (node : ℕ) → (ReachesBound (aim z) (ratio s) → ⊥) → SumRefuses I ms (aim z) node (Sum node)
  lacks_sum node fails = inr (fits_start, λ r. fails (reaches_same (aim z) (low_sum I (start I (aim z)) ms) (ratio s) (aim-number z) (≈-sym near) r), refl)
