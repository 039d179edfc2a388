-- Sums of columns, one for each variable, that are made side by side; one that doesn't fit is none.
use Rattle.std.specs.Prelude.{◌≡◌, ℕ, Option, None, Some, List, length, get_or}
use Rattle.rational.specs.Ratio.{Ratio, IsSame, sum, product}
use Rattle.fraction.specs.Frac.{ratio}
use Rattle.fraction.specs.declared.frac.Frac.{Frac}
use Rattle.evidence.specs.Sums.{none, total}
use Rattle.evidence.specs.Instance.{Instance, coefficient_at}
use Rattle.evidence.specs.Cases.{Multiplier, multiplier_at, end_of, or_none}
use Rattle.evidence.specs.Width.{TermFits, StatedFits}

abbrev pub slot_at : List (Option Frac) → ℕ → Option Frac
slot_at ss j = get_or ss j None

-- one more product
abbrev pub Added : Ratio → Ratio → Ratio → Option Frac → Type 0
Added s a x None = TermFits s a x → ⊥
Added s a x (Some r) = TermFits s a x × IsSame (ratio r) (sum s (product a x))

abbrev pub IsStep : Option Frac → Ratio → Ratio → Option Frac → Type 0
IsStep None a x new = new ≡ None
IsStep (Some s) a x new = Added (ratio s) a x new

-- a start and n products, each added to the sum of those before it
abbrev pub HoldsTotal : Ratio → ℕ → (ℕ → Ratio) → (ℕ → Ratio) → Option Frac → Type 0
HoldsTotal s n a x None = StatedFits s n a x → ⊥
HoldsTotal s n a x (Some r) = StatedFits s n a x × IsSame (ratio r) (total s n (λ k. product (a k) (x k)))

-- the sum of the first n multipliers, each times its column's coefficient at variable j
abbrev pub HoldsSum : Instance → List Multiplier → ℕ → ℕ → Option Frac → Type 0
HoldsSum I ms j n = HoldsTotal none n (λ k. (multiplier_at ms k).by) (λ k. coefficient_at I (multiplier_at ms k).column j)

-- a start and the multipliers, each times its end
abbrev pub HoldsLow : Instance → Ratio → List Multiplier → Option Frac → Type 0
HoldsLow I s ms = HoldsTotal s (length ms) (λ k. (multiplier_at ms k).by) (λ k. or_none (end_of I (multiplier_at ms k)))
