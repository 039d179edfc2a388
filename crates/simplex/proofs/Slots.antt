-- Numbers in memory, and writes to lists of them.
use Rattle.std.proofs.Common.{◌≡◌, ℕ, zero, suc, ◌<◌, pos, List, [], ◌∷◌, length, get_or, ◌∙◌, ap, arith}
use Rattle.std.specs.Prelude.{slice_set}
use Rattle.std.proofs.lemmas.List.{map-set, length-map, get_or-set_same, get_or-set_other}
use Rattle.rational.specs.Width.{IsReduced}
use Rattle.fraction.specs.Frac.{ratio, ratios}
use Rattle.fraction.specs.declared.frac.Frac.{Frac}
use Rattle.evidence.specs.Sums.{none}
use Rattle.evidence.specs.Point.{value_at}
use Rattle.evidence.proofs.Fits.{whole-reduced}

pub value_set : (xs : List Frac) (i : ℕ) (v : Frac) → i < length xs → value_at (ratios (slice_set xs i v)) i ≡ ratio v
value_set xs i v h = ap (λ l. get_or l i none) (map-set ratio xs i v) ∙ get_or-set_same (ratios xs) i (ratio v) none (omega (arith, length-map xs ratio))

pub value_other : (xs : List Frac) (i j : ℕ) (v : Frac) → (j ≡ i → ⊥) → value_at (ratios (slice_set xs i v)) j ≡ value_at (ratios xs) j
value_other xs i j v h = ap (λ l. get_or l j none) (map-set ratio xs i v) ∙ get_or-set_other (ratios xs) i j (ratio v) none h

pub value_reduced : (xs : List Frac) (k : ℕ) → IsReduced (value_at (ratios xs) k)
value_reduced [] k = whole-reduced (pos 0)
value_reduced (f ∷ xs) zero = (f.above, f.reduced)
value_reduced (f ∷ xs) (suc k) = value_reduced xs k
