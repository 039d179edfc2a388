-- What is left of an entry without its whole part.
use Rattle.std.proofs.Common.{◌≡◌, ℤ, Result, Ok, Err, IfOk, OnErr, sym, ◌∙◌, ap, subst}
use Rattle.rational.specs.Ratio.{Ratio, whole, sum, negative, IsSame}
use Rattle.rational.specs.Width.{SumFits}
use Rattle.fraction.specs.Frac.{ratio}
use Rattle.fraction.specs.declared.frac.Frac.{Frac}
use Rattle.search_rules.specs.Cuts.{IsLessBy}

-- the number is less that whole one of which P holds, which is the only such
module _ {E : Type 0} (x w : Ratio) (k : ℤ) (P : ℤ → Type 0) (p : P k) (is : w ≡ whole k) where
  pub left_ok : (r : Result Frac E) → IfOk r (λ q. IsSame (ratio q) (sum x (negative w))) → IfOk r (λ q. (l : ℤ) × P l × IsLessBy x l (ratio q))
  left_ok (Ok q) same = (k, p, record { reduced = (q.above, q.reduced); same = subst (λ (v : Ratio). IsSame (ratio q) (sum x (negative v))) is same })
  left_ok (Err e) same = tt

  pub left_wide : (r : Result Frac E) → OnErr r (SumFits x (negative w) → ⊥) → OnErr r (((l : ℤ) → P l → SumFits x (negative (whole l))) → ⊥)
  left_wide (Ok q) wide = tt
  left_wide (Err e) wide = λ all. wide (subst (λ (v : Ratio). SumFits x (negative v)) (sym is) (all k p))

  pub left_fits : ((l : ℤ) → P l → l ≡ k) → (r : Result Frac E) → IfOk r (λ q. SumFits x (negative w)) → IfOk r (λ q. (l : ℤ) → P l → SumFits x (negative (whole l)))
  left_fits one (Ok q) fits = λ l h. subst (λ (v : Ratio). SumFits x (negative v)) (is ∙ ap whole (sym (one l h))) fits
  left_fits one (Err e) fits = tt
