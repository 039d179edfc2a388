-- The factor of a direction, step by step.
use Rattle.std.proofs.Common.{◌≡◌, ℕ, zero, suc, ◌+◌, ◌<◌, ◌≤◌, ℤ, pos, negsuc, ◌<ℤ◌, Bool, true, List, arith, sym, subst, add-one}
use Rattle.std.specs.Prelude.{unsigned_abs}
use Rattle.std.proofs.lemmas.Int.{ints}
use mir.Val.{SFits}
use mir.Syntax.{w128}
use Rattle.rational.specs.Ratio.{Ratio}
use Rattle.rational.specs.Whole.{IsLcm}
use Rattle.rational.specs.Width.{most}
use Rattle.evidence.specs.Instance.{Instance, variable_at}
use Rattle.evidence.specs.Point.{value_at}
use Rattle.evidence.proofs.Columns.{by_lt}
use Rattle.search_rules.specs.Rays.{IsNextFactor, IsFactor}
use Rattle.search_rules.proofs.Rays.{one_factor}

pub next_whole : (b : Bool) (x : Ratio) (f g : ℕ) → b ≡ true → IsLcm f x.den g → g ≤ most → IsNextFactor b x f g
next_whole b x f g e h low = rw e (h, low)

pub no_next : (b : Bool) (x : Ratio) (f : ℕ) → b ≡ true → ((g : ℕ) → IsLcm f x.den g → most < g) → (g : ℕ) → IsNextFactor b x f g → ⊥
no_next b x f e wide g h = let k = rw e at h in let q = wide g k.0 in let r = k.1 in omega arith

module _ (I : Instance) (d : List Ratio) where
  pub factor_more : (j f g : ℕ) (w : Bool) (x : Ratio) → (variable_at I j).whole ≡ w → value_at d j ≡ x → IsFactor I d j f → IsNextFactor w x f g → IsFactor I d (j + 1) g
  factor_more j f g w x ew ex p q = subst (λ n. IsFactor I d n g) (sym (add-one j)) (f, p, rw (ew, ex) q)

  -- a factor of all comes from one of the first ones
  none_later : (j : ℕ) → ((g : ℕ) → IsFactor I d (suc j) g → ⊥) → (n : ℕ) → j < n → (g : ℕ) → IsFactor I d n g → ⊥
  none_later j never zero h g p = absurd (omega arith)
  none_later j never (suc n) h g p =
      by_lt j n (λ below. none_later j never n below p.0 p.1) (λ up. let e : j ≡ n = omega arith in never g (subst (λ k. IsFactor I d (suc k) g) (sym e) p))

  pub no_factor : (j n f : ℕ) (w : Bool) (x : Ratio) → j < n → (variable_at I j).whole ≡ w → value_at d j ≡ x → IsFactor I d j f → ((g : ℕ) → IsNextFactor w x f g → ⊥) → (g : ℕ) → IsFactor I d n g → ⊥
  no_factor j n f w x h ew ex p never g q =
      none_later j
      (λ k r.
      let e : r.0 ≡ f = one_factor I d j r.0 f r.1 p in
      never k (subst (λ y. IsNextFactor w y f k) ex (subst (λ b. IsNextFactor b (value_at d j) f k) ew (subst (λ b. IsNextFactor (variable_at I j).whole (value_at d j) b k) e r.2))))
      n h g q

pub size_fits : (k : ℤ) → SFits w128 k → pos 0 <ℤ k → unsigned_abs k ≤ most
size_fits (pos n) f up = let h = f.sfits in omega arith
size_fits (negsuc n) f up = absurd (omega (arith, ints))
