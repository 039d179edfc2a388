-- Sums over a common denominator.
use Rattle.std.proofs.Common.{◌≡◌, ℕ, ◌*◌, ◌/◌, ◌^◌, ◌<◌, ◌≤◌, ℤ, pos, ◌+ℤ◌, ◌*ℤ◌, FitsSigned, w64, arith, refl, sym, ◌∙◌, ap, ap₂, subst}
use Rattle.std.specs.Prelude.{unsigned_abs, Result, Ok, Err, IfOk, OnErr}
use Rattle.std.specs.Int.{◌∣◌}
use Rattle.std.proofs.Math.Nat.{div-mul_cancel}
use Rattle.std.proofs.lemmas.Int.{ints}
use Rattle.rational.specs.Ratio.{Ratio, whole, sum, product, quotient, IsSame, IsNumber}
use Rattle.rational.specs.Width.{most, ReducedFits, SumFits}
use Rattle.rational.proofs.Scaling.{add-times, times-times, same_multiple}
use Rattle.rational.proofs.ReducedForms.{one_number}
use Rattle.evidence.specs.Width.{TermFits}
use Rattle.evidence.proofs.Numbers.{◌≈◌, ◌⊙◌, ≈-refl, sum-≈, product-≈, sum-number, product-number}
use Rattle.evidence.proofs.Fits.{sums_same, term_same, reduced_same}
use Rattle.common_rows.specs.Row.{over}
use Rattle.common_rows.proofs.Fitting.{sum_fits_over, reduced_fits}
use Rattle.common_rows.proofs.Sizes.{product_within}
use Rattle.fraction.proofs.Wholes.{narrow_size}

-- a number over a multiple of its denominator
pub multiple_same : (n r k : ℤ) (d c : ℕ) → d ∣ c → k ≡ pos (c / d) → r ≡ n *ℤ k → IsSame (over n d) (over r c)
multiple_same n r k d c div e is =
    ap (λ x. n *ℤ pos x) (sym (div-mul_cancel d div))
    ∙ sym (times-times n (c / d) d)
    ∙ ap (λ z. z *ℤ pos d) (sym (is ∙ ap (λ z. n *ℤ z) e))

-- numbers over one denominator
both_over : (a b : ℤ) (c : ℕ) → IsSame (over (a +ℤ b) c) (sum (over a c) (over b c))
both_over a b c =
    sym (times-times (a +ℤ b) c c)
    ∙ ap (λ z. z *ℤ pos c) (add-times a b c)

module _ (x y : Ratio) (a b : ℤ) (c : ℕ) (nx : IsNumber x) (ny : IsNumber y) (up : 0 < c) (sx : IsSame x (over a c)) (sy : IsSame y (over b c)) where
  pub sum_over : IsSame (over (a +ℤ b) c) (sum x y)
  sum_over =
      let first : over (a +ℤ b) c ≈ sum (over a c) (over b c) = record { left = up; right = sum-number (over a c) (over b c) up up; is = both_over a b c } in
      let left : over a c ≈ x = record { left = up; right = nx; is = sym sx } in
      let right : over b c ≈ y = record { left = up; right = ny; is = sym sy } in
      let all = first ⊙ sum-≈ left right in
      all.is

-- the same sums with a term in another form
module _ (s t p : Ratio) (ns : IsNumber s) (nt : IsNumber t) (np : IsNumber p) (same : IsSame t p) where
  pub joined : (r : Ratio) → IsNumber r → IsSame r (sum s t) → IsSame r (sum s p)
  joined r nr e =
      let first : r ≈ sum s t = record { left = nr; right = sum-number s t ns nt; is = e } in
      let term : t ≈ p = record { left = nt; right = np; is = same } in
      let all = first ⊙ sum-≈ (≈-refl ns) term in
      all.is

  pub joined_fits : SumFits s t → SumFits s p
  joined_fits f = sums_same s t s p ns np refl same f

-- the same sums from a start in another form
module _ (f s a x : Ratio) (nf : IsNumber f) (ns : IsNumber s) (na : IsNumber a) (nx : IsNumber x) (same : IsSame f s) where
  pub begun : (r : Ratio) → IsNumber r → IsSame r (sum f (product a x)) → IsSame r (sum s (product a x))
  begun r nr e =
      let p = product-number a x na nx in
      let first : r ≈ sum f (product a x) = record { left = nr; right = sum-number f (product a x) nf p; is = e } in
      let start : f ≈ s = record { left = nf; right = ns; is = same } in
      let all = first ⊙ sum-≈ start (≈-refl p) in
      all.is

  pub begun_fits : TermFits f a x → TermFits s a x
  begun_fits = term_same f s a x (record { left = nf; right = ns; is = same }) (product-number a x na nx)

  pub begun_wide : (TermFits f a x → ⊥) → TermFits s a x → ⊥
  begun_wide unfit fits = unfit (term_same s f a x (record { left = ns; right = nf; is = sym same }) (product-number a x na nx) fits)

-- a number over a denominator as a quotient
times_one : (n : ℤ) → n *ℤ pos 1 ≡ n
times_one n = omega (arith, ints)

pub quotient_over : (n : ℤ) (d : ℕ) → IsSame (quotient (whole n) (whole (pos d))) (over n d)
quotient_over n d = times-times n 1 d ∙ ap (λ k. n *ℤ pos k) (let e : 1 * d ≡ 1 * d = refl in e)

pub quotient_fits : (n : ℤ) (d : ℕ) → 0 < d → unsigned_abs n ≤ most → d ≤ most → ReducedFits (quotient (whole n) (whole (pos d)))
quotient_fits n d up ln ld = reduced_fits (quotient (whole n) (whole (pos d))) (omega (arith, up)) (subst (λ k. k ≤ most) (sym (ap unsigned_abs (times_one n))) ln) (omega (arith, ld))

-- a product in the form of its parts
pub product_form : (l r a x : Ratio) (n : ℤ) (d : ℕ) → l ≡ a → r ≡ x → n ≡ l.num *ℤ r.num → d ≡ l.den * r.den → over n d ≡ product a x
product_form l r a x n d el er en ed = one_number (over n d) (product l r) en ed ∙ ap₂ (λ v w. product v w) el er

-- parts of 64 bits fit
pub form_reduced : (n : ℤ) (d : ℕ) → 0 < d → FitsSigned w64 n → d < 2 ^ 64 → ReducedFits (over n d)
form_reduced n d up f l = let s = narrow_size n f in reduced_fits (over n d) up (omega (arith, s)) (omega (arith, l))

-- what the sum of two forms states, over a denominator of both
pub form_fits : (x y : Ratio) (a n k t : ℤ) (c : ℕ) → IsNumber x → IsNumber y → 0 < c → IsSame x (over a c) → IsSame y (over (n *ℤ k) c) → FitsSigned w64 a → FitsSigned w64 n → FitsSigned w64 k → t ≡ a +ℤ n *ℤ k → unsigned_abs t ≤ most → c < 2 ^ 64 → SumFits x y
form_fits x y a n k t c nx ny up sx sy fa fn fk e lt lc =
    let la = narrow_size a fa in
    let lb = product_within (n *ℤ k) n k refl fn fk in
    sum_fits_over x y a (n *ℤ k) c nx ny up sx sy (omega (arith, la)) (omega (arith, lb)) (subst (λ z. unsigned_abs z ≤ most) e lt) (omega (arith, lc))

-- the same sums from a start that is told by its parts
module _ (s t p : Ratio) (ns : IsNumber s) (nt : IsNumber t) (np : IsNumber p) (same : IsSame t p) (n : ℤ) (d : ℕ) (en : n ≡ s.num) (ed : d ≡ s.den) where
  pub parts_joined : (r : Ratio) → IsNumber r → IsSame r (sum (over n d) t) → IsSame r (sum s p)
  parts_joined r nr e = joined s t p ns nt np same r nr (subst (λ (z : Ratio). IsSame r (sum z t)) (one_number (over n d) s en ed) e)

  pub parts_fit : SumFits (over n d) t → SumFits s p
  parts_fit f = joined_fits s t p ns nt np same (subst (λ (z : Ratio). SumFits z t) (one_number (over n d) s en ed) f)

-- a number over a denominator times a whole one
module _ (t n k : ℤ) (d : ℕ) (x : Ratio) (up : 0 < d) (one : x.den ≡ 1) (is : k ≡ x.num) where
  term_number : IsNumber (product (over n d) x)
  term_number = let e : d * x.den ≡ d * 1 = ap (λ m. d * m) one in omega (arith, e)

  term_over : IsSame (product (over n d) x) (over (n *ℤ k) d)
  term_over = ap₂ (λ (z : ℤ) (m : ℕ). n *ℤ z *ℤ pos m) (sym is) (let e : d * x.den ≡ d * 1 = ap (λ m. d * m) one in omega (arith, e))

  pub number_sum : IsSame (over (t +ℤ n *ℤ k) d) (sum (over t d) (product (over n d) x))
  number_sum = sum_over (over t d) (product (over n d) x) t (n *ℤ k) d up term_number up refl term_over

  pub number_fits : unsigned_abs t ≤ most → unsigned_abs (n *ℤ k) ≤ most → unsigned_abs (t +ℤ n *ℤ k) ≤ most → d ≤ most → TermFits (over t d) (over n d) x
  number_fits lt lk ls ld =
      let e : d * x.den ≡ d * 1 = ap (λ m. d * m) one in
      let small : unsigned_abs (n *ℤ x.num) ≤ most = subst (λ z. unsigned_abs (n *ℤ z) ≤ most) is lk in
      record {
        term = λ _ _. reduced_fits (product (over n d) x) term_number small (omega (arith, e, ld));
        sum = λ _ _. sum_fits_over (over t d) (product (over n d) x) t (n *ℤ k) d up term_number up refl term_over lt lk ls ld;
      }

-- the same with a factor in another form
module _ (s f a x : Ratio) (ns : IsNumber s) (nf : IsNumber f) (na : IsNumber a) (nx : IsNumber x) (same : IsSame f a) where
  factor_same : IsSame (product f x) (product a x)
  factor_same =
      let factor : f ≈ a = record { left = nf; right = na; is = same } in
      let all = product-≈ factor (≈-refl nx) in
      all.is

  nothing : (k : ℕ) → pos 0 *ℤ pos k ≡ pos 0
  nothing k = omega (arith, ints)

  factor_zero : f.num ≡ pos 0 → a.num ≡ pos 0
  factor_zero z =
      let e : a.num *ℤ pos f.den ≡ pos 0 *ℤ pos a.den = sym same ∙ ap (λ n. n *ℤ pos a.den) z in
      same_multiple a.num (pos 0) f.den nf (e ∙ nothing a.den ∙ sym (nothing f.den))

  pub factored : (r : Ratio) → IsNumber r → IsSame r (sum s (product f x)) → IsSame r (sum s (product a x))
  factored r nr e = joined s (product f x) (product a x) ns (product-number f x nf nx) (product-number a x na nx) factor_same r nr e

  pub factored_fits : TermFits s f x → TermFits s a x
  factored_fits t =
      let nt = product-number f x nf nx in
      let np = product-number a x na nx in
      record {
        term = λ p q. reduced_same (product f x) (product a x) np factor_same (t.term (λ z. p (factor_zero z)) q);
        sum = λ p q. joined_fits s (product f x) (product a x) ns nt np factor_same (t.sum (λ z. p (factor_zero z)) q);
      }

-- what holds of each answer
pub ok_by : {T E : Type 0} (r : Result T E) (P Q : T → Type 0) → ((x : T) → P x → Q x) → IfOk r P → IfOk r Q
ok_by (Ok x) P Q f p = f x p
ok_by (Err e) P Q f p = tt

pub err_by : {T E P Q : Type 0} (r : Result T E) → (P → Q) → OnErr r P → OnErr r Q
err_by (Ok x) f p = tt
err_by (Err e) f p = f p
