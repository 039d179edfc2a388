-- Fractions whose parts are within the width.
use Rattle.std.proofs.Common.{◌≡◌, ℕ, zero, suc, ◌*◌, ◌<◌, ◌≤◌, ℤ, pos, ◌*ℤ◌, refl, ap, sym, ◌∙◌, subst, arith, Option}
use Rattle.std.specs.Prelude.{unsigned_abs, Result, Ok, Err, OnErr, IfOk, MatchOption}
use Rattle.std.specs.Result.{result_ok}
use Rattle.std.specs.Int.{◌∣◌}
use Rattle.std.proofs.lemmas.Int.{ints}
use Rattle.std.proofs.Math.Nat.{dvd-mul_right}
use Rattle.std.proofs.lemmas.Nat.Gcd.{le_of_dvd}
use Rattle.rational.specs.Ratio.{Ratio, IsSame, IsNumber, whole, quotient}
use Rattle.rational.specs.Width.{IsWithin, IsReduced, ReducedFits, most}
use Rattle.rational.proofs.ReducedForms.{reduce}
use Rattle.rational.proofs.CommonDivisors.{coprime_from_IsGcd, coprime_swap, divides_other}
use Rattle.rational.proofs.Signs.{sizes_cross}

-- the parts of the reduced form of a number divide those of each form
top_divides : (x y : Ratio) → IsReduced y → IsSame y x → unsigned_abs y.num ∣ unsigned_abs x.num
top_divides x y r e =
    let n = unsigned_abs y.num in
    divides_other n y.den (unsigned_abs x.num) (coprime_from_IsGcd n y.den r.1) (let swap : n * x.den ≡ y.den * unsigned_abs x.num = omega (arith, sizes_cross y x e) in subst (λ m. n ∣ m) swap (dvd-mul_right n x.den))

bottom_divides : (x y : Ratio) → IsReduced y → IsSame y x → y.den ∣ x.den
bottom_divides x y r e =
    let n = unsigned_abs y.num in
    divides_other y.den n x.den (coprime_swap n y.den (coprime_from_IsGcd n y.den r.1)) (let swap : y.den * unsigned_abs x.num ≡ n * x.den = omega (arith, sizes_cross y x e) in subst (λ m. y.den ∣ m) swap (dvd-mul_right y.den (unsigned_abs x.num)))

below_top : (m n : ℕ) → (k : ℕ) → n ∣ m → (m ≡ 0 → n ≡ 0) → m ≤ k → n ≤ k
below_top zero n k d z h = omega (arith, z refl)
below_top (suc m) n k d z h = omega (arith, le_of_dvd {m = n} {n = suc m} (omega arith) d)

zero_top : (n d m e : ℕ) → n * d ≡ m * e → 0 < d → m ≡ 0 → n ≡ 0
zero_top zero d m e h up z = refl
zero_top (suc n) d m e h up z = absurd (let k : suc n * d ≡ 0 * e = h ∙ ap (λ x. x * e) z in omega (arith, k))

pub fits : (x : Ratio) → IsNumber x → IsWithin x → ReducedFits x
fits x up within =
    let f = reduce x up in
    record {
      number = up;
      form = f.form;
      same = f.same;
      reduced = f.reduced;
      within = (below_top (unsigned_abs x.num) (unsigned_abs f.form.num) most (top_divides x f.form f.reduced f.same) (zero_top (unsigned_abs f.form.num) x.den (unsigned_abs x.num) f.form.den (sizes_cross f.form x f.same) up) within.0, omega (arith, le_of_dvd {m = f.form.den} {n = x.den} up (bottom_divides x f.form f.reduced f.same), within.1));
    }

pub no_err : {T E P : Type 0} (r : Result T E) → OnErr r (P → ⊥) → P → OnErr r ⊥
no_err (Ok x) h p = tt
no_err (Err e) h p = h p

pub times_one : (n : ℤ) → n *ℤ pos 1 ≡ n
times_one n = grind (arith, ints)

pub quotient_within : (n z : ℤ) (d : ℕ) → z ≡ pos d → unsigned_abs n ≤ most → 0 < d → d ≤ most → ReducedFits (quotient (whole n) (whole z))
quotient_within n z d e low up high =
    subst (λ w. ReducedFits (quotient (whole n) (whole w))) (sym e) (fits (quotient (whole n) (whole (pos d))) (omega arith) (rw (times_one n) low, omega arith))

-- what holds of the value in an Ok gives what holds of that in a Some
pub option_of : {T E : Type 0} (A P : T → Type 0) (Q : Type 0) (r : Result T E) (o : Option T) → ((x : T) → A x → P x) → IfOk r A → OnErr r ⊥ → o ≡ result_ok r → MatchOption o Q P
option_of A P Q (Ok x) o f h k e = rw e (f x h)
option_of A P Q (Err x) o f h k e = absurd k
