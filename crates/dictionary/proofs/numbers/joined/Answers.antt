use Rattle.std.proofs.Common.{◌≡◌, ℕ, ◌*◌, ◌<◌, ◌^◌, ℤ, pos, ◌<ℤ◌, Option, None, Some, IfSome, FitsSigned, w64, rules, arith, sym, subst}
use mir.Syntax.{w128}
use Rattle.std.specs.Prelude.{unsigned_abs}
use Rattle.std.specs.Int.{◌∣◌}
use Rattle.std.proofs.Math.Nat.{dvd-mul_right}
use Rattle.std.proofs.lemmas.Int.{to_z-of_z, to_z_pos}
use Rattle.std.proofs.lemmas.Nat.Gcd.{dvd_refl}
use Rattle.rational.specs.Whole.{IsLcm}
use Rattle.fraction.proofs.Multiples.{same_lcm}
use Rattle.common_rows.proofs.Sizes.{widened}
use Rattle.dictionary.proofs.numbers.joined.Goals as goal
use Rattle.dictionary.proofs.numbers.joined.Goals.{In-Ok}

pub lcm-requires-clause-a_above : goal.lcm-requires-clause-a_above
lcm-requires-clause-a_above c =
    let fits : FitsSigned w64 c.args.all = c.ranges.all in
    let wide : FitsSigned w128 c.args.all = widened c.args.all fits in
    simp to_z-of_z c.requires.all

-- a number is the least multiple of itself and 1
lcm_one : (n : ℕ) → IsLcm n 1 n
lcm_one n = (dvd_refl n, let e : 1 * n ≡ n = omega arith in subst (λ k. 1 ∣ k) e (dvd-mul_right 1 n), λ k a b. a)

-- a number that was narrowed is above 0 as before, and a multiple
above : (o : Option ℤ) (n : ℤ) → pos 0 <ℤ n → IfSome o (λ k. (k ≡ n) × (unsigned_abs n < 2 ^ 63)) → IfSome o (λ k. pos 0 <ℤ k)
above None n up h = tt
above (Some k) n up h = subst (λ z. pos 0 <ℤ z) (sym h.0) up

narrow : (o : Option ℤ) (a b : ℕ) (n : ℤ) → IsLcm a b (unsigned_abs n) → IfSome o (λ k. (k ≡ n) × (unsigned_abs n < 2 ^ 63)) → IfSome o (λ k. IsLcm a b (unsigned_abs k))
narrow None a b n is h = tt
narrow (Some k) a b n is h = subst (λ z. IsLcm a b (unsigned_abs z)) (sym h.0) is

pub returns-then-denom-eq1-clause-some : goal.returns-then-denom-eq1-clause-some
returns-then-denom-eq1-clause-some c =
    let fits : FitsSigned w64 c.args.all = c.ranges.all in
    simp to_z-of_z (subst (λ d. IsLcm (unsigned_abs c.args.all) d (unsigned_abs c.args.all)) (sym c.if-denom-eq1.true) (lcm_one (unsigned_abs c.args.all)))

-- the multiple of both
multiple : (c : In-Ok) → IsLcm (unsigned_abs c.args.all) c.args.denom (unsigned_abs c.in-Ok.m)
multiple c =
    let fits : FitsSigned w64 c.args.all = c.ranges.all in
    let wide : FitsSigned w128 c.args.all = widened c.args.all fits in
    let m : FitsSigned w128 c.in-Ok.m = search rules in
    let small : c.args.denom < 2 ^ 127 = let l = c.requires.within in omega arith in
    let told = simp to_z-of_z at c.in-Ok.ensures.ok in
    subst (λ z. IsLcm (unsigned_abs c.args.all) (unsigned_abs z) (unsigned_abs c.in-Ok.m)) (to_z_pos w128 c.args.denom small) told

pub returns-in-Ok-clause-above : goal.returns-in-Ok-clause-above
returns-in-Ok-clause-above c =
    let fits : FitsSigned w128 c.in-Ok.m = search rules in
    above c.narrowed_size.result c.in-Ok.m c.in-Ok.ensures.above (simp to_z-of_z at c.narrowed_size.ensures.some)

pub returns-in-Ok-clause-some : goal.returns-in-Ok-clause-some
returns-in-Ok-clause-some c =
    let fits : FitsSigned w128 c.in-Ok.m = search rules in
    narrow c.narrowed_size.result (unsigned_abs c.args.all) c.args.denom c.in-Ok.m (multiple (goal.at.returns-in-Ok-clause-some c).In-Ok) (simp to_z-of_z at c.narrowed_size.ensures.some)

pub returns-in-Ok-clause-none : goal.returns-in-Ok-clause-none
returns-in-Ok-clause-none c none m is =
    let fits : FitsSigned w128 c.in-Ok.m = search rules in
    let told = simp to_z-of_z at c.narrowed_size.ensures.none in
    let low = told none in
    let same = same_lcm (unsigned_abs c.args.all) c.args.denom m (unsigned_abs c.in-Ok.m) is (multiple (goal.at.returns-in-Ok-clause-none c).In-Ok) in
    omega arith

pub returns-in-Err-clause-none : goal.returns-in-Err-clause-none
returns-in-Err-clause-none c none m is =
    let fits : FitsSigned w64 c.args.all = c.ranges.all in
    let wide : FitsSigned w128 c.args.all = widened c.args.all fits in
    let small : c.args.denom < 2 ^ 127 = let l = c.requires.within in omega arith in
    let told = simp to_z-of_z at c.in-Err.ensures.wide in
    let most = told m (subst (λ z. IsLcm (unsigned_abs c.args.all) (unsigned_abs z) m) (sym (to_z_pos w128 c.args.denom small)) is) in
    omega arith
