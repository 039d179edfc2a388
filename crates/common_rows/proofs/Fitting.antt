-- Numbers over one denominator whose parts are small: what is stated of them fits.
use Rattle.std.proofs.Common.{◌≡◌, ℕ, ◌+◌, ◌-◌, ◌*◌, ◌/◌, ◌^◌, ◌<◌, ◌≤◌, ℤ, pos, negsuc, ◌+ℤ◌, ◌*ℤ◌, arith, refl, sym, ◌∙◌, ap, ap₂, subst}
use Rattle.std.specs.Prelude.{unsigned_abs}
use Rattle.std.specs.Int.{IsGcd, ◌∣◌}
use Rattle.std.proofs.Math.Nat.{mul-pos, mul-le-mul, mul-le-mul_left, le-mul_of_pos_right, div-mul_cancel, div-le_self, dvd-mul_left, pos_of_dvd_of_pos}
use Rattle.std.proofs.lemmas.Int.{ints, unsigned_abs-mul}
use Rattle.std.proofs.lemmas.Nat.Gcd.{le_of_dvd}
use Rattle.rational.specs.Ratio.{Ratio, product, IsSame, IsNumber}
use Rattle.rational.specs.Width.{left_term, right_term, AreFourWithin, SumFits, ReducedFits, IsReduced, most}
use Rattle.rational.proofs.CommonDivisors.{coprime_swap, coprime_from_IsGcd, divides_other}
use Rattle.rational.proofs.ReducedForms.{reduce, quotient_above}
use Rattle.rational.proofs.Scaling.{add-times, times-times, same_multiple, IsSame-trans}
use Rattle.rational.proofs.Signs.{sizes_cross}
use Rattle.fraction.proofs.Multiples.{lcm_by_gcd}
use Rattle.evidence.specs.Width.{TermFits}
use Rattle.common_rows.specs.Row.{over}

-- a number is at least as large as one that it is a multiple of
smaller : (u v : ℤ) (t : ℕ) → 0 < t → u *ℤ pos t ≡ v → unsigned_abs u ≤ unsigned_abs v
smaller u v t up e =
    let k : unsigned_abs u * t ≡ unsigned_abs v = sym (unsigned_abs-mul u (pos t)) ∙ ap unsigned_abs e in
    let le = le-mul_of_pos_right (unsigned_abs u) up in
    omega arith

-- the denominator of a reduced form divides that of each form
divides_form : (r : Ratio) (a : ℤ) (c : ℕ) → IsReduced r → IsSame r (over a c) → r.den ∣ c
divides_form r a c red same =
    let e = sizes_cross r (over a c) same in
    divides_other r.den (unsigned_abs r.num) c (coprime_swap (unsigned_abs r.num) r.den (coprime_from_IsGcd (unsigned_abs r.num) r.den red.1))
    (subst (λ x. r.den ∣ x) (sym e) (dvd-mul_left r.den (unsigned_abs a)))

-- a form's numerator is that of the reduced form times how often the denominator goes
numerator : (r : Ratio) (a : ℤ) (c k : ℕ) → 0 < r.den → IsSame r (over a c) → c ≡ k * r.den → r.num *ℤ pos k ≡ a
numerator r a c k up same e =
    same_multiple (r.num *ℤ pos k) a r.den up (times-times r.num k r.den ∙ ap (λ x. r.num *ℤ pos x) (sym e) ∙ same)

pub reduced_fits : (x : Ratio) → IsNumber x → unsigned_abs x.num ≤ most → x.den ≤ most → ReducedFits x
reduced_fits x up num den =
    let f = reduce x up in
    let d : f.form.den ∣ x.den = divides_form f.form x.num x.den f.reduced f.same in
    let k : ℕ = x.den / f.form.den in
    let e : x.den ≡ k * f.form.den = sym (div-mul_cancel f.form.den d) in
    let n = numerator f.form x.num x.den k f.reduced.0 f.same e in
    let s = smaller f.form.num x.num k (quotient_above f.form.den x.den d up) n in
    let le = le_of_dvd up d in
    record { number = up; form = f.form; same = f.same; reduced = f.reduced; within = (omega (arith, s, num), omega (arith, le, den)) }

turn : (d t : ℕ) → d * t ≡ t * d
turn d t = omega arith

above_gcd : (a b g : ℕ) → 0 < a → IsGcd a b g → 0 < g
above_gcd a b g up p = pos_of_dvd_of_pos p.0 up

group : (t b g d : ℕ) → t * (b * (d * g)) ≡ t * d * (b * g)
group t b g d = omega arith

group_right : (t b y : ℕ) → t * (b * y) ≡ t * b * y
group_right t b y = omega arith

-- the four whole numbers of a sum, by a denominator that both terms have
four_within : (r q : Ratio) (a b : ℤ) (c g h : ℕ) → 0 < c → IsReduced r → IsReduced q → IsSame r (over a c) → IsSame q (over b c) → IsGcd r.den q.den g → IsGcd (unsigned_abs (left_term r q g +ℤ right_term r q g)) g h → unsigned_abs a ≤ most → unsigned_abs b ≤ most → unsigned_abs (a +ℤ b) ≤ most → c ≤ most → AreFourWithin r q g h
four_within r q a b c g h above red red' same same' isg ish la lb lt lc =
    let up : 0 < g = above_gcd r.den q.den g red.0 isg in
    let m : ℕ = r.den / g * q.den in
    let d : ℕ = q.den / g in
    let n : ℕ = r.den / g in
    let least = lcm_by_gcd r.den q.den g up isg in
    let part : m ∣ c = least.2 c (divides_form r a c red same) (divides_form q b c red' same') in
    let t : ℕ = c / m in
    let e : t * m ≡ c = div-mul_cancel m part in
    let high : 0 < m = mul-pos (quotient_above g r.den isg.0 red.0) red'.0 in
    let often : 0 < t = quotient_above m c part above in
    let left_is : c ≡ t * d * r.den =
    sym e ∙ ap (λ x. t * (n * x)) (sym (div-mul_cancel g isg.1)) ∙ group t n g d ∙ ap (λ x. t * d * x) (div-mul_cancel g isg.0) in
    let right_is : c ≡ t * n * q.den = sym e ∙ group_right t n q.den in
    let left : left_term r q g *ℤ pos t ≡ a = times-times r.num d t ∙ ap (λ x. r.num *ℤ pos x) (turn d t) ∙ numerator r a c (t * d) red.0 same left_is in
    let right : right_term r q g *ℤ pos t ≡ b = times-times q.num n t ∙ ap (λ x. q.num *ℤ pos x) (turn n t) ∙ numerator q b c (t * n) red'.0 same' right_is in
    let whole : (left_term r q g +ℤ right_term r q g) *ℤ pos t ≡ a +ℤ b = add-times (left_term r q g) (right_term r q g) t ∙ ap₂ (λ x y. x +ℤ y) left right in
    let s = smaller (left_term r q g) a t often left in
    let s' = smaller (right_term r q g) b t often right in
    let s'' = smaller (left_term r q g +ℤ right_term r q g) (a +ℤ b) t often whole in
    let below : n * (q.den / h) ≤ m = mul-le-mul_left n (div-le_self q.den h) in
    let all : m ≤ c = le_of_dvd above part in
    record {
      left = omega (arith, s, la);
      right = omega (arith, s', lb);
      total = omega (arith, s'', lt);
      below = omega (arith, below, all, lc);
    }

pub sum_fits_over : (x y : Ratio) (a b : ℤ) (c : ℕ) → IsNumber x → IsNumber y → 0 < c → IsSame x (over a c) → IsSame y (over b c) → unsigned_abs a ≤ most → unsigned_abs b ≤ most → unsigned_abs (a +ℤ b) ≤ most → c ≤ most → SumFits x y
sum_fits_over x y a b c nx ny above sx sy la lb lt lc =
    record {
      left = nx;
      right = ny;
      by = λ r q red red' same same' g h isg ish.
          four_within r q a b c g h above red red' (IsSame-trans r x (over a c) nx same sx) (IsSame-trans q y (over b c) ny same' sy) isg ish la lb lt lc;
    }

pub sum_size : (a b : ℤ) (m n : ℕ) → unsigned_abs a ≤ m → unsigned_abs b ≤ n → unsigned_abs (a +ℤ b) ≤ m + n
sum_size (pos a) (pos b) m n p q = omega (arith, p, q)
sum_size (pos a) (negsuc b) m n p q = omega (arith, ints, p, q)
sum_size (negsuc a) (pos b) m n p q = omega (arith, ints, p, q)
sum_size (negsuc a) (negsuc b) m n p q = omega (arith, p, q)

first_same : (n : ℤ) (d p : ℕ) → IsSame (over n d) (over (n *ℤ pos p) (d * p))
first_same n d p = ap (λ x. n *ℤ pos x) (turn d p) ∙ sym (times-times n p d)

-- what a pivot states of an entry n of a row over d, whose entry at the entering column is f, and of an entry m of the entering column's row over p
pub term_fits : (n f m : ℤ) (d p : ℕ) → 0 < d → 0 < p → d < 2 ^ 63 → p < 2 ^ 63 → unsigned_abs n ≤ 2 ^ 63 → unsigned_abs f ≤ 2 ^ 63 → unsigned_abs m ≤ 2 ^ 63 → TermFits (over n d) (over f d) (over m p)
term_fits n f m d p ud up ld lp ln lf lm =
    let c : ℕ = d * p in
    let above : 0 < c = mul-pos ud up in
    let dd : d ≤ 2 ^ 63 - 1 = omega (arith, ld) in
    let pp : p ≤ 2 ^ 63 - 1 = omega (arith, lp) in
    let kc = mul-le-mul dd pp in
    let kl = mul-le-mul ln pp in
    let kr = mul-le-mul lf lm in
    let sl : unsigned_abs (n *ℤ pos p) ≤ 2 ^ 63 * (2 ^ 63 - 1) = subst (λ x. x ≤ 2 ^ 63 * (2 ^ 63 - 1)) (sym (unsigned_abs-mul n (pos p))) kl in
    let sr : unsigned_abs (f *ℤ m) ≤ 2 ^ 63 * 2 ^ 63 = subst (λ x. x ≤ 2 ^ 63 * 2 ^ 63) (sym (unsigned_abs-mul f m)) kr in
    let st = sum_size (n *ℤ pos p) (f *ℤ m) (2 ^ 63 * (2 ^ 63 - 1)) (2 ^ 63 * 2 ^ 63) sl sr in
    let lc : c ≤ most = omega (arith, kc) in
    let lr : unsigned_abs (f *ℤ m) ≤ most = omega (arith, sr) in
    record {
      term = λ _ _. reduced_fits (product (over f d) (over m p)) above lr lc;
      sum = λ _ _. sum_fits_over (over n d) (product (over f d) (over m p)) (n *ℤ pos p) (f *ℤ m) c ud above above (first_same n d p) refl (omega (arith, sl)) lr (omega (arith, st)) lc;
    }
