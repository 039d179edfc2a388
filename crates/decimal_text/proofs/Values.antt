-- The value of a decimal's digits and exponent.
use Rattle.std.proofs.Common.{◌≡◌, ◌≢◌, ℕ, ◌+◌, ◌*◌, ◌-◌, ◌%◌, ◌^◌, ◌<◌, ◌≤◌, inl, inr, Bool, true, false, cond, List, ◌++◌, pos, refl, ap, sym, ◌∙◌, subst, arith, lit<, lit≤, Option, Some, None}
use Rattle.std.proofs.Math.Nat.{le-mul_of_pos_right}
use Rattle.std.proofs.lemmas.Bool.Decides.{leb_tells}
use Rattle.std.specs.Str.Parse.{digits_value, digits_value_after}
use Rattle.std.proofs.lemmas.Nat.{pow-add}
use Rattle.rational.specs.Ratio.{IsSame}
use Rattle.rational.specs.Width.{most}
use Rattle.rational.specs.Whole.{signed}
use Rattle.rational.proofs.Signs.{same_form}
use Rattle.decimal_text.specs.Decimal.{powered, HasFit, HasNoFit}
use Rattle.decimal_text.specs.Parts.{IsSignificand}
use Rattle.decimal_text.proofs.Numerals.{after-append}
use Rattle.decimal_text.proofs.Powers.{ten_power, far, above_short}
use Rattle.decimal_text.proofs.Forms.{up_wide, down_wide}

pub no_digits : IsSignificand 0 (Some 0) 0
no_digits = record { size = 0; value = refl; short = inr (refl, refl); keeps = (refl, lit≤ tt) }

pub all_digits : (before after : List ℕ) (kept_before kept : Option ℕ) (zeros_before zeros : ℕ) → ((v : ℕ) → IsSignificand v (Some 0) 0 → IsSignificand (digits_value_after 10 v before) kept_before zeros_before) → ((v : ℕ) → IsSignificand v kept_before zeros_before → IsSignificand (digits_value_after 10 v after) kept zeros) → IsSignificand (digits_value 10 (before ++ after)) kept zeros
all_digits before after kept_before kept zeros_before zeros f g = subst (λ n. IsSignificand n kept zeros) (sym (after-append 0 before after)) (g (digits_value_after 10 0 before) (f 0 no_digits))

shift : (v size zeros a : ℕ) → v ≡ size * 10 ^ zeros → v * 10 ^ a ≡ size * 10 ^ (zeros + a)
shift v size zeros a e = ap (λ n. n * 10 ^ a) e ∙ (let m : size * 10 ^ zeros * 10 ^ a ≡ size * (10 ^ zeros * 10 ^ a) = omega arith in m) ∙ ap (λ n. size * n) (sym (pow-add 10 zeros a))

pub powered_shift : (negative : Bool) (v size zeros a b : ℕ) → v ≡ size * 10 ^ zeros → powered negative v a b ≡ powered negative size (zeros + a) b
powered_shift negative v size zeros a b e = ap (λ n. record { num = signed negative n; den = 10 ^ b }) (shift v size zeros a e)

pub great_wide : (negative : Bool) (n a b : ℕ) → n % 10 ≢ 0 → most < n → HasNoFit (powered negative n a b)
great_wide negative n a b s h =
    elim (leb_tells b a) as (λ _. HasNoFit (powered negative n a b)) [
      | inl le ↦ up_wide negative n a b le.1 s (let k : n ≤ n * 10 ^ (a - b) = le-mul_of_pos_right n (ten_power (a - b)) in omega (arith, h, k))
      | inr gt ↦ down_wide negative n a b (let k = gt.1 in omega (arith, k)) s (inl h)
    ]

above : (n : ℕ) → n % 10 ≢ 0 → 0 < n
above n s = omega (arith, s)

pub far_up : (negative : Bool) (n a b : ℕ) → n % 10 ≢ 0 → b + 38 < a → HasNoFit (powered negative n a b)
far_up negative n a b s h =
    let k : most < 10 ^ (a - b) = far (a - b) (omega arith) in
    let up : 0 < n = above n s in
    up_wide negative n a b (omega arith) s (let m : 10 ^ (a - b) ≤ 10 ^ (a - b) * n = le-mul_of_pos_right (10 ^ (a - b)) up in omega (arith, k, m))

pub far_down : (negative : Bool) (n a b : ℕ) → n % 10 ≢ 0 → a + 38 < b → HasNoFit (powered negative n a b)
far_down negative n a b s h = down_wide negative n a b (omega arith) s (inr (far (b - a) (omega arith)))

zero_cross : (v a b : ℕ) → v ≡ 0 → 0 * 10 ^ b ≡ v * 10 ^ a * 1
zero_cross v a b z = omega (arith, ap (λ n. n * 10 ^ a) z)

zero_same : (negative : Bool) (v a b : ℕ) → v ≡ 0 → IsSame (record { num = pos 0; den = 1 }) (powered negative v a b)
zero_same true v a b z = same_form true 0 1 (v * 10 ^ a) (10 ^ b) (zero_cross v a b z)
zero_same false v a b z = same_form false 0 1 (v * 10 ^ a) (10 ^ b) (zero_cross v a b z)

pub zero_fit : (negative : Bool) (v a b : ℕ) → v ≡ 0 → HasFit (powered negative v a b) (record { num = pos 0; den = 1 })
zero_fit negative v a b z = record {
  number = lit< tt;
  same = zero_same negative v a b z;
  form = record { negative = false; n = 0; k = pos 0; shortest = inr (refl, refl); same = zero_same negative v a b z };
  fits = (lit≤ tt, lit≤ tt);
}

pub none_wide : (negative : Bool) (v zeros : ℕ) (kept : Option ℕ) (a b : ℕ) → IsSignificand v kept zeros → kept ≡ None → HasNoFit (powered negative v a b)
none_wide negative v zeros kept a b s e =
    let t : IsSignificand v None zeros = subst (λ k. IsSignificand v k zeros) e s in
    subst (λ w. HasNoFit w) (sym (powered_shift negative v t.size zeros a b t.value)) (great_wide negative t.size (zeros + a) b (above_short v zeros None (λ h. cc) t) t.keeps)

-- a size that is kept
pub record IsSize (v m zeros : ℕ) : Type 0 where
  pub small : m ≤ most
  pub value : v ≡ m * 10 ^ zeros
  pub short : (m ≡ 0 → ⊥) → m % 10 ≢ 0

pub size_of : (v zeros m : ℕ) (kept : Option ℕ) → IsSignificand v kept zeros → kept ≡ Some m → IsSize v m zeros
size_of v zeros m kept s e =
    let t : IsSignificand v (Some m) zeros = subst (λ k. IsSignificand v k zeros) e s in
    record {
      small = t.keeps.1;
      value = t.value ∙ ap (λ n. n * 10 ^ zeros) (sym t.keeps.0);
      short = λ n. subst (λ k. k % 10 ≢ 0) (sym t.keeps.0) (above_short v zeros (Some m) (λ h. n (cc)) t);
    }

pub zero_value : (v m zeros : ℕ) → IsSize v m zeros → m ≡ 0 → v ≡ 0
zero_value v m zeros s z = let e : v ≡ 0 * 10 ^ zeros = s.value ∙ ap (λ n. n * 10 ^ zeros) z in omega (arith, e)

pub far_wide : (negative is_down : Bool) (v m zeros len power : ℕ) → IsSize v m zeros → (m ≡ 0 → ⊥) → zeros ≤ 2 ^ 80 → len ≤ 2 ^ 80 → 2 ^ 100 < power → HasNoFit (powered negative v (cond is_down 0 power) (len + cond is_down power 0))
far_wide negative true v m zeros len power s n z l h = subst (λ w. HasNoFit w) (sym (powered_shift negative v m zeros 0 (len + power) s.value)) (far_down negative m (zeros + 0) (len + power) (s.short n) (omega arith))
far_wide negative false v m zeros len power s n z l h = subst (λ w. HasNoFit w) (sym (powered_shift negative v m zeros power (len + 0) s.value)) (far_up negative m (zeros + power) (len + 0) (s.short n) (omega arith))

pub down_same : (negative is_down : Bool) (v m high len power exponent : ℕ) → is_down ≡ true → IsSize v m high → power ≡ exponent → powered negative v (cond is_down 0 exponent) (len + cond is_down exponent 0) ≡ powered negative m high (len + power)
down_same negative false v m high len power exponent h s e = cc
down_same negative true v m high len power exponent h s e =
    powered_shift negative v m high 0 (len + exponent) s.value ∙ (ap (λ a. powered negative m a (len + exponent)) (let k : high + 0 ≡ high = omega arith in k) ∙ ap (λ x. powered negative m high (len + x)) (sym e))

pub up_same : (negative is_down : Bool) (v m high len power exponent : ℕ) → is_down ≡ false → IsSize v m high → power ≡ exponent → powered negative v (cond is_down 0 exponent) (len + cond is_down exponent 0) ≡ powered negative m (high + power) len
up_same negative true v m high len power exponent h s e = cc
up_same negative false v m high len power exponent h s e =
    powered_shift negative v m high exponent (len + 0) s.value ∙ (ap (λ b. powered negative m (high + exponent) b) (let k : len + 0 ≡ len = omega arith in k) ∙ ap (λ x. powered negative m (high + x) len) (sym e))
