-- The decimals of a fraction below 1, one digit after the other.
use Rattle.std.proofs.Common.{◌≡◌, ◌≢◌, ℕ, suc, ◌+◌, ◌-◌, ◌*◌, ◌^◌, ◌<◌, ◌≤◌, List, [], ◌∷◌, ◌++◌, length, take, slice_index, arith, refl, sym, ◌∙◌, ap, subst}
use Rattle.std.proofs.Math.Nat.{pow-suc}
use Rattle.std.specs.Char.{digit_value}
use Rattle.std.specs.Str.Parse.{AllDigits, digits_value}
use Rattle.std.proofs.lemmas.Int.Digits.{digits_push, digits_value_push}
use Rattle.std.proofs.lemmas.List.{length-append, take-append-le}
use Rattle.std.proofs.Math.Seq.{take-length, get_or-append_seam}

-- the digits so far, what is left, and how many of the digits stand before the zeros at their end
pub record Expanded (rest denom left used : ℕ) (digits : List ℕ) : Type 0 where
  pub are_digits : AllDigits 10 digits
  pub value : rest * 10 ^ length digits ≡ digits_value 10 digits * denom + left
  pub below : left < denom
  pub inside : used ≤ length digits
  pub last : slice_index (take used digits) (used - 1) ≢ 48
  pub above : 0 < used → 0 < digits_value 10 (take used digits)
  pub zeros : digits_value 10 digits ≡ digits_value 10 (take used digits) * 10 ^ (length digits - used)

pub no_digits : (rest denom : ℕ) → rest < denom → Expanded rest denom rest 0 []
no_digits rest denom low =
    record { are_digits = tt; value = omega arith; below = low; inside = omega arith; last = λ e. absurd (omega (arith, e)); above = λ up. absurd (omega arith); zeros = refl }

length_push : (ds : List ℕ) (b : ℕ) → length (ds ++ b ∷ []) ≡ suc (length ds)
length_push ds b = length-append ds (b ∷ []) ∙ omega arith

digit_of : (d : ℕ) → d < 10 → digit_value (48 + d) ≡ d
digit_of d low = search (arith)

next_value : (rest denom left p d after t : ℕ) → rest * t ≡ p * denom + left → 10 * left ≡ d * denom + after → rest * (t * 10) ≡ (p * 10 + d) * denom + after
next_value rest denom left p d after t e f = omega (arith, ap (λ x. x * 10) e, f)

pushed_value : (rest denom left used d after : ℕ) (ds : List ℕ) → Expanded rest denom left used ds → d < 10 → 10 * left ≡ d * denom + after → rest * 10 ^ length (ds ++ (48 + d) ∷ []) ≡ digits_value 10 (ds ++ (48 + d) ∷ []) * denom + after
pushed_value rest denom left used d after ds h low e =
    rw (length_push ds (48 + d), digits_value_push 10 ds (48 + d), digit_of d low, pow-suc 10 (length ds))
    (next_value rest denom left (digits_value 10 ds) d after (10 ^ length ds) h.value e)

-- a digit that isn't 0
another : (rest denom left used d after : ℕ) (ds : List ℕ) → Expanded rest denom left used ds → d < 10 → d ≢ 0 → 10 * left ≡ d * denom + after → after < denom → Expanded rest denom after (length ds + 1) (ds ++ (48 + d) ∷ [])
another rest denom left used d after ds h low other e small =
    let long : length (ds ++ (48 + d) ∷ []) ≡ length ds + 1 = length_push ds (48 + d) ∙ omega arith in
    let all : take (length ds + 1) (ds ++ (48 + d) ∷ []) ≡ ds ++ (48 + d) ∷ [] = ap (λ n. take n (ds ++ (48 + d) ∷ [])) (sym long) ∙ take-length (ds ++ (48 + d) ∷ []) in
    let none : length ds + 1 - (length ds + 1) ≡ 0 = omega arith in
    let one : length ds + 1 - 1 ≡ length ds = omega arith in
    record {
      are_digits = digits_push 10 ds (48 + d) h.are_digits (rw (digit_of d low) low);
      value = pushed_value rest denom left used d after ds h low e;
      below = small;
      inside = omega (arith, long);
      last = rw (all, one, get_or-append_seam ds (48 + d) [] 0) (λ f. other (omega (arith, f)));
      above = λ up. rw (all, digits_value_push 10 ds (48 + d), digit_of d low) (omega arith);
      zeros = rw (all, long, none) (omega arith);
    }

-- the same where the digits so far are i
pub another_at : (rest denom left used d after i : ℕ) (ds : List ℕ) → length ds ≡ i → Expanded rest denom left used ds → d < 10 → d ≢ 0 → 10 * left ≡ d * denom + after → after < denom → Expanded rest denom after (i + 1) (ds ++ (48 + d) ∷ [])
another_at rest denom left used d after i ds long h low other e small =
    subst (λ n. Expanded rest denom after (n + 1) (ds ++ (48 + d) ∷ [])) long (another rest denom left used d after ds h low other e small)

-- a 0
pub a_zero : (rest denom left used after : ℕ) (ds : List ℕ) → Expanded rest denom left used ds → 10 * left ≡ 0 * denom + after → after < denom → Expanded rest denom after used (ds ++ 48 ∷ [])
a_zero rest denom left used after ds h e small =
    let long : length (ds ++ 48 ∷ []) ≡ suc (length ds) = length_push ds 48 in
    let same : take used (ds ++ 48 ∷ []) ≡ take used ds = take-append-le used ds (48 ∷ []) h.inside in
    let low : 0 < 10 = omega arith in
    let more : suc (length ds) - used ≡ suc (length ds - used) = omega (arith, h.inside) in
    let t = 10 ^ (length ds - used) in
    let v = digits_value 10 (take used ds) in
    let step : v * t * 10 + 0 ≡ v * (t * 10) = omega arith in
    record {
      are_digits = digits_push 10 ds 48 h.are_digits (omega arith);
      value = pushed_value rest denom left used 0 after ds h low e;
      below = small;
      inside = omega (arith, long, h.inside);
      last = rw same h.last;
      above = rw same h.above;
      zeros = rw (same, long, more, pow-suc 10 (length ds - used), digits_value_push 10 ds 48) (ap (λ x. x * 10 + 0) h.zeros ∙ step);
    }
