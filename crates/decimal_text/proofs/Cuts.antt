-- A number cut towards zero to twelve decimals.
use Rattle.std.proofs.Common.{◌≡◌, ◌≢◌, ℕ, zero, suc, ◌+◌, ◌-◌, ◌*◌, ◌/◌, ◌%◌, ◌^◌, ◌<◌, ◌≤◌, ◌⊎◌, inl, inr, Bool, true, false, ℤ, pos, negsuc, ◌*ℤ◌, ◌<ℤ◌, ◌≤ℤ◌, List, [], ◌∷◌, length, take, arith, refl, sym, ◌∙◌, ap, ap₂, subst}
use Rattle.std.specs.Prelude.{unsigned_abs}
use Rattle.std.specs.Str.Parse.{AllDigits, digits_value}
use Rattle.std.proofs.Math.Nat.{div-add-mod'}
use Rattle.std.proofs.lemmas.Nat.{div-mul-add, pow-add}
use Rattle.std.proofs.lemmas.Int.{ints}
use Rattle.rational.specs.Ratio.{IsSame}
use Rattle.rational.specs.Whole.{signed}
use Rattle.rational.proofs.Signs.{signed-mul, unsigned_abs-signed}
use Rattle.decimal_text.specs.Plain.{cut12_of, cut12}

pub AllDigits-take : (r n : ℕ) (ds : List ℕ) → AllDigits r ds → AllDigits r (take n ds)
AllDigits-take r zero ds h = tt
AllDigits-take r (suc n) [] h = tt
AllDigits-take r (suc n) (d ∷ ds) h = (h.0, AllDigits-take r n ds h.1)

-- the sign and the size of what is cut
cut_below : (z : ℤ) (d : ℕ) → z <ℤ pos 0 → cut12_of z d ≡ signed true (unsigned_abs z * 10 ^ 12 / d)
cut_below (pos n) d low = absurd (omega (arith, ints, low))
cut_below (negsuc n) d low = refl

cut_above : (z : ℤ) (d : ℕ) → pos 0 ≤ℤ z → cut12_of z d ≡ signed false (unsigned_abs z * 10 ^ 12 / d)
cut_above (pos n) d low = refl
cut_above (negsuc n) d low = absurd (omega (arith, ints, low))

joined : (size whole rest d t v left : ℕ) → whole * d + rest ≡ size → rest * t ≡ v * d + left → size * t ≡ (whole * t + v) * d + left
joined size whole rest d t v left e f = omega (arith, ap (λ x. x * t) e, f)

-- the size, by its whole part and its digits
cut_size : (size d v left : ℕ) → left < d → (size % d) * 10 ^ 12 ≡ v * d + left → size * 10 ^ 12 / d ≡ size / d * 10 ^ 12 + v
cut_size size d v left low e =
    ap (λ x. x / d) (joined size (size / d) (size % d) d (10 ^ 12) v left (div-add-mod' size d) e) ∙ div-mul-add (size / d * 10 ^ 12 + v) d left low

spread : (w a b v : ℕ) → (w * a + v) * (a * b) ≡ (w * (a * b) + v * b) * a
spread w a b v = omega arith

-- the parts of a cut number's text
pub record IsCut (z : ℤ) (d : ℕ) (used : ℕ) (shown : List ℕ) : Type 0 where
  pub long : length shown ≡ used
  pub inside : used ≤ 12
  pub above : 0 < used → 0 < digits_value 10 shown
  pub size : unsigned_abs z * 10 ^ 12 / d ≡ unsigned_abs z / d * 10 ^ 12 + digits_value 10 shown * 10 ^ (12 - used)

pub cut_parts : (z : ℤ) (d v left used : ℕ) (shown : List ℕ) → left < d → (unsigned_abs z % d) * 10 ^ 12 ≡ v * d + left → length shown ≡ used → used ≤ 12 → (0 < used → 0 < digits_value 10 shown) → v ≡ digits_value 10 shown * 10 ^ (12 - used) → IsCut z d used shown
cut_parts z d v left used shown low e long inside above zeros =
    record { long = long; inside = inside; above = above; size = cut_size (unsigned_abs z) d v left low e ∙ ap (λ x. unsigned_abs z / d * 10 ^ 12 + x) zeros }

power_split : (used : ℕ) → used ≤ 12 → 10 ^ 12 ≡ 10 ^ used * 10 ^ (12 - used)
power_split used h = let e : used + (12 - used) ≡ 12 = omega (arith, h) in ap (λ n. 10 ^ n) (sym e) ∙ pow-add 10 used (12 - used)

-- the shown size times twelve tens is the cut size times the shown places
sizes : (z : ℤ) (d used : ℕ) (shown : List ℕ) → IsCut z d used shown → (unsigned_abs z / d * 10 ^ used + digits_value 10 shown) * 10 ^ 12 ≡ unsigned_abs z * 10 ^ 12 / d * 10 ^ used
sizes z d used shown h =
    let e = power_split used h.inside in
    ap (λ x. (unsigned_abs z / d * 10 ^ used + digits_value 10 shown) * x) e
    ∙ spread (unsigned_abs z / d) (10 ^ used) (10 ^ (12 - used)) (digits_value 10 shown)
    ∙ ap (λ x. (unsigned_abs z / d * x + digits_value 10 shown * 10 ^ (12 - used)) * 10 ^ used) (sym e)
    ∙ ap (λ x. x * 10 ^ used) (sym h.size)

-- both under one sign
same_under : (z : ℤ) (d used : ℕ) (shown : List ℕ) (s : Bool) → IsCut z d used shown → cut12_of z d ≡ signed s (unsigned_abs z * 10 ^ 12 / d) → IsSame (record { num = signed s (unsigned_abs z / d * 10 ^ used + digits_value 10 shown); den = 10 ^ used }) (cut12 (record { num = z; den = d }))
same_under z d used shown s h e =
    signed-mul s (unsigned_abs z / d * 10 ^ used + digits_value 10 shown) (10 ^ 12)
    ∙ ap (signed s) (sizes z d used shown h)
    ∙ sym (signed-mul s (unsigned_abs z * 10 ^ 12 / d) (10 ^ used))
    ∙ ap (λ x. x *ℤ pos (10 ^ used)) (sym e)

empty : (shown : List ℕ) → length shown ≡ 0 → shown ≡ []
empty [] e = refl
empty (b ∷ shown) e = absurd (omega (arith, e))

-- a size of 0 has either sign
nothing_left : (z : ℤ) (d used : ℕ) (shown : List ℕ) → IsCut z d used shown → unsigned_abs z / d ≡ 0 → used ≡ 0 → unsigned_abs z * 10 ^ 12 / d ≡ 0
nothing_left z d used shown h none zeros =
    let e = empty shown (h.long ∙ zeros) in
    let f : digits_value 10 shown ≡ 0 = ap (λ ds. digits_value 10 ds) e in
    h.size ∙ ap₂ (λ a b. a * 10 ^ 12 + b * 10 ^ (12 - used)) none f ∙ omega arith

zero_sign : (s : Bool) → signed s 0 ≡ pos 0
zero_sign true = refl
zero_sign false = refl

either_sign : (z : ℤ) (d : ℕ) → unsigned_abs z * 10 ^ 12 / d ≡ 0 → cut12_of z d ≡ signed false (unsigned_abs z * 10 ^ 12 / d)
either_sign (pos n) d e = refl
either_sign (negsuc n) d e = ap (signed true) e ∙ zero_sign true ∙ sym (zero_sign false) ∙ sym (ap (signed false) e)

sign_of : (z : ℤ) (d used : ℕ) (shown : List ℕ) (s : Bool) → IsCut z d used shown
    → (s ≡ true → (z <ℤ pos 0) × ((unsigned_abs z / d ≡ 0) × (used ≡ 0) → ⊥)) → (s ≡ false → (pos 0 ≤ℤ z) ⊎ ((unsigned_abs z / d ≡ 0) × (used ≡ 0)))
    → cut12_of z d ≡ signed s (unsigned_abs z * 10 ^ 12 / d)
sign_of z d used shown true h signed_so plain_so = cut_below z d (signed_so refl).0
sign_of z d used shown false h signed_so plain_so =
    elim (plain_so refl) [
      | inl low ↦ cut_above z d low
      | inr none ↦ either_sign z d (nothing_left z d used shown h none.0 none.1)
    ]

pub cut_same : (z : ℤ) (d used : ℕ) (shown : List ℕ) (s : Bool) → IsCut z d used shown
    → (s ≡ true → (z <ℤ pos 0) × ((unsigned_abs z / d ≡ 0) × (used ≡ 0) → ⊥)) → (s ≡ false → (pos 0 ≤ℤ z) ⊎ ((unsigned_abs z / d ≡ 0) × (used ≡ 0)))
    → IsSame (record { num = signed s (unsigned_abs z / d * 10 ^ length shown + digits_value 10 shown); den = 10 ^ length shown }) (cut12 (record { num = z; den = d }))
cut_same z d used shown s h signed_so plain_so =
    subst (λ n. IsSame (record { num = signed s (unsigned_abs z / d * 10 ^ n + digits_value 10 shown); den = 10 ^ n }) (cut12 (record { num = z; den = d }))) (sym h.long)
    (same_under z d used shown s h (sign_of z d used shown s h signed_so plain_so))

some_size : (w t v b used : ℕ) → 0 < t → 0 < b → ((w ≡ 0) × (used ≡ 0) → ⊥) → (0 < used → 0 < v) → w * t + v * b ≡ 0 → ⊥
some_size (suc w) (suc t) v b used up high some above e = omega (arith, e)
some_size (suc w) zero v b used up high some above e = omega (arith, up)
some_size zero t v b zero up high some above e = some (refl, refl)
some_size zero t zero b (suc used) up high some above e = let k = above (omega arith) in omega (arith, k)
some_size zero t (suc v) zero (suc used) up high some above e = omega (arith, high)
some_size zero t (suc v) (suc b) (suc used) up high some above e = omega (arith, e)

power_above : (n : ℕ) → 0 < 10 ^ n
power_above zero = omega arith
power_above (suc n) = let k = power_above n in omega (arith, k)

-- a text with a sign isn't zero's
pub cut_below_zero : (z : ℤ) (d used : ℕ) (shown : List ℕ) (s : Bool) → IsCut z d used shown
    → (s ≡ true → (z <ℤ pos 0) × ((unsigned_abs z / d ≡ 0) × (used ≡ 0) → ⊥)) → s ≡ true → cut12_of z d ≢ pos 0
cut_below_zero z d used shown s h signed_so e f =
    let facts = signed_so e in
    let g : unsigned_abs z * 10 ^ 12 / d ≡ 0 = sym (unsigned_abs-signed true (unsigned_abs z * 10 ^ 12 / d)) ∙ ap unsigned_abs (sym (cut_below z d facts.0) ∙ f) in
    some_size (unsigned_abs z / d) (10 ^ 12) (digits_value 10 shown) (10 ^ (12 - used)) used (power_above 12) (power_above (12 - used)) facts.1 h.above (sym h.size ∙ g)
