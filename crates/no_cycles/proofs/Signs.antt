-- Signs of products, and what single columns need: which way a column can move on, and what the sign of a cost then is.
use Rattle.std.proofs.Common.{◌≡◌, ℕ, ◌<◌, ℤ, pos, negsuc, ◌*ℤ◌, neg_ℤ, ◌<ℤ◌, ◌≤ℤ◌, true, false, Option, None, Some, IfSome, IsSome, refl, ◌∙◌, ap, subst, arith}
use Rattle.std.proofs.Math.IntN.{zero-*ℤ}
use Rattle.std.proofs.lemmas.Int.{ints}
use Rattle.std.specs.Prelude.{int_lt}
use Rattle.rational.specs.Ratio.{Ratio, sum, product, negative, inverse, inverse_of, quotient, whole, IsNumber, IsSame, IsBelow, IsAtMost}
use Rattle.rational.proofs.Integers.{neg-times, times-neg, most-from_times}
use Rattle.evidence.specs.Sums.{is_below}
use Rattle.evidence.proofs.Numbers.{◌≈◌, ≈-refl, ≈-from, ◌⊙◌, ◌▹◌, product-≈, product_assoc, product_swap, product-number, product-one, sum-≈, sum-number, sum_assoc, sum_swap, sum-none}
use Rattle.evidence.proofs.Inverses.{inverse-number, product-inverse, sum-negative}
use Rattle.simplex_rules.specs.Statuses.{less}
use Rattle.simplex_rules.proofs.Facts.{below_no, not_below}

-- products of whole numbers
pub both_up : (a b : ℤ) → pos 0 ≤ℤ a → pos 0 ≤ℤ b → pos 0 ≤ℤ (a *ℤ b)
both_up (pos a) (pos b) h k = omega (arith, ints)
both_up (pos a) (negsuc b) h k = absurd (omega (arith, ints))
both_up (negsuc a) b h k = absurd (omega (arith, ints))

pub both_down : (a b : ℤ) → a ≤ℤ pos 0 → b ≤ℤ pos 0 → pos 0 ≤ℤ (a *ℤ b)
both_down a b h k =
    let up = both_up (neg_ℤ a) (neg_ℤ b) (omega (arith, ints)) (omega (arith, ints)) in
    let e = neg-times a (neg_ℤ b) in
    let f = times-neg a b in
    omega (arith, ints)

-- a factor above 0
pub zero_factor : (a : ℤ) (d : ℕ) → 0 < d → a *ℤ pos d ≡ pos 0 → a ≡ pos 0
zero_factor a d up e =
    let z = zero-*ℤ (pos d) in
    let low = most-from_times a (pos 0) d up (omega (arith, ints)) in
    let high = most-from_times (pos 0) a d up (omega (arith, ints)) in
    omega (arith, ints)

-- a difference is 0 between equal numbers alone
pub difference_zero : {e x : Ratio} → e ≈ x → (sum e (negative x)).num ≡ pos 0
difference_zero {e} {x} s = let f = neg-times x.num (pos e.den) in let g = s.is in omega (arith, ints)

pub zero_difference : (e x : Ratio) → IsNumber e → IsNumber x → (sum e (negative x)).num ≡ pos 0 → e ≈ x
zero_difference e x p q h = let f = neg-times x.num (pos e.den) in record { left = p; right = q; is = omega (arith, ints) }

-- a quotient
pub quotient_zero : (a by : Ratio) → a.num ≡ pos 0 → (quotient a by).num ≡ pos 0
quotient_zero a by h = ap (λ z. z *ℤ (inverse by).num) h ∙ zero-*ℤ (inverse by).num

pub zero_quotient : (a by : Ratio) → IsNumber by → (quotient a by).num ≡ pos 0 → a.num ≡ pos 0
zero_quotient a by p h = parts a.num by.num by.den p h
  where
    parts : (a z : ℤ) (d : ℕ) → 0 < d → a *ℤ (inverse_of z d).num ≡ pos 0 → a ≡ pos 0
    parts a (pos n) d p h = zero_factor a d p h
    parts a (negsuc n) d p h = zero_factor a d p (let f = times-neg a (pos d) in omega (arith, ints))

pub quotient_up : (a by : Ratio) → pos 0 ≤ℤ a.num → pos 0 ≤ℤ by.num → pos 0 ≤ℤ (quotient a by).num
quotient_up a by h k = parts a.num by.num by.den h k
  where
    parts : (a z : ℤ) (d : ℕ) → pos 0 ≤ℤ a → pos 0 ≤ℤ z → pos 0 ≤ℤ (a *ℤ (inverse_of z d).num)
    parts a (pos n) d h k = both_up a (pos d) h (omega (arith, ints))
    parts a (negsuc n) d h k = absurd (omega (arith, ints))

pub quotient_down : (a by : Ratio) → a.num ≤ℤ pos 0 → by.num <ℤ pos 0 → pos 0 ≤ℤ (quotient a by).num
quotient_down a by h k = parts a.num by.num by.den h k
  where
    parts : (a z : ℤ) (d : ℕ) → a ≤ℤ pos 0 → z <ℤ pos 0 → pos 0 ≤ℤ (a *ℤ (inverse_of z d).num)
    parts a (pos n) d h k = absurd (omega (arith, ints))
    parts a (negsuc n) d h k = both_down a (neg_ℤ (pos d)) h (omega (arith, ints))

-- an end is reached by the quotient of its distance
pub reach : (e x by : Ratio) → IsNumber e → IsNumber x → IsNumber by → (by.num ≡ pos 0 → ⊥) → sum x (product (quotient (sum e (negative x)) by) by) ≈ e
reach e x by pe px pb nz =
    let gap : Ratio = sum e (negative x) in
    let pg : IsNumber (sum e (negative x)) = sum-number e (negative x) pe px in
    let pi = inverse-number by nz in
    let back : product (quotient gap by) by ≈ gap =
    ≈-from (product-number (quotient gap by) by (product-number gap (inverse by) pg pi) pb) (product_assoc gap (inverse by) by)
    ⊙ product-≈ (≈-refl pg) (≈-from (product-number (inverse by) by pi pb) (product_swap (inverse by) by) ⊙ product-inverse by pb nz)
    ▹ (product_swap gap (whole (pos 1)) ∙ product-one gap) in
    sum-≈ (≈-refl px) back
    ▹ (sum_swap x (sum e (negative x)) ∙ sum_assoc e (negative x) x)
    ⊙ sum-≈ (≈-refl pe) (≈-from (sum-number (negative x) x px px) (sum_swap (negative x) x) ⊙ sum-negative x px)
    ▹ sum-none e

-- which end a column is at, and whether it has room
pub at_end : (o : Option Ratio) → IsSome o → (e : Ratio) × (o ≡ Some e)
at_end None h = absurd (cc)
at_end (Some e) h = (e, refl)

pub below_yes : (x y : Ratio) → is_below x y ≡ true → IsBelow x y
below_yes x y e = decide (x.num *ℤ pos y.den) (y.num *ℤ pos x.den) e
  where
    decide : (a b : ℤ) → int_lt a b ≡ true → a <ℤ b
    decide a b e = grind (arith, ints)

pub room_apart : (lo hi : Option Ratio) (l h : Ratio) → less lo hi ≡ true → lo ≡ Some l → hi ≡ Some h → h ≈ l → ⊥
room_apart None hi l h e p q s = absurd (cc)
room_apart (Some k) None l h e p q s = absurd (cc)
room_apart (Some k) (Some g) l h e p q s =
    let a : IsBelow k g = below_yes k g e in
    let kl : k ≡ l = cc in
    let gh : g ≡ h = cc in
    let b : IsBelow l h = subst (λ z. IsBelow l z) gh (subst (λ z. IsBelow z g) kl a) in
    let f = s.is in omega (arith, ints)

pub no_room : (lo hi : Option Ratio) → IfSome lo IsNumber → IfSome hi IsNumber → ((l h : Ratio) → lo ≡ Some l → hi ≡ Some h → IsBelow h l → ⊥) → (l : Ratio) → lo ≡ Some l → less lo hi ≡ false → (h : Ratio) × (hi ≡ Some h) × (h ≈ l)
no_room None hi p q r l s e = absurd (cc)
no_room (Some k) None p q r l s e = absurd (cc)
no_room (Some k) (Some h) p q r l s e =
    let a : IsAtMost h k = not_below k h (below_no k h e) in
    let b : IsAtMost k h = not_below h k (r k h refl refl) in
    let f : h ≈ k = record { left = q; right = p; is = let z : IsSame h k = omega (arith, ints) in z } in
    (h, refl, f ▹ (let kl : k ≡ l = cc in kl))
