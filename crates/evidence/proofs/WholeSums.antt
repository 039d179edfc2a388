-- Sums of whole numbers, and the next whole number above a number.
use Rattle.std.proofs.Common.{◌≡◌, ℕ, zero, suc, ◌+◌, ◌*◌, ◌<◌, ℤ, pos, negsuc, neg_ℤ, ◌+ℤ◌, ◌*ℤ◌, ◌≤ℤ◌, ◌<ℤ◌, lit<, arith, refl, sym, subst}
use Rattle.std.specs.Prelude.{◌/◌}
use Rattle.std.specs.Int.{int_div_euclid}
use Rattle.std.proofs.Math.Nat.{lt-div-mul-add, suc-mul}
use Rattle.std.proofs.lemmas.Nat.{div-add-mod'}
use Rattle.std.proofs.lemmas.Int.{ints, by_lt_z}
use Rattle.rational.specs.Ratio.{Ratio, whole, sum, product, IsSame, IsNumber, IsFloor}
use Rattle.rational.proofs.Integers.{more-times, neg-times}
use Rattle.evidence.specs.Sums.{none, total, IsWhole, IsCeiling}
use Rattle.evidence.proofs.Numbers.{◌≈◌, ◌≲◌, ◌⋖◌, ≈-refl, ≈-sym, ◌⊙◌, ≲-from, ≲-trans, ⋖-≲, sum-≈, product-≈, product-none}
use Rattle.evidence.proofs.Totals.{total-number}
use Rattle.evidence.proofs.Columns.{none-number}

pub whole-number : (n : ℤ) → IsNumber (whole n)
whole-number n = lit< tt

pub near_whole : (x : Ratio) → IsNumber x → (w : IsWhole x) → x ≈ whole w.number
near_whole x p w = record { left = p; right = whole-number w.number; is = w.same }

-- a sum of whole numbers is whole
pub sum-whole : (x y : Ratio) → IsNumber x → IsNumber y → IsWhole x → IsWhole y → IsWhole (sum x y)
sum-whole x y p q v w =
    let all : sum x y ≈ sum (whole v.number) (whole w.number) = sum-≈ (near_whole x p v) (near_whole y q w) in
    let k : ℤ = (sum (whole v.number) (whole w.number)).num in
    record { number = k; same = all.is }

pub total-whole : (n : ℕ) (f : ℕ → Ratio) → ((j : ℕ) → IsNumber (f j)) → ((j : ℕ) → j < n → IsWhole (f j)) → IsWhole (total none n f)
total-whole zero f p w = record { number = pos 0; same = refl }
total-whole (suc n) f p w = sum-whole (total none n f) (f n) (total-number none n f none-number p) (p n) (total-whole n f p (λ j h. w j (omega arith))) (w n (omega arith))

pub product-whole : (c : ℤ) (x : Ratio) → IsNumber x → IsWhole x → IsWhole (product (whole c) x)
product-whole c x p w =
    let C : whole c ≈ whole c = ≈-refl (whole-number c) in
    let all : product (whole c) x ≈ product (whole c) (whole w.number) = product-≈ C (near_whole x p w) in
    let k : ℤ = (product (whole c) (whole w.number)).num in
    record { number = k; same = all.is }

pub no_product-whole : (c : ℤ) (x : Ratio) → IsNumber x → c ≡ pos 0 → IsWhole (product (whole c) x)
no_product-whole c x p e = rw e (let z = product-none x p in record { number = pos 0; same = z.is })

-- a whole number that isn't below x isn't below the next whole number
pub at_ceiling : (x : Ratio) (k n : ℤ) → IsCeiling x k → x ≲ whole n → k ≤ℤ n
at_ceiling x k n c h =
    by_lt_z n k
    (λ below.
    let t = more-times n (k +ℤ negsuc 0) x.den (omega (arith, ints)) in
    let up = h.is in
    let low = c.low in
    absurd (omega (arith, ints)))
    (λ done. done)

-- the same number has the same next whole number
pub same_ceiling : (x y : Ratio) (k : ℤ) → x ≈ y → IsCeiling x k → IsCeiling y k
same_ceiling x y k e c =
    let low = c.low in
    let high = c.high in
    let under : whole (k +ℤ negsuc 0) ⋖ x = record { left = whole-number (k +ℤ negsuc 0); right = e.left; is = omega (arith, ints) } in
    let over : x ≲ whole k = record { left = e.left; right = whole-number k; is = omega (arith, ints) } in
    let below = ⋖-≲ under (≲-from e) in
    let above = ≲-trans (≲-from (≈-sym e)) over in
    let b = below.is in
    let a = above.is in
    record { low = omega (arith, ints); high = omega (arith, ints) }

-- and each number has one
floor_at : (n : ℤ) (d : ℕ) → 0 < d → IsFloor (record { num = n; den = d }) (int_div_euclid n (pos d))
floor_at (pos n) d p =
    let a = div-add-mod' n d in
    let b : n < n / d * d + d = lt-div-mul-add p in
    let c = suc-mul (n / d) d in
    let q : pos (n / d) +ℤ pos 1 ≡ pos (suc (n / d)) = omega (arith, ints) in
    record { low = omega (arith, ints); high = subst (λ z. pos n <ℤ (z *ℤ pos d)) (sym q) (omega (arith, ints)) }
floor_at (negsuc n) d p =
    let a = div-add-mod' n d in
    let b : n < n / d * d + d = lt-div-mul-add p in
    let c = suc-mul (n / d) d in
    let q : negsuc (n / d) +ℤ pos 1 ≡ neg_ℤ (pos (n / d)) = omega (arith, ints) in
    let g = neg-times (pos (n / d)) (pos d) in
    record { low = omega (arith, ints); high = subst (λ z. negsuc n <ℤ (z *ℤ pos d)) (sym q) (omega (arith, ints)) }

pub next_whole : (x : Ratio) → IsNumber x → (k : ℤ) × IsCeiling x k
next_whole x p =
    let f : ℤ = int_div_euclid (neg_ℤ x.num) (pos x.den) in
    let b = floor_at (neg_ℤ x.num) x.den p in
    let low = b.low in
    let high = b.high in
    let e = neg-times f (pos x.den) in
    let g = neg-times (f +ℤ pos 1) (pos x.den) in
    let h : neg_ℤ f +ℤ negsuc 0 ≡ neg_ℤ (f +ℤ pos 1) = omega (arith, ints) in
    (neg_ℤ f, record { low = subst (λ z. (z *ℤ pos x.den) <ℤ x.num) (sym h) (omega (arith, ints)); high = omega (arith, ints) })

-- the same number is whole too
pub same-whole : (x y : Ratio) → x ≈ y → IsWhole y → IsWhole x
same-whole x y e w = let all = e ⊙ near_whole y e.right w in record { number = w.number; same = all.is }

pub product-wholes : (a x : Ratio) → IsNumber a → IsNumber x → IsWhole a → IsWhole x → IsWhole (product a x)
product-wholes a x pa p v w =
    let C : x ≈ x = ≈-refl p in
    same-whole (product a x) (product (whole v.number) x) (product-≈ (near_whole a pa v) C) (product-whole v.number x p w)

pub none_product-whole : (a x : Ratio) → IsNumber a → IsNumber x → IsSame a none → IsWhole (product a x)
none_product-whole a x pa p e =
    let C : x ≈ x = ≈-refl p in
    let here : a ≈ none = record { left = pa; right = none-number; is = e } in
    let z : product a x ≈ none = product-≈ here C ⊙ product-none x p in
    record { number = pos 0; same = z.is }
