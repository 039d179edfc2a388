-- Whatever form a number has, and however its cut was found, the cut is its leading digits.
use Rattle.std.proofs.Common.{◌≡◌, ℕ, zero, suc, ◌+◌, ◌*◌, ◌/◌, ◌^◌, ◌<◌, ◌≤◌, ℤ, pos, negsuc, ◌+ℤ◌, unsigned_abs, refl, sym, ◌∙◌, ap, subst, pow_pos, pow-add, arith}
use Rattle.std.proofs.Math.Nat.{mul-le-mul_left}
use Rattle.std.proofs.lemmas.Int.{ints}
use Rattle.std.proofs.lemmas.Nat.{shr_split, div-add-mod'}
use Rattle.rational.specs.Ratio.{Ratio, IsSame}
use Rattle.scores.specs.declared.score.Score.{Score}
use Rattle.scores.specs.Leading.{shift_of, scaled, dropped}
use Rattle.scores.specs.Scores.{times_power, IsLeading, IsCut}
use Rattle.scores.specs.Scores.IsCut.{zero_so, digits_so}
use Rattle.scores.proofs.Cuts.{Cuts, one_cut, cuts_more, leading_cuts}

same_up : (d top s r m : ℕ) → d ≡ top → m + s ≡ r → d * 2 ^ m * 2 ^ s ≡ top * 2 ^ r * 1
same_up d top s r m e h =
    let power : 2 ^ r ≡ 2 ^ m * 2 ^ s = ap (λ (n : ℕ). 2 ^ n) (sym h) ∙ pow-add 2 m s in
    let digits : d * (2 ^ m * 2 ^ s) ≡ top * (2 ^ m * 2 ^ s) = ap (λ (n : ℕ). n * (2 ^ m * 2 ^ s)) e in
    let same : top * 2 ^ r ≡ top * (2 ^ m * 2 ^ s) = ap (λ (n : ℕ). top * n) power in
    omega (arith, digits, same)

same_down : (d top s r m : ℕ) → d ≡ top → s ≡ r + suc m → d * 2 ^ s ≡ top * 2 ^ r * 2 ^ suc m
same_down d top s r m e h =
    let power : 2 ^ s ≡ 2 ^ r * 2 ^ suc m = ap (λ (n : ℕ). 2 ^ n) h ∙ pow-add 2 r (suc m) in
    let digits : d * 2 ^ s ≡ top * 2 ^ s = ap (λ (n : ℕ). n * 2 ^ s) e in
    let same : top * 2 ^ s ≡ top * (2 ^ r * 2 ^ suc m) = ap (λ (n : ℕ). top * n) power in
    omega (arith, digits, same)

same_number : (d top s r a b : ℕ) (p : ℤ) → p +ℤ pos b ≡ pos a → d ≡ top → a + s ≡ r + b → IsSame (times_power d p) (record { num = pos (top * 2 ^ r); den = 2 ^ s })
same_number d top s r a b (pos m) h e o = ap pos (same_up d top s r m e (omega (arith, ints, h, o)))
same_number d top s r a b (negsuc m) h e o = ap pos (same_down d top s r m e (omega (arith, ints, h, o)))

-- a number with a cut isn't 0
some_by : (y den d a b : ℕ) → 0 < den → Cuts (y * 2 ^ b) den d a → 0 < y
some_by zero den d a b above c =
    let many : 1 ≤ d = let h = c.many in omega (arith, h) in
    let one : 2 ^ a * 1 ≤ 2 ^ a * den = mul-le-mul_left (2 ^ a) (let h : 1 ≤ den = above in h) in
    let more : 2 ^ a * den * 1 ≤ 2 ^ a * den * d = mul-le-mul_left (2 ^ a * den) many in
    let some = pow_pos a in
    let low = c.low in
    absurd (omega (arith, one, more, some, low))
some_by (suc y) den d a b above c = omega arith

-- the cut of a number at any power is its leading digits
pub leads : (x : Ratio) → 0 < x.den → (d a b : ℕ) (p : ℤ) → p +ℤ pos b ≡ pos a → Cuts (unsigned_abs x.num * 2 ^ b) x.den d a → IsLeading x (record { digits = d; power = p })
leads x above d a b p h c =
    let n = unsigned_abs x.num in
    let s = shift_of x in
    let top = scaled x / 2 ^ dropped x in
    let some : 0 < n = some_by n x.den d a b above c in
    let turned : n * 2 ^ b * 2 ^ s ≡ n * 2 ^ s * 2 ^ b = omega arith in
    let first = subst (λ (m : ℕ). Cuts m x.den d (a + s)) turned (cuts_more (n * 2 ^ b) x.den d a s c) in
    let second = cuts_more (n * 2 ^ s) x.den top (dropped x) b (leading_cuts x some above) in
    let o = one_cut (n * 2 ^ s * 2 ^ b) x.den d top (a + s) (dropped x + b) first second in
    record { cut = digits_so c.many c.few; same = same_number d top s (dropped x) a b p h o.0 o.1 }

none_of : (n k : ℕ) → 0 < k → n * k ≡ 0 → n ≡ 0
none_of zero k some e = omega arith
none_of (suc n) k some e = absurd (omega (arith, e))

-- 0 has no digits
pub leads_none : (x : Ratio) → 0 < x.den → unsigned_abs x.num ≡ 0 → IsLeading x (record { digits = 0; power = pos 0 })
leads_none x above e =
    let s = 2 ^ shift_of x in
    let t = div-add-mod' (unsigned_abs x.num * s) x.den in
    let z : unsigned_abs x.num * s ≡ 0 = ap (λ (m : ℕ). m * s) e ∙ (let o : 0 * s ≡ 0 = omega arith in o) in
    let q : scaled x ≡ 0 = none_of (scaled x) x.den above (omega (arith, t, z)) in
    let parts = shr_split (scaled x) (dropped x) in
    let w : scaled x / 2 ^ dropped x * 2 ^ dropped x ≡ 0 = omega (arith, parts, q) in
    record {
      cut = zero_so refl refl;
      same = ap pos (let o : 0 * s ≡ scaled x / 2 ^ dropped x * 2 ^ dropped x * 1 = omega (arith, w) in o);
    }

-- a score is the leading digits of each number that it is
pub own_leads : (s : Score) → IsCut s → (x : Ratio) → 0 < x.den → (a b : ℕ) → s.power +ℤ pos b ≡ pos a → unsigned_abs x.num * 2 ^ b ≡ s.digits * 2 ^ a * x.den → IsLeading x s
own_leads s c x above a b e h = elim c [
  | zero_so none flat ↦
      let z : unsigned_abs x.num * 2 ^ b ≡ 0 = h ∙ ap (λ (m : ℕ). m * 2 ^ a * x.den) none ∙ (let o : 0 * 2 ^ a * x.den ≡ 0 = omega arith in o) in
      subst (λ (d : ℕ). IsLeading x (record { digits = d; power = s.power })) (sym none)
      (subst (λ (p : ℤ). IsLeading x (record { digits = 0; power = p })) (sym flat) (leads_none x above (none_of (unsigned_abs x.num) (2 ^ b) (pow_pos b) z)))
  | digits_so many few ↦
      let one : 2 ^ a * 1 ≤ 2 ^ a * x.den = mul-le-mul_left (2 ^ a) (let g : 1 ≤ x.den = above in g) in
      let some = pow_pos a in
      leads x above s.digits a b s.power e (record { many = many; few = few; low = omega (arith, h); high = omega (arith, h, one, some) })
]
