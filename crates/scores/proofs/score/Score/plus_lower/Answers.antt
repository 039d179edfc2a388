use Rattle.std.proofs.Common.{◌≡◌, ℕ, ◌+◌, ◌-◌, ◌*◌, ◌%◌, ◌^◌, ◌<◌, ◌≤◌, inl, inr, ℤ, ◌-ℤ◌, unsigned_abs, w64, to_z, of_z, ◌∙◌, ap, pow_mono, arith}
use Rattle.std.proofs.Math.Nat.{mul-le-mul_left}
use Rattle.std.proofs.lemmas.Int.{ints}
use Rattle.scores.proofs.Parts.{sum_shifted, sum_drops, sum_length, product_above}
use Rattle.scores.proofs.score.Score.plus_lower.Goals as goal

pub returns-then-apart-clause-leading : goal.returns-then-apart-clause-leading
returns-then-apart-clause-leading c =
    let s = c.args.self in
    let o = c.args.other in
    sum_drops s c.requires.cut.0 c.requires.cut.1 o.digits (unsigned_abs (s.power -ℤ o.power) - 32) o.power c.requires.by_cut.1 (omega (arith, ints))

-- what is cut, without the width
moved : (n m : ℕ) (p q z : ℤ) → z ≡ p -ℤ q → n < 2 ^ 31 → unsigned_abs (p -ℤ q) ≤ 31 → n * 2 ^ unsigned_abs z % 2 ^ 64 + m ≡ n * 2 ^ unsigned_abs (p -ℤ q) + m
moved n m p q z e few near =
    let t = unsigned_abs (p -ℤ q) in
    let a : n * 2 ^ t ≤ n * 2 ^ 31 = mul-le-mul_left n (pow_mono near) in
    ap (λ (x : ℤ). n * 2 ^ unsigned_abs x % 2 ^ 64 + m) e ∙ (let g : n * 2 ^ t % 2 ^ 64 + m ≡ n * 2 ^ t + m = omega (arith, a, few) in g)

pub returns-clause-leading : goal.returns-clause-leading
returns-clause-leading c =
    let s = c.args.self in
    let o = c.args.other in
    let w = moved s.digits o.digits s.power o.power (to_z w64 (of_z w64 (to_z w64 (of_z w64 s.power) -ℤ to_z w64 (of_z w64 o.power)))) (omega (arith, ints)) c.requires.cut.1 (omega (arith, ints)) in
    c.cut.ensures.leading _ (product_above s.digits o.digits s.power o.power)
    (sum_shifted s.digits o.digits (unsigned_abs (s.power -ℤ o.power)) _ s.power o.power _ w (omega (arith, ints)) (omega (arith, ints)))

pub returns-clause-near : goal.returns-clause-near
returns-clause-near c =
    let s = c.args.self in
    let o = c.args.other in
    let t = unsigned_abs (s.power -ℤ o.power) in
    let w = moved s.digits o.digits s.power o.power (to_z w64 (of_z w64 (to_z w64 (of_z w64 s.power) -ℤ to_z w64 (of_z w64 o.power)))) (omega (arith, ints)) c.requires.cut.1 (omega (arith, ints)) in
    let a : 2 ^ 30 * 1 ≤ 2 ^ 30 * 2 ^ t = mul-le-mul_left (2 ^ 30) (pow_mono (let g : 0 ≤ t = omega arith in g)) in
    let b : 2 ^ t * 2 ^ 30 ≤ 2 ^ t * s.digits = mul-le-mul_left (2 ^ t) c.requires.cut.0 in
    let l = c.cut.ensures.long (omega (arith, w, a, b)) in
    elim (sum_length s.digits o.digits t l.0 _ c.requires.cut.0 c.requires.cut.1 c.requires.by_cut.1 w l.2 l.3) [
      | inl e ↦ inl (omega (arith, ints, l.1, e))
      | inr e ↦ inr (omega (arith, ints, l.1, e))
    ]
