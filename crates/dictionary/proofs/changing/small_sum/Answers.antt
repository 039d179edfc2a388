use Rattle.std.proofs.Common.{◌+◌, ◌*◌, ◌^◌, ◌<◌, ℤ, ◌+ℤ◌, ◌*ℤ◌, FitsSigned, w64, rules, arith, refl}
use Rattle.std.specs.Prelude.{unsigned_abs}
use Rattle.std.proofs.lemmas.Int.{to_z-of_z, fits_signed_from_abs, unsigned_abs-mul}
use Rattle.common_rows.proofs.Fitting.{sum_size}
use Rattle.dictionary.proofs.changing.small_sum.Goals as goal

module _ (x s y k : ℤ) (small : unsigned_abs x * unsigned_abs s + unsigned_abs y * unsigned_abs k < 2 ^ 60) where
  left_fits : FitsSigned w64 (x *ℤ s)
  left_fits = fits_signed_from_abs w64 (x *ℤ s) (let e = unsigned_abs-mul x s in omega (arith, e))

  right_fits : FitsSigned w64 (y *ℤ k)
  right_fits = fits_signed_from_abs w64 (y *ℤ k) (let e = unsigned_abs-mul y k in omega (arith, e))

  sum_small : unsigned_abs (x *ℤ s +ℤ y *ℤ k) < 2 ^ 60
  sum_small = let e = unsigned_abs-mul x s in let f = unsigned_abs-mul y k in let t = sum_size (x *ℤ s) (y *ℤ k) (unsigned_abs x * unsigned_abs s) (unsigned_abs y * unsigned_abs k) (omega (arith, e)) (omega (arith, f)) in omega (arith, t)

  sum_fits : FitsSigned w64 (x *ℤ s +ℤ y *ℤ k)
  sum_fits = fits_signed_from_abs w64 (x *ℤ s +ℤ y *ℤ k) (let t = sum_small in omega (arith, t))

pub overflow_add-result : goal.overflow_add-result
overflow_add-result c =
    let x = c.args.x in
    let y = c.args.y in
    let s : ℤ = c.args.parts.scale in
    let k : ℤ = c.args.parts.factor in
    let fx : FitsSigned w64 x = c.ranges.x in
    let fy : FitsSigned w64 y = c.ranges.y in
    let fs : FitsSigned w64 s = search rules in
    let fk : FitsSigned w64 k = search rules in
    let left = left_fits x s y k c.requires in
    let right = right_fits x s y k c.requires in
    simp to_z-of_z (sum_fits x s y k c.requires)

pub returns : goal.returns
returns c =
    let x = c.args.x in
    let y = c.args.y in
    let s : ℤ = c.args.parts.scale in
    let k : ℤ = c.args.parts.factor in
    let fx : FitsSigned w64 x = c.ranges.x in
    let fy : FitsSigned w64 y = c.ranges.y in
    let fs : FitsSigned w64 s = search rules in
    let fk : FitsSigned w64 k = search rules in
    let left = left_fits x s y k c.requires in
    let right = right_fits x s y k c.requires in
    let all = sum_fits x s y k c.requires in
    let l = sum_small x s y k c.requires in
    let below : unsigned_abs (x *ℤ s +ℤ y *ℤ k) < 2 ^ 63 = omega (arith, l) in
    record { value = simp to_z-of_z refl; small = simp to_z-of_z below }
