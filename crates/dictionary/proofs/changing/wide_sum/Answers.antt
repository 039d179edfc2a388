use Rattle.std.proofs.Common.{◌≤◌, ℤ, ◌+ℤ◌, ◌*ℤ◌, FitsSigned, w64, rules, arith, refl}
use mir.Syntax.{w128}
use Rattle.std.specs.Prelude.{unsigned_abs}
use Rattle.std.proofs.lemmas.Int.{to_z-of_z, fits_signed_from_abs}
use Rattle.rational.specs.Width.{most}
use Rattle.fraction.proofs.Wholes.{narrow_size}
use Rattle.common_rows.proofs.Sizes.{widened, product_fits}
use Rattle.dictionary.proofs.Parts.{sum_most}
use Rattle.dictionary.proofs.changing.wide_sum.Goals as goal

total_fits : (z : ℤ) → unsigned_abs z ≤ most → FitsSigned w128 z
total_fits z l = fits_signed_from_abs w128 z (omega (arith, l))

pub returns : goal.returns
returns c =
    let x = c.args.x in
    let y = c.args.y in
    let s : ℤ = c.args.parts.scale in
    let k : ℤ = c.args.parts.factor in
    let fx : FitsSigned w64 x = c.ranges.x in
    let fy : FitsSigned w64 y = c.ranges.y in
    let fs : FitsSigned w64 s = search rules in
    let fk : FitsSigned w64 k = search rules in
    let wx = widened x fx in
    let wy = widened y fy in
    let ws = widened s fs in
    let wk = widened k fk in
    let left = product_fits x s fx fs in
    let right = product_fits y k fy fk in
    let l = sum_most x y s k c.requires.x c.requires.y (narrow_size s fs) (narrow_size k fk) in
    let all = total_fits (x *ℤ s +ℤ y *ℤ k) l in
    record { value = simp to_z-of_z refl; size = simp to_z-of_z l }

pub overflow_add-result : goal.overflow_add-result
overflow_add-result c =
    let x = c.args.x in
    let y = c.args.y in
    let s : ℤ = c.args.parts.scale in
    let k : ℤ = c.args.parts.factor in
    let fx : FitsSigned w64 x = c.ranges.x in
    let fy : FitsSigned w64 y = c.ranges.y in
    let fs : FitsSigned w64 s = search rules in
    let fk : FitsSigned w64 k = search rules in
    let wx = widened x fx in
    let wy = widened y fy in
    let ws = widened s fs in
    let wk = widened k fk in
    let left = product_fits x s fx fs in
    let right = product_fits y k fy fk in
    simp to_z-of_z (total_fits (x *ℤ s +ℤ y *ℤ k) (sum_most x y s k c.requires.x c.requires.y (narrow_size s fs) (narrow_size k fk)))
