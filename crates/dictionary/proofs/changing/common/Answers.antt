use Rattle.std.proofs.Common.{◌^◌, ◌<◌, ℤ, pos, ◌<ℤ◌, Fits, w64, rules, arith, subst, to_z}
use mir.Syntax.{w128}
use Rattle.std.proofs.Math.Nat.{div-le_self}
use Rattle.std.proofs.lemmas.Int.{to_z_pos, ints}
use Rattle.rational.specs.Ratio.{whole, quotient, IsSame}
use Rattle.fraction.specs.Frac.{ratio}
use Rattle.dictionary.proofs.Parts.{often_above, part_denom}
use Rattle.dictionary.proofs.changing.common.Goals as goal

pub overflow_cast-result : goal.overflow_cast-result
overflow_cast-result c =
    let a = c.args.a in
    let b = c.args.b in
    let x = c.in-Ok.x in
    let fits : Fits w64 b = search rules in
    let small : b < 2 ^ 127 = omega (arith, fits.fits) in
    let above : pos 0 <ℤ pos b = let l = c.requires in omega (arith, ints) in
    let same = subst (λ (z : ℤ). IsSame (ratio x) (quotient (whole (to_z w128 a)) (whole z))) (to_z_pos w128 b small) c.in-Ok.ensures.ok in
    let low = part_denom x (to_z w128 a) (pos b) above same in
    record { fits = omega (arith, low, fits.fits) }

pub returns-in-Ok-clause-above : goal.returns-in-Ok-clause-above
returns-in-Ok-clause-above c =
    let a = c.args.a in
    let b = c.args.b in
    let x = c.in-Ok.x in
    let fits : Fits w64 b = search rules in
    let small : b < 2 ^ 127 = omega (arith, fits.fits) in
    let above : pos 0 <ℤ pos b = let l = c.requires in omega (arith, ints) in
    let same = subst (λ (z : ℤ). IsSame (ratio x) (quotient (whole (to_z w128 a)) (whole z))) (to_z_pos w128 b small) c.in-Ok.ensures.ok in
    often_above x (to_z w128 a) (pos b) above same

pub returns-in-Ok-clause-most : goal.returns-in-Ok-clause-most
returns-in-Ok-clause-most c = div-le_self c.args.b c.in-Ok.x.denom
