use Rattle.std.proofs.Common.{Fits, FitsSigned, ◌<◌, ◌≤◌, ◌^◌, ℤ, w64, rules, arith, sym, subst}
use mir.Syntax.{w128}
use Rattle.std.specs.Prelude.{unsigned_abs}
use Rattle.std.proofs.lemmas.Int.{to_z-of_z, to_z_pos}
use Rattle.rational.specs.Ratio.{whole, quotient}
use Rattle.rational.specs.Width.{most, ReducedFits}
use Rattle.common_rows.proofs.Sizes.{widened}
use Rattle.fraction.proofs.Wholes.{narrow_size}
use Rattle.common_rows.proofs.Accumulators.{quotient_fits}
use Rattle.common_rows.proofs.form.Form.fraction.Goals as goal

pub unreachable-requires : goal.unreachable-requires
unreachable-requires c =
    let s = c.args.self in
    let fits_n : FitsSigned w64 s.numer = search rules in
    let fits_d : Fits w64 s.denom = search rules in
    let small : s.denom < 2 ^ 127 = omega (arith, fits_d.fits) in
    let wide_n : FitsSigned w128 s.numer = widened s.numer fits_n in
    let size = narrow_size s.numer fits_n in
    let within : unsigned_abs s.numer ≤ most = omega (arith, size) in
    let wide = simp to_z-of_z at c.in-Err.ensures.wide in
    wide (subst (λ (z : ℤ). ReducedFits (quotient (whole s.numer) (whole z))) (sym (to_z_pos w128 s.denom small)) (quotient_fits s.numer s.denom s.above within (omega arith)))
