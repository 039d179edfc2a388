use Rattle.std.proofs.Common.{FitsSigned, ◌<◌, ◌^◌, ℤ, pos, rules, arith, sym, subst}
use mir.Syntax.{w128}
use Rattle.std.proofs.lemmas.Int.{to_z-of_z, to_z_pos}
use Rattle.rational.specs.Ratio.{whole, quotient}
use Rattle.rational.specs.Width.{ReducedFits}
use Rattle.common_rows.proofs.Accumulators.{quotient_fits}
use Rattle.common_rows.proofs.accumulator.Accumulator.fraction.Goals as goal

pub unreachable-requires : goal.unreachable-requires
unreachable-requires c =
    let s = c.args.self in
    let fits : FitsSigned w128 s.numer = search rules in
    let above : FitsSigned w128 (pos s.denom) = search rules in
    let small : s.denom < 2 ^ 127 = omega (arith, s.denom_within) in
    let wide = simp to_z-of_z at c.in-Err.ensures.wide in
    wide (subst (λ (z : ℤ). ReducedFits (quotient (whole s.numer) (whole z))) (sym (to_z_pos w128 s.denom small)) (quotient_fits s.numer s.denom s.above s.numer_within s.denom_within))
