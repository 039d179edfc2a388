use Rattle.std.proofs.Common.{FitsSigned, w64, sym}
use Rattle.std.proofs.lemmas.Int.{to_z-of_z}
use Rattle.fraction.specs.Frac.{ratio}
use Rattle.common_rows.specs.Row.{over}
use Rattle.common_rows.specs.Accumulators.{sum_of}
use Rattle.common_rows.proofs.Accumulators.{factored, factored_fits, ok_by, err_by}
use Rattle.common_rows.proofs.accumulator.Accumulator.plus_quotient.Goals as goal

pub returns-clause-ok : goal.returns-clause-ok
returns-clause-ok c =
    let s = c.args.self in
    let a = c.fraction-a.result in
    let x = c.args.x.now in
    let fits_n : FitsSigned w64 c.args.n = c.ranges.n in
    let same = simp to_z-of_z at c.fraction-a.ensures in
    ok_by c.plus.result _ _ (λ r e. factored (sum_of s) (ratio a) (over c.args.n c.args.denom) (ratio x) s.above a.above c.requires x.above same (sum_of r) r.above e) c.plus.ensures.ok

pub returns-clause-fits : goal.returns-clause-fits
returns-clause-fits c =
    let s = c.args.self in
    let a = c.fraction-a.result in
    let x = c.args.x.now in
    let fits_n : FitsSigned w64 c.args.n = c.ranges.n in
    let same = simp to_z-of_z at c.fraction-a.ensures in
    ok_by c.plus.result _ _ (λ r t. factored_fits (sum_of s) (ratio a) (over c.args.n c.args.denom) (ratio x) s.above a.above c.requires x.above same t) c.plus.ensures.fits

pub returns-clause-wide : goal.returns-clause-wide
returns-clause-wide c =
    let s = c.args.self in
    let a = c.fraction-a.result in
    let x = c.args.x.now in
    let fits_n : FitsSigned w64 c.args.n = c.ranges.n in
    let same = simp to_z-of_z at c.fraction-a.ensures in
    err_by c.plus.result (λ w t. w (factored_fits (sum_of s) (over c.args.n c.args.denom) (ratio a) (ratio x) s.above c.requires a.above x.above (sym same) t)) c.plus.ensures.wide
