use Rattle.std.proofs.Common.{FitsSigned, w64, arith}
use mir.Syntax.{w128}
use Rattle.std.proofs.lemmas.Int.{to_z-of_z}
use Rattle.fraction.proofs.Wholes.{narrow_size}
use Rattle.common_rows.proofs.Sizes.{widened}
use Rattle.dictionary.proofs.row.quotient.Goals as goal

pub reduced-requires-clause-above : goal.reduced-requires-clause-above
reduced-requires-clause-above c =
    let fits : FitsSigned w64 c.args.denom = c.ranges.denom in
    let wide : FitsSigned w128 c.args.denom = widened c.args.denom fits in
    simp to_z-of_z c.requires

pub reduced-requires-clause-fits : goal.reduced-requires-clause-fits
reduced-requires-clause-fits c =
    let fits : FitsSigned w64 c.args.numer = c.ranges.numer in
    let wide : FitsSigned w128 c.args.numer = widened c.args.numer fits in
    let size = narrow_size c.args.numer fits in
    simp to_z-of_z (omega (arith, size))

pub returns : goal.returns
returns c =
    let fits_n : FitsSigned w64 c.args.numer = c.ranges.numer in
    let fits_d : FitsSigned w64 c.args.denom = c.ranges.denom in
    let wide_n : FitsSigned w128 c.args.numer = widened c.args.numer fits_n in
    let wide_d : FitsSigned w128 c.args.denom = widened c.args.denom fits_d in
    simp to_z-of_z at c.reduced.ensures
