use Rattle.std.proofs.Common.{FitsSigned, ℤ, sym, subst}
use mir.Syntax.{w128}
use Rattle.std.specs.Prelude.{unsigned_abs}
use Rattle.std.proofs.lemmas.Int.{to_z-of_z}
use Rattle.rational.specs.Ratio.{whole, quotient}
use Rattle.rational.specs.Width.{ReducedFits}
use Rattle.common_rows.proofs.Accumulators.{quotient_fits}
use Rattle.dictionary.proofs.RowForms.{sized, sized_above, sized_most, lowest_by}
use Rattle.dictionary.proofs.row.reduced.Goals as goal

pub returns-in-Ok : goal.returns-in-Ok
returns-in-Ok c =
    let n : FitsSigned w128 c.args.numer = c.ranges.numer in
    let d : FitsSigned w128 c.args.denom = c.ranges.denom in
    lowest_by c.in-Ok.x c.args.numer c.args.denom c.requires.above (simp to_z-of_z at c.in-Ok.ensures.ok)

pub returns-in-Err : goal.returns-in-Err
returns-in-Err c =
    let n = c.args.numer in
    let d = c.args.denom in
    let fits_n : FitsSigned w128 n = c.ranges.numer in
    let fits_d : FitsSigned w128 d = c.ranges.denom in
    let no = simp to_z-of_z at c.in-Err.ensures.wide in
    let P : ℤ → Type 0 = λ z. ReducedFits (quotient (whole n) (whole z)) in
    absurd (no (subst P (sym (sized d c.requires.above)) (quotient_fits n (unsigned_abs d) (sized_above d c.requires.above) c.requires.fits (sized_most d fits_d c.requires.above))))
