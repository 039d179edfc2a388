use Rattle.std.proofs.Common.{FitsSigned, w64, rules}
use mir.Syntax.{w128}
use Rattle.std.proofs.lemmas.Int.{to_z-of_z}
use Rattle.fraction.specs.Frac.{ratio}
use Rattle.common_rows.specs.Row.{over}
use Rattle.rational.proofs.ReducedForms.{one_number}
use Rattle.common_rows.proofs.form.Form.of.Goals as goal

pub returns : goal.returns
returns c =
    let x = c.args.x.now in
    let fits_n : FitsSigned w64 c.in_ok-numer.numer = search rules in
    let fits : FitsSigned w128 x.numer = search rules in
    let numer = simp to_z-of_z at c.in_ok-numer.ensures in
    simp to_z-of_z (one_number (over c.in_ok-numer.numer c.in_ok-denom.denom) (ratio x) numer c.in_ok-denom.ensures)
