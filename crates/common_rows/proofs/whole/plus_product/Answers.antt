use Rattle.std.proofs.Common.{◌≡◌, ◌+ℤ◌, ◌*ℤ◌, ◌∙◌, FitsSigned, w64, rules}
use mir.Syntax.{w128}
use Rattle.std.proofs.lemmas.Int.{to_z-of_z}
use Rattle.fraction.proofs.Wholes.{narrow_size}
use Rattle.common_rows.proofs.Wholes.{whole_sum, whole_fits}
use Rattle.common_rows.proofs.whole.plus_product.Goals as goal

pub returns-clause-ok : goal.returns-clause-ok
returns-clause-ok c =
    let n = c.in-Some.n in
    let k = c.in-Some-narrow.k in
    let m = c.in-Some-narrow-2.m in
    let fits_n : FitsSigned w64 n = search rules in
    let fits_k : FitsSigned w64 k = search rules in
    let fits_m : FitsSigned w64 m = search rules in
    let fits : FitsSigned w128 c.total.result = search rules in
    let value : c.total.result ≡ n +ℤ k *ℤ m = simp to_z-of_z at c.total.ensures.value in
    let numer : c.whole.result.numer ≡ c.total.result = simp to_z-of_z at c.whole.ensures.numer in
    whole_sum c.whole.result c.args.start c.args.a c.args.x n k m c.in-Some.ensures.whole c.in-Some.ensures.number c.in-Some-narrow.ensures.whole c.in-Some-narrow.ensures.number c.in-Some-narrow-2.ensures.whole c.in-Some-narrow-2.ensures.number c.whole.ensures.denom (numer ∙ value)

pub returns-clause-fits : goal.returns-clause-fits
returns-clause-fits c =
    let n = c.in-Some.n in
    let k = c.in-Some-narrow.k in
    let m = c.in-Some-narrow-2.m in
    let fits_n : FitsSigned w64 n = search rules in
    let fits_k : FitsSigned w64 k = search rules in
    let fits_m : FitsSigned w64 m = search rules in
    whole_fits c.args.start c.args.a c.args.x n k m c.in-Some.ensures.whole c.in-Some.ensures.number c.in-Some-narrow.ensures.whole c.in-Some-narrow.ensures.number c.in-Some-narrow-2.ensures.whole c.in-Some-narrow-2.ensures.number (narrow_size n fits_n) (narrow_size k fits_k) (narrow_size m fits_m)
