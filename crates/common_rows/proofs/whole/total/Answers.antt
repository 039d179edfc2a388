use Rattle.std.proofs.Common.{◌≤◌, ◌^◌, ◌+ℤ◌, FitsSigned, w64, rules, arith, ap}
use mir.Syntax.{w128}
use Rattle.std.specs.Prelude.{unsigned_abs}
use Rattle.std.proofs.lemmas.Int.{to_z-of_z}
use Rattle.rational.specs.Width.{most}
use Rattle.common_rows.proofs.Sizes.{total_fits, widened}
use Rattle.fraction.proofs.Wholes.{narrow_size}
use Rattle.common_rows.proofs.Fitting.{sum_size}
use Rattle.common_rows.proofs.whole.total.Goals as goal

pub overflow_add-result : goal.overflow_add-result
overflow_add-result c =
    let n : FitsSigned w64 c.args.n = c.ranges.n in
    let l = widened c.args.n n in
    let r : FitsSigned w128 c.product.result = search rules in
    let s = narrow_size c.args.n n in
    simp to_z-of_z (total_fits c.args.n c.product.result (omega (arith, s)) c.product.ensures.size)

pub returns-clause-size : goal.returns-clause-size
returns-clause-size c =
    let n : FitsSigned w64 c.args.n = c.ranges.n in
    let l = widened c.args.n n in
    let r : FitsSigned w128 c.product.result = search rules in
    let s = narrow_size c.args.n n in
    let t = sum_size c.args.n c.product.result (2 ^ 63) (2 ^ 126) s c.product.ensures.size in
    let within : unsigned_abs (c.args.n +ℤ c.product.result) ≤ most = omega (arith, t) in
    let fits = total_fits c.args.n c.product.result (omega (arith, s)) c.product.ensures.size in
    simp to_z-of_z within

pub returns-clause-value : goal.returns-clause-value
returns-clause-value c =
    let n : FitsSigned w64 c.args.n = c.ranges.n in
    let k : FitsSigned w64 c.args.k = c.ranges.k in
    let m : FitsSigned w64 c.args.m = c.ranges.m in
    let l = widened c.args.n n in
    let r : FitsSigned w128 c.product.result = search rules in
    let s = narrow_size c.args.n n in
    let fits = total_fits c.args.n c.product.result (omega (arith, s)) c.product.ensures.size in
    let value = simp to_z-of_z at c.product.ensures.value in
    simp to_z-of_z (ap (λ z. c.args.n +ℤ z) value)
