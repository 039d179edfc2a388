use Rattle.std.proofs.Common.{FitsSigned, w64, rules}
use mir.Syntax.{w128}
use Rattle.std.specs.Prelude.{unsigned_abs}
use Rattle.std.proofs.lemmas.Int.{to_z-of_z}
use Rattle.fraction.specs.Frac.{ratio}
use Rattle.dictionary.proofs.NumbersOver.{made_over, none_over}
use Rattle.dictionary.proofs.numbers.number_over.Goals as goal

pub returns-clause-some : goal.returns-clause-some
returns-clause-some c =
    let v = c.args.value.now in
    let fits : FitsSigned w64 c.args.denom = c.ranges.denom in
    let own : FitsSigned w128 v.numer = search rules in
    let numer : FitsSigned w64 c.in_ok-numer.numer = search rules in
    let wide : FitsSigned w128 c.product.result = search rules in
    let whole = simp to_z-of_z at c.unsigned_abs-whole.ensures.value in
    let ek = simp to_z-of_z at c.in_ok-numer.ensures.some.0 in
    let em = simp to_z-of_z at c.product.ensures in
    made_over (ratio v) (unsigned_abs c.args.denom) c.unsigned_abs-whole.result whole _ _ ek em c.narrowed_size-2.result c.if-whole-value-ne0.false (simp to_z-of_z at c.narrowed_size-2.ensures.some)

pub returns-clause-none : goal.returns-clause-none
returns-clause-none c none =
    let v = c.args.value.now in
    let fits : FitsSigned w64 c.args.denom = c.ranges.denom in
    let own : FitsSigned w128 v.numer = search rules in
    let numer : FitsSigned w64 c.in_ok-numer.numer = search rules in
    let wide : FitsSigned w128 c.product.result = search rules in
    let whole = simp to_z-of_z at c.unsigned_abs-whole.ensures.value in
    let ek = simp to_z-of_z at c.in_ok-numer.ensures.some.0 in
    let em = simp to_z-of_z at c.product.ensures in
    none_over (ratio v) (unsigned_abs c.args.denom) c.unsigned_abs-whole.result whole _ _ ek em v.above (simp to_z-of_z at (c.narrowed_size-2.ensures.none none))
