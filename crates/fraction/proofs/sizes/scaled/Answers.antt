use Rattle.std.proofs.Common.{◌≤◌, ◌∙◌, pos, ◌*ℤ◌, arith, sym, ap}
use Rattle.std.specs.Int.{w128}
use Rattle.std.specs.Prelude.{unsigned_abs}
use Rattle.std.proofs.lemmas.Int.{to_z-of_z, unsigned_abs-mul, fits_signed_from_abs}
use Rattle.rational.specs.Width.{most}
use Rattle.rational.proofs.Signs.{signed-mul, unsigned_abs-signed}
use Rattle.fraction.proofs.Forms.{at_err}
use Rattle.fraction.proofs.Wholes.{kept, product_kept}
use Rattle.fraction.proofs.sizes.scaled.Goals as goal

pub overflow_mul-result : goal.overflow_mul-result
overflow_mul-result c =
    let p = product_kept c.args.a c.args.by c.ranges.a c.if-a.true c.if-a-2.true c.if-by.true in
    rw p.0 (fits_signed_from_abs w128 (c.args.a *ℤ pos c.args.by) (omega (arith, p.1)))

pub returns-then-by-clause-value : goal.returns-then-by-clause-value
returns-then-by-clause-value c =
    let p = product_kept c.args.a c.args.by c.ranges.a c.if-a.true c.if-a-2.true c.if-by.true in
    rw p.0 (kept (c.args.a *ℤ pos c.args.by) p.1)

pub returns-then-by-clause-small : goal.returns-then-by-clause-small
returns-then-by-clause-small c =
    let p = product_kept c.args.a c.args.by c.ranges.a c.if-a.true c.if-a-2.true c.if-by.true in
    rw (p.0, kept (c.args.a *ℤ pos c.args.by) p.1) p.1

pub returns-in_err-size-clause-wide : goal.returns-in_err-size-clause-wide
returns-in_err-size-clause-wide c =
    let same = to_z-of_z w128 c.args.a c.ranges.a in
    let past = rw (c.size_of.ensures, same) at c.in_err-size.ensures.wide in
    at_err c.from_residual.result (rw (unsigned_abs-mul c.args.a (pos c.args.by)) past)

pub returns-clause-value : goal.returns-clause-value
returns-clause-value c =
    let same = to_z-of_z w128 c.args.a c.ranges.a in
    let form = rw same at c.is_negative.ensures in
    let size = rw (c.size_of.ensures, same) at c.in_ok-size.ensures.value in
    let whole = rw size at c.signed.ensures in
    let small : unsigned_abs c.signed.result ≤ most =
    rw (c.signed.ensures, unsigned_abs-signed c.is_negative.result c.in_ok-size.size) c.in_ok-size.ensures.small in
    kept c.signed.result small
    ∙ whole
    ∙ sym (signed-mul c.is_negative.result (unsigned_abs c.args.a) c.args.by)
    ∙ ap (λ z. z *ℤ pos c.args.by) (sym form)

pub returns-clause-small : goal.returns-clause-small
returns-clause-small c =
    let small : unsigned_abs c.signed.result ≤ most =
    rw (c.signed.ensures, unsigned_abs-signed c.is_negative.result c.in_ok-size.size) c.in_ok-size.ensures.small in
    rw (kept c.signed.result small) small
