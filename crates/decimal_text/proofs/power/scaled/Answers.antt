use Rattle.std.proofs.Common.{◌-◌, inr, arith}
use Rattle.rational.specs.Ratio.{IsSame}
use Rattle.rational.specs.Whole.{signed}
use Rattle.fraction.specs.Frac.{ratio}
use Rattle.decimal_text.specs.Decimal.{powered, HasFit, HasNoFit}
use Rattle.decimal_text.proofs.Powers.{ten_power}
use Rattle.decimal_text.proofs.Forms.{up_fits, up_wide, down_fits, down_wide}
use Rattle.decimal_text.proofs.Quotients.{option_of}
use Rattle.decimal_text.proofs.power.scaled.Goals as goal

pub returns-in_err-product : goal.returns-in_err-product
returns-in_err-product c = rw c.from_residual.ensures (up_wide c.args.is_negative c.args.size c.args.up c.args.down c.if-down-up.true c.requires.short c.in_err-product.ensures)

pub returns-in_ok-product : goal.returns-in_ok-product
returns-in_ok-product c =
    let n = c.args.is_negative in
    let size = c.args.size in
    let a = c.args.up in
    let b = c.args.down in
    let p = c.in_ok-product.product in
    let w = powered n size a b in
    let kept = c.in_ok-product.ensures in
    option_of (λ x. IsSame (ratio x) (record { num = signed n p; den = 1 })) (λ x. HasFit w (ratio x)) (HasNoFit w) c.quotient.result c.ok.result (λ x h. up_fits n size a b p c.if-down-up.true c.requires.short kept.0 kept.1 (ratio x) x.above h) c.quotient.ensures.ok c.quotient.ensures.fits c.ok.ensures.value

pub returns-in_err-denom : goal.returns-in_err-denom
returns-in_err-denom c = rw c.from_residual-in_err-denom.ensures (down_wide c.args.is_negative c.args.size c.args.up c.args.down (omega arith) c.requires.short (inr c.in_err-denom.ensures))

pub quotient-requires-else-down-up-clause-above : goal.quotient-requires-else-down-up-clause-above
quotient-requires-else-down-up-clause-above c = let kept = c.in_ok-denom.ensures in omega (arith, kept.0, ten_power (c.args.down - c.args.up))

pub returns-in_ok-denom : goal.returns-in_ok-denom
returns-in_ok-denom c =
    let n = c.args.is_negative in
    let size = c.args.size in
    let a = c.args.up in
    let b = c.args.down in
    let p = c.in_ok-denom.denom in
    let w = powered n size a b in
    let kept = c.in_ok-denom.ensures in
    option_of (λ x. IsSame (ratio x) (record { num = signed n size; den = p })) (λ x. HasFit w (ratio x)) (HasNoFit w) c.quotient-else-down-up.result c.ok-else-down-up.result (λ x h. down_fits n size a b p (omega arith) c.requires.short c.requires.small kept.0 kept.1 (ratio x) x.above h) c.quotient-else-down-up.ensures.ok c.quotient-else-down-up.ensures.fits c.ok-else-down-up.ensures.value
