use Rattle.std.proofs.Common.{◌*◌, ◌/◌, ◌%◌, arith, sym, subst, ap, ◌∙◌}
use Rattle.decimal_text.specs.Parts.{IsKeptSize}
use Rattle.decimal_text.proofs.Powers.{near}
use Rattle.decimal_text.proofs.Tens.{found_places, too_great, none_near}
use Rattle.decimal_text.proofs.places.has_decimal.Goals as goal

pub pow-power-requires : goal.pow-power-requires
pow-power-requires c = omega (arith, near c.loop-places.places (omega arith))

pub returns-then-power-denom-eq0-clause-yes : goal.returns-then-power-denom-eq0-clause-yes
returns-then-power-denom-eq0-clause-yes c =
    let power = c.pow-power.ensures in
    let kept = subst (λ x. IsKeptSize (c.args.size * (x / c.args.denom)) c.times.result) power c.times.ensures in
    λ h. found_places c.args.size c.args.denom c.loop-places.places c.times.result c.requires.reduced (omega arith) c.loop-places.invariant (ap (λ x. x % c.args.denom) (sym power) ∙ c.if-power-denom-eq0.true) kept (sym c.is_some.ensures ∙ h)

pub returns-then-power-denom-eq0-clause-no : goal.returns-then-power-denom-eq0-clause-no
returns-then-power-denom-eq0-clause-no c =
    let power = c.pow-power.ensures in
    let kept = subst (λ x. IsKeptSize (c.args.size * (x / c.args.denom)) c.times.result) power c.times.ensures in
    λ h n j small _ e. too_great c.args.size c.args.denom c.loop-places.places c.times.result c.requires.reduced c.requires.above c.loop-places.invariant (ap (λ x. x % c.args.denom) (sym power) ∙ c.if-power-denom-eq0.true) kept (sym c.is_some.ensures ∙ h) n j small e

pub returns-clause-no : goal.returns-clause-no
returns-clause-no c = λ _ n j _ near_j e. none_near c.args.size c.args.denom c.requires.reduced (λ k h. c.loop-places.invariant k (omega arith)) n j near_j e
