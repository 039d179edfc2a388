use Rattle.std.proofs.Common.{rules, length, sym, subst}
use Rattle.std.specs.Prelude.{MatchOption}
use Rattle.std.specs.Str.Parse.{digits_value}
use Rattle.fraction.specs.Frac.{ratio}
use Rattle.decimal_text.specs.Decimal.{HasFit, HasNoFit}
use Rattle.decimal_text.proofs.Values.{none_wide, size_of, zero_value, zero_fit, far_wide, down_same, up_same}
use Rattle.decimal_text.proofs.power.value.Goals as goal

pub returns-in_err-size : goal.returns-in_err-size
returns-in_err-size c = rw c.from_residual.ensures (none_wide c.args.is_negative _ c.significand_of-kept.result.1 c.significand_of-kept.result.0 _ _ c.significand_of-kept.ensures.value c.in_err-size.was)

pub returns-then-size-eq0 : goal.returns-then-size-eq0
returns-then-size-eq0 c =
    let size = size_of _ c.significand_of-kept.result.1 c.in_ok-size.size c.significand_of-kept.result.0 c.significand_of-kept.ensures.value c.in_ok-size.was in
    zero_fit c.args.is_negative _ _ _ (zero_value _ c.in_ok-size.size c.significand_of-kept.result.1 size c.if-size-eq0.true)

pub returns-in_err-power : goal.returns-in_err-power
returns-in_err-power c =
    let size = size_of _ c.significand_of-kept.result.1 c.in_ok-size.size c.significand_of-kept.result.0 c.significand_of-kept.ensures.value c.in_ok-size.was in
    rw c.from_residual-in_err-power.ensures (far_wide c.args.is_negative c.args.parts.is_down _ c.in_ok-size.size c.significand_of-kept.result.1 (length c.args.parts.after.now) (digits_value 10 c.args.parts.power.now) size c.if-size-eq0.false (search rules) (search rules) c.in_err-power.ensures)

pub scaled-requires-clause-short : goal.scaled-requires-clause-short
scaled-requires-clause-short c = (size_of _ c.significand_of-kept.result.1 c.in_ok-size.size c.significand_of-kept.result.0 c.significand_of-kept.ensures.value c.in_ok-size.was).short c.if-size-eq0.false

pub scaled-requires-clause-small : goal.scaled-requires-clause-small
scaled-requires-clause-small c = (size_of _ c.significand_of-kept.result.1 c.in_ok-size.size c.significand_of-kept.result.0 c.significand_of-kept.ensures.value c.in_ok-size.was).small

pub scaled-requires-else-parts-clause-short : goal.scaled-requires-else-parts-clause-short
scaled-requires-else-parts-clause-short c = (size_of _ c.significand_of-kept.result.1 c.in_ok-size.size c.significand_of-kept.result.0 c.significand_of-kept.ensures.value c.in_ok-size.was).short c.if-size-eq0.false

pub scaled-requires-else-parts-clause-small : goal.scaled-requires-else-parts-clause-small
scaled-requires-else-parts-clause-small c = (size_of _ c.significand_of-kept.result.1 c.in_ok-size.size c.significand_of-kept.result.0 c.significand_of-kept.ensures.value c.in_ok-size.was).small

pub returns-then-parts : goal.returns-then-parts
returns-then-parts c =
    let size = size_of _ c.significand_of-kept.result.1 c.in_ok-size.size c.significand_of-kept.result.0 c.significand_of-kept.ensures.value c.in_ok-size.was in
    subst (λ w. MatchOption c.scaled.result (HasNoFit w) (λ x. HasFit w (ratio x))) (sym (down_same c.args.is_negative c.args.parts.is_down _ c.in_ok-size.size c.significand_of-kept.result.1 (length c.args.parts.after.now) c.in_ok-power.power (digits_value 10 c.args.parts.power.now) c.if-parts.true size c.in_ok-power.ensures.0)) c.scaled.ensures

pub returns-else-parts : goal.returns-else-parts
returns-else-parts c =
    let size = size_of _ c.significand_of-kept.result.1 c.in_ok-size.size c.significand_of-kept.result.0 c.significand_of-kept.ensures.value c.in_ok-size.was in
    subst (λ w. MatchOption c.scaled-else-parts.result (HasNoFit w) (λ x. HasFit w (ratio x))) (sym (up_same c.args.is_negative c.args.parts.is_down _ c.in_ok-size.size c.significand_of-kept.result.1 (length c.args.parts.after.now) c.in_ok-power.power (digits_value 10 c.args.parts.power.now) c.if-parts.false size c.in_ok-power.ensures.0)) c.scaled-else-parts.ensures
