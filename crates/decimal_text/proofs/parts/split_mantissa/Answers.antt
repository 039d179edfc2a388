use Rattle.std.proofs.Common.{refl, sym, subst}
use Rattle.std.proofs.lemmas.List.{append-nil}
use Rattle.decimal_text.specs.Head.{DoesNotBegin}
use Rattle.decimal_text.specs.Decimal.{plain, pointed}
use Rattle.decimal_text.proofs.Splits.{strip_none, strip_some, regroup}
use Rattle.decimal_text.proofs.parts.split_mantissa.Goals as goal

pub returns-then-not-has_point : goal.returns-then-not-has_point
returns-then-not-has_point c =
    let split = c.split_digits.ensures in
    let point = c.strip-has_point in
    let same = strip_none 46 point.result.0 _ point.result.1.now point.ensures.parts c.if-not-has_point.true in
    record {
      mantissa = plain c.split_digits.result.0.now;
      parts = split.parts;
      joined = sym (append-nil c.split_digits.result.0.now);
      point = refl;
      before_digits = split.digits;
      after_digits = tt;
      ends = (split.all, subst (λ x. DoesNotBegin 46 x) (sym same) (point.ensures.absent c.if-not-has_point.true));
    }

pub returns : goal.returns
returns c =
    let split = c.split_digits.ensures in
    let point = c.strip-has_point in
    let more = c.split_digits-2.ensures in
    record {
      mantissa = pointed c.split_digits.result.0.now c.split_digits-2.result.0.now;
      parts = regroup _ c.split_digits.result.0.now _ point.result.1.now c.split_digits-2.result.0.now c.split_digits-2.result.1.now 46 split.parts (strip_some 46 point.result.0 _ point.result.1.now point.ensures.parts c.if-not-has_point.false) more.parts;
      joined = refl;
      point = refl;
      before_digits = split.digits;
      after_digits = more.digits;
      ends = more.all;
    }
