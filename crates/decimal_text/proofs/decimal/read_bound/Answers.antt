use Rattle.std.proofs.Common.{◌-◌, length, ap, sym, ◌∙◌}
use Rattle.decimal_text.proofs.Splits.{strip_some}
use Rattle.decimal_text.proofs.DecimalTexts.{infinity_leaves}
use Rattle.decimal_text.proofs.decimal.read_bound.Goals as goal

pub returns-in-Some-clause-err : goal.returns-in-Some-clause-err
returns-in-Some-clause-err c =
    let sign = c.split_sign-is_negative.ensures in
    let first = c.strip-has_first in
    infinity_leaves _ _ first.result.1.now sign.sign _ c.in-Some.left (sym c.trim-core.ensures ∙ sign.parts) (strip_some 73 first.result.0 _ first.result.1.now first.ensures.parts c.if-not-has_first.false) c.in-Some.ensures (ap (λ x. length x - c.in-Some.left) c.trim-core.ensures)
