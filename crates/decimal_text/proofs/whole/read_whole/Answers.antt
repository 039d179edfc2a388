use Rattle.std.proofs.Common.{◌-◌, ◌<◌, length, arith, sym, ap, subst, ◌∙◌}
use Rattle.std.proofs.lemmas.Bool.{eqb-true, eqb-false}
use Rattle.std.specs.Str.Parse.{digits_value}
use Rattle.rational.specs.Whole.{signed}
use Rattle.rational.proofs.Signs.{unsigned_abs-signed}
use Rattle.decimal_text.specs.Count.{most_count}
use Rattle.decimal_text.specs.Sign.{is_minus}
use Rattle.decimal_text.proofs.WholeTexts.{whole_leaves, whole_made}
use Rattle.decimal_text.proofs.whole.read_whole.Goals as goal
use Rattle.decimal_text.proofs.whole.read_whole.Goals.{then-is_empty-via-then-is_empty, then-is_empty-via-else-is_empty+then-not-is_empty}

pub returns-then-is_empty-clause-err : goal.returns-then-is_empty-clause-err
returns-then-is_empty-clause-err c =
    let ds = c.split_digits.result.0.now in
    let rest = c.split_digits.result.1.now in
    let split = c.split_digits.ensures in
    let sign = c.split_sign-is_negative.ensures in
    let more = elim c.then-is_empty.branch as (λ _. 0 < length ds → 0 < length rest) [
      | then-is_empty-via-then-is_empty w ↦ λ h. absurd (omega (arith, eqb-true (length ds) 0 (sym w.if-is_empty.ensures)))
      | then-is_empty-via-else-is_empty+then-not-is_empty w ↦ λ h. omega (arith, eqb-false (length rest) 0 (sym w.if-not-is_empty.ensures))
    ] in
    whole_leaves _ c.split_sign-is_negative.result.1.now sign.sign ds rest _ (sym c.trim-core.ensures ∙ sign.parts) split.parts sign.behind split.digits split.all more (ap (λ x. length x - length rest) c.trim-core.ensures)

pub returns-in-None-clause-err : goal.returns-in-None-clause-err
returns-in-None-clause-err c =
    let ds = c.split_digits.result.0.now in
    let rest = c.split_digits.result.1.now in
    let split = c.split_digits.ensures in
    let sign = c.split_sign-is_negative.ensures in
    (signed (is_minus sign.sign) (digits_value 10 ds), (whole_made _ c.split_sign-is_negative.result.1.now sign.sign ds rest (sym c.trim-core.ensures ∙ sign.parts) split.parts split.digits (omega (arith, eqb-false (length ds) 0 (sym c.if-is_empty.ensures))) (eqb-true (length rest) 0 (sym c.if-not-is_empty.ensures)), subst (λ x. most_count < x) (sym (unsigned_abs-signed (is_minus sign.sign) (digits_value 10 ds))) c.in-None.ensures))
