use Rattle.std.proofs.Common.{◌-◌, ◌<◌, length, arith, sym, ap, ◌∙◌}
use Rattle.std.proofs.lemmas.Bool.{eqb-true, eqb-false}
use Rattle.std.specs.Str.Parse.{digits_value}
use Rattle.decimal_text.proofs.CountTexts.{count_leaves, count_made}
use Rattle.decimal_text.proofs.count.read_count.Goals as goal
use Rattle.decimal_text.proofs.count.read_count.Goals.{then-is_empty-via-then-is_empty, then-is_empty-via-else-is_empty+then-not-is_empty}

pub returns-then-is_empty-clause-err : goal.returns-then-is_empty-clause-err
returns-then-is_empty-clause-err c =
    let ds = c.split_digits.result.0.now in
    let rest = c.split_digits.result.1.now in
    let split = c.split_digits.ensures in
    let more = elim c.then-is_empty.branch as (λ _. 0 < length ds → 0 < length rest) [
      | then-is_empty-via-then-is_empty w ↦ λ h. absurd (omega (arith, eqb-true (length ds) 0 (sym w.if-is_empty.ensures)))
      | then-is_empty-via-else-is_empty+then-not-is_empty w ↦ λ h. omega (arith, eqb-false (length rest) 0 (sym w.if-not-is_empty.ensures))
    ] in
    count_leaves _ c.strip.result.1.now c.strip.result.0 ds rest _ (sym c.trim-core.ensures ∙ c.strip.ensures.parts) split.parts c.strip.ensures.absent split.digits split.all more (ap (λ x. length x - length rest) c.trim-core.ensures)

pub returns-in-None-clause-err : goal.returns-in-None-clause-err
returns-in-None-clause-err c =
    let ds = c.split_digits.result.0.now in
    let rest = c.split_digits.result.1.now in
    let split = c.split_digits.ensures in
    (digits_value 10 ds, (count_made _ c.strip.result.1.now c.strip.result.0 ds rest (sym c.trim-core.ensures ∙ c.strip.ensures.parts) split.parts split.digits (omega (arith, eqb-false (length ds) 0 (sym c.if-is_empty.ensures))) (eqb-true (length rest) 0 (sym c.if-not-is_empty.ensures)), c.in-None.ensures))
