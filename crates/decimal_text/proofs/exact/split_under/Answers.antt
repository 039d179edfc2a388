use Rattle.std.proofs.Common.{◌≡◌, ◌∷◌, [], length, get_or, ap, sym, arith}
use Rattle.std.proofs.lemmas.Bool.{eqb-true, eqb-false}
use Rattle.decimal_text.proofs.Splits.{strip_some}
use Rattle.decimal_text.proofs.RatioTexts.{under_split}
use Rattle.decimal_text.proofs.exact.split_under.Goals as goal
use Rattle.decimal_text.proofs.exact.split_under.Goals.{else-bottom-eq1-via-then-bottom-eq1+else-bottom-eq49, else-bottom-eq1-via-else-bottom-eq1}

pub returns-clause-ok : goal.returns-clause-ok
returns-clause-ok c =
    let line = c.strip-has_line in
    let split = c.split_positive in
    let digits = split.result.0.now in
    let n = elim c.else-bottom-eq1.branch as (λ _. digits ≡ 49 ∷ [] → ⊥) [
      | else-bottom-eq1-via-then-bottom-eq1+else-bottom-eq49 w ↦ λ e. w.if-bottom-eq49.false (ap (λ x. get_or x 0 0) e)
      | else-bottom-eq1-via-else-bottom-eq1 w ↦ λ e. w.if-bottom-eq1.false (ap length e)
    ] in
    under_split _ line.result.1.now digits split.result.1.now (strip_some 47 line.result.0 _ line.result.1.now line.ensures.parts c.if-not-has_line.false) split.ensures (eqb-true (length split.result.1.now) 0 (sym c.if-not-is_empty.ensures)) (omega (arith, eqb-false (length digits) 0 (sym c.if-is_empty-2.ensures))) n
