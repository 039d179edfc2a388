use Rattle.std.proofs.Common.{length, inl, sym, subst, arith, refl, ◌∷◌, ap, ◌∙◌}
use Rattle.std.proofs.lemmas.Bool.{eqb-true, eqb-false}
use Rattle.decimal_text.specs.Head.{DoesNotBegin}
use Rattle.decimal_text.proofs.Splits.{strip_none, strip_some, is_nothing}
use Rattle.decimal_text.proofs.Ratios.{zero_leaves}
use Rattle.decimal_text.proofs.exact.read_ratio.Goals as goal

pub read_quotient-requires : goal.read_quotient-requires
read_quotient-requires c =
    let zero = c.strip-has_zero in
    subst (λ x. DoesNotBegin 48 x) (sym (strip_none 48 zero.result.0 _ zero.result.1.now zero.ensures.parts c.if-not-has_zero.true)) (zero.ensures.absent c.if-not-has_zero.true)

pub returns-then-not-is_empty-clause-err : goal.returns-then-not-is_empty-clause-err
returns-then-not-is_empty-clause-err c =
    let zero = c.strip-has_zero in
    inl (zero_leaves _ zero.result.1.now (strip_some 48 zero.result.0 _ zero.result.1.now zero.ensures.parts c.if-not-has_zero.false) (omega (arith, eqb-false (length zero.result.1.now) 0 (sym c.if-not-is_empty.ensures))))

pub returns-clause-ok : goal.returns-clause-ok
returns-clause-ok c =
    let zero = c.strip-has_zero in
    inl (strip_some 48 zero.result.0 _ zero.result.1.now zero.ensures.parts c.if-not-has_zero.false ∙ ap (λ x. 48 ∷ x) (is_nothing zero.result.1.now (eqb-true (length zero.result.1.now) 0 (sym c.if-not-is_empty.ensures))), refl)
