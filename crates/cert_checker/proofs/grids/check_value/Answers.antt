use Rattle.std.proofs.Common.{inl, inr, refl, sym, subst, IsTrue, false}
use Rattle.rational.specs.Ratio.{Ratio, IsSame, sum, product}
use Rattle.fraction.specs.Frac.{ratio}
use Rattle.evidence.specs.Width.{TermFits}
use Rattle.case_tree.specs.Cuts.{cut}
use Rattle.cert_checker.proofs.GridSteps.{wide_steps, wide_value, grid-fits, reaches, lacks}
use Rattle.cert_checker.proofs.grids.check_value.Goals as goal

pub returns-in-Err-clause-err : goal.returns-in-Err-clause-err
returns-in-Err-clause-err c = λ cs ms l. inl (wide_steps (cut c.args.program.now cs) c.args.step c.requires.above ms l.number l.fits c.args.low l.is c.in-Err.ensures.wide, refl)

pub returns-in-Err-add_product-clause-err : goal.returns-in-Err-add_product-clause-err
returns-in-Err-add_product-clause-err c = λ cs ms l. inl (
  wide_value (cut c.args.program.now cs) c.args.step c.requires.above ms l.number l.fits c.args.low l.is c.in-Ok.steps c.in-Ok.ensures.ok c.rounded_up.ensures.0 c.rounded_up.ensures.1 c.constant.result c.constant.ensures
      (λ t. c.in-Err-add_product.ensures.wide (subst (λ (k : Ratio). TermFits (ratio c.constant.result) k (ratio c.args.step)) (sym c.rounded_up.ensures.2) t)),
  refl,
)

pub returns-then-is_at_most-clause-fits : goal.returns-then-is_at_most-clause-fits
returns-then-is_at_most-clause-fits c = λ cs ms l.
    grid-fits (cut c.args.program.now cs) c.args.step c.requires.above ms l.number l.fits c.args.low l.is c.in-Ok.steps c.in-Ok.ensures.ok c.rounded_up.ensures.0 c.rounded_up.ensures.1 c.constant.result c.constant.ensures
    (subst (λ (k : Ratio). TermFits (ratio c.constant.result) k (ratio c.args.step)) c.rounded_up.ensures.2 c.in-Ok-add_product.ensures.fits)

pub returns-then-is_at_most-clause-ok : goal.returns-then-is_at_most-clause-ok
returns-then-is_at_most-clause-ok c = λ cs ms l.
    reaches (cut c.args.program.now cs) c.args.step c.requires.above ms l.number l.fits c.args.low l.is c.in-Ok.steps c.in-Ok.ensures.ok c.rounded_up.ensures.0 c.rounded_up.ensures.1 c.constant.result c.constant.ensures c.in-Ok-add_product.value c.args.aim
    (subst (λ (k : Ratio). IsSame (ratio c.in-Ok-add_product.value) (sum (ratio c.constant.result) (product k (ratio c.args.step)))) c.rounded_up.ensures.2 c.in-Ok-add_product.ensures.ok)
    (c.is_at_most.ensures.0 c.if-is_at_most.true)

pub returns-else-is_at_most-clause-err : goal.returns-else-is_at_most-clause-err
returns-else-is_at_most-clause-err c = λ cs ms l. inr (
  grid-fits (cut c.args.program.now cs) c.args.step c.requires.above ms l.number l.fits c.args.low l.is c.in-Ok.steps c.in-Ok.ensures.ok c.rounded_up.ensures.0 c.rounded_up.ensures.1 c.constant.result c.constant.ensures
      (subst (λ (k : Ratio). TermFits (ratio c.constant.result) k (ratio c.args.step)) c.rounded_up.ensures.2 c.in-Ok-add_product.ensures.fits),
  lacks (cut c.args.program.now cs) c.args.step c.requires.above ms l.number l.fits c.args.low l.is c.in-Ok.steps c.in-Ok.ensures.ok c.rounded_up.ensures.0 c.rounded_up.ensures.1 c.constant.result c.constant.ensures c.in-Ok-add_product.value c.args.aim
      (subst (λ (k : Ratio). IsSame (ratio c.in-Ok-add_product.value) (sum (ratio c.constant.result) (product k (ratio c.args.step)))) c.rounded_up.ensures.2 c.in-Ok-add_product.ensures.ok)
      (λ h. let t : IsTrue false = c.if-is_at_most.ensures.1 h in cc),
  refl,
)
