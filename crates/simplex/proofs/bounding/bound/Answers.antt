use Rattle.std.proofs.Common.{sym, ◌∙◌, arith}
use Rattle.fraction.specs.Frac.{ratio}
use Rattle.evidence.proofs.Steps.{more, wide, no_term}
use Rattle.instance.proofs.Terms.{at_err}
use Rattle.simplex.proofs.bounding.bound.Goals as goal

pub loop-c-init : goal.loop-c-init
loop-c-init g c = λ a x t. no_term (ratio c.args.start) a x

pub returns-in_err-sum-clause-wide : goal.returns-in_err-sum-clause-wide
returns-in_err-sum-clause-wide g c = λ a x t.
    at_err c.from_residual.result
    (wide (ratio c.args.start) a x c.args.start.above t.cost_numbers t.value_numbers
    c.loop-c.c c.args.goal (ratio c.loop-c.sum) (ratio c.cost_of-cost.result) (ratio c.at.result)
    (sym (t.costs c.loop-c.c c.loop-c-test.true) ∙ sym c.cost_of-cost.ensures) (sym (t.values c.loop-c.c c.loop-c-test.true) ∙ sym c.at.ensures) c.loop-c-test.true c.loop-c.sum.above (c.loop-c.invariant a x t) c.in_err-sum.ensures.wide)

pub loop-c-preserved : goal.loop-c-preserved
loop-c-preserved g c = λ a x t.
    more (ratio c.args.start) a x c.args.start.above t.cost_numbers t.value_numbers
    c.loop-c.c (ratio c.loop-c.sum) (ratio c.in_ok-sum.sum) (ratio c.cost_of-cost.result) (ratio c.at.result)
    (sym (t.costs c.loop-c.c c.loop-c-test.true) ∙ sym c.cost_of-cost.ensures) (sym (t.values c.loop-c.c c.loop-c-test.true) ∙ sym c.at.ensures) c.loop-c.sum.above c.in_ok-sum.sum.above (c.loop-c.invariant a x t) c.in_ok-sum.ensures.ok c.in_ok-sum.ensures.fits
