use Rattle.std.proofs.Common.{subst}
use Rattle.rational.specs.Ratio.{Ratio, product, IsSame}
use Rattle.rational.specs.Width.{ReducedFits}
use Rattle.fraction.specs.Frac.{ratio}
use Rattle.branch_bound.proofs.Gaps.{part_is, no_part}
use Rattle.branch_bound.proofs.gap.allowed.Goals as goal

pub returns-in-Ok-mul : goal.returns-in-Ok-mul
returns-in-Ok-mul c =
    let q = c.in-Ok.part in
    let r = c.in-Ok-mul.allowed in
    rw c.in-Percent.is (part_is c.in-Percent.percent c.args.value q (subst (λ (x : Ratio). IsSame (ratio q) (product (ratio c.in-Percent.percent) x)) c.size.ensures c.in-Ok.ensures.ok) r (subst (λ (x : Ratio). IsSame (ratio r) (product (ratio q) x)) c.hundredth.ensures c.in-Ok-mul.ensures.ok))

pub returns-in-Err-mul : goal.returns-in-Err-mul
returns-in-Err-mul c =
    let q = c.in-Ok.part in
    rw c.in-Percent.is (no_part c.in-Percent.percent c.args.value q (subst (λ (x : Ratio). IsSame (ratio q) (product (ratio c.in-Percent.percent) x)) c.size.ensures c.in-Ok.ensures.ok) (subst (λ (x : Ratio). ReducedFits (product (ratio q) x) → ⊥) c.hundredth.ensures c.in-Err-mul.ensures.wide))
