use Rattle.std.proofs.Common.{◌≡◌, true, false, Bool, IsTrue, not}
use Rattle.fraction.specs.Frac.{ratio}
use Rattle.evidence.proofs.Fits.{whole_over_one}
use Rattle.branch_bound.proofs.open.is_fractional.Goals as goal

no_true : (b : Bool) → not b ≡ true → IsTrue b → ⊥
no_true true e t = cc
no_true false e t = cc

pub returns-then-var-clause-yes : goal.returns-then-var-clause-yes
returns-then-var-clause-yes c = λ e.
    let v = c.args.value in
    let no = no_true c.is_whole.result e in (
      c.if-var.true,
      λ w. no (c.is_whole.ensures.1 (whole_over_one (ratio v) (v.above, v.reduced) w)),
      λ d. no (c.is_whole.ensures.1 d),
    )
