use Rattle.std.proofs.Common.{refl, IsTrue}
use Rattle.fraction.specs.Frac.{ratio}
use Rattle.evidence.proofs.Fits.{whole_over_one, over_one_whole}
use Rattle.instance.specs.Program.{range}
use Rattle.instance.proofs.Numbers.{range-numbers}
use Rattle.instance.proofs.ZeroOrBetween.{kept}
use Rattle.instance.proofs.ends.keeps.Goals as goal

pub returns-else-not-v : goal.returns-else-not-v
returns-else-not-v c =
    let v = c.args.v.now in
    let k = kept v.zero (range v.lb v.ub) v.whole (ratio c.args.x) (range-numbers v.lb v.ub) c.args.x.above in (
      λ t. k.1 (c.if-is_within.ensures.0 refl, λ w. over_one_whole (ratio c.args.x) (c.is_whole.ensures.0 t)),
      λ h. c.is_whole.ensures.1 (whole_over_one (ratio c.args.x) (c.args.x.above, c.args.x.reduced) (h.whole c.if-not-v.false)),
    )

pub returns-then-not-v : goal.returns-then-not-v
returns-then-not-v c =
    let v = c.args.v.now in
    let k = kept v.zero (range v.lb v.ub) v.whole (ratio c.args.x) (range-numbers v.lb v.ub) c.args.x.above in (
      λ t. k.1 (c.if-is_within.ensures.0 refl, λ w. absurd (let n : IsTrue v.whole = w in cc)),
      λ h. let e = c.if-not-v.true in rw e refl,
    )
