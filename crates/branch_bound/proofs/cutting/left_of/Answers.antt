use Rattle.std.proofs.Common.{rules, ℤ, pos, neg_ℤ, ◌≤ℤ◌, sym, ◌∙◌, ap, subst}
use mir.Val.{SFits}
use mir.Syntax.{w128}
use Rattle.std.proofs.Math.Facts.{to_z-of_z}
use Rattle.fraction.specs.Frac.{ratio}
use Rattle.rational.specs.Ratio.{whole, IsFloor}
use Rattle.rational.specs.Width.{most}
use Rattle.evidence.specs.Rounds.{IsCeiling}
use Rattle.search_rules.proofs.OneCut.{one_floor, one_ceiling}
use Rattle.no_cycles.proofs.Floors.{floor_low}
use Rattle.branch_bound.proofs.WholeParts.{left_ok, left_fits, left_wide}
use Rattle.branch_bound.proofs.cutting.left_of.Goals as goal

pub whole-requires : goal.whole-requires
whole-requires c =
    let e = c.args.entry in
    let f : SFits w128 c.floor.result = search rules in
    subst (λ (z : ℤ). neg_ℤ (pos most) ≤ℤ z) (sym (to_z-of_z f)) (floor_low (ratio e) c.floor.result e.above e.numer_within c.floor.ensures)

pub returns-in-Lower-clause-ok : goal.returns-in-Lower-clause-ok
returns-in-Lower-clause-ok c =
    let f : SFits w128 c.floor.result = search rules in
    rw c.in-Lower.is (left_ok (ratio c.args.entry) (ratio c.whole.result) c.floor.result (IsFloor (ratio c.args.entry)) c.floor.ensures (c.whole.ensures ∙ ap whole (to_z-of_z f)) c.sub.result c.sub.ensures.ok)

pub returns-in-Lower-clause-fits : goal.returns-in-Lower-clause-fits
returns-in-Lower-clause-fits c =
    let f : SFits w128 c.floor.result = search rules in
    rw c.in-Lower.is (left_fits (ratio c.args.entry) (ratio c.whole.result) c.floor.result (IsFloor (ratio c.args.entry)) c.floor.ensures (c.whole.ensures ∙ ap whole (to_z-of_z f))
    (λ l h. one_floor (ratio c.args.entry) l c.floor.result h c.floor.ensures) c.sub.result c.sub.ensures.fits)

pub returns-in-Lower-clause-wide : goal.returns-in-Lower-clause-wide
returns-in-Lower-clause-wide c =
    let f : SFits w128 c.floor.result = search rules in
    rw c.in-Lower.is (left_wide (ratio c.args.entry) (ratio c.whole.result) c.floor.result (IsFloor (ratio c.args.entry)) c.floor.ensures (c.whole.ensures ∙ ap whole (to_z-of_z f)) c.sub.result c.sub.ensures.wide)

pub returns-in-Upper-clause-ok : goal.returns-in-Upper-clause-ok
returns-in-Upper-clause-ok c =
    let f : SFits w128 c.ceiling.result = search rules in
    rw c.in-Upper.is (left_ok (ratio c.args.entry) (ratio c.whole-in-Upper.result) c.ceiling.result (IsCeiling (ratio c.args.entry)) c.ceiling.ensures.value (c.whole-in-Upper.ensures ∙ ap whole (to_z-of_z f)) c.sub-in-Upper.result c.sub-in-Upper.ensures.ok)

pub returns-in-Upper-clause-fits : goal.returns-in-Upper-clause-fits
returns-in-Upper-clause-fits c =
    let f : SFits w128 c.ceiling.result = search rules in
    rw c.in-Upper.is (left_fits (ratio c.args.entry) (ratio c.whole-in-Upper.result) c.ceiling.result (IsCeiling (ratio c.args.entry)) c.ceiling.ensures.value (c.whole-in-Upper.ensures ∙ ap whole (to_z-of_z f))
    (λ l h. one_ceiling (ratio c.args.entry) l c.ceiling.result h c.ceiling.ensures.value) c.sub-in-Upper.result c.sub-in-Upper.ensures.fits)

pub returns-in-Upper-clause-wide : goal.returns-in-Upper-clause-wide
returns-in-Upper-clause-wide c =
    let f : SFits w128 c.ceiling.result = search rules in
    rw c.in-Upper.is (left_wide (ratio c.args.entry) (ratio c.whole-in-Upper.result) c.ceiling.result (IsCeiling (ratio c.args.entry)) c.ceiling.ensures.value (c.whole-in-Upper.ensures ∙ ap whole (to_z-of_z f)) c.sub-in-Upper.result c.sub-in-Upper.ensures.wide)
