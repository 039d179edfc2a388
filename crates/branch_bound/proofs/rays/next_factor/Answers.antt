use Rattle.std.proofs.Common.{rules, ◌≡◌, ℤ, pos, true, sym, subst, ◌∙◌}
use Rattle.std.specs.Prelude.{unsigned_abs}
use mir.Val.{SFits, to_z, of_z}
use mir.Syntax.{w128}
use Rattle.std.proofs.Math.Facts.{to_z-of_z}
use Rattle.fraction.specs.Frac.{ratio}
use Rattle.instance.proofs.Terms.{at_err}
use Rattle.search_rules.specs.Rays.{IsNextFactor}
use Rattle.branch_bound.proofs.Factors.{next_whole, no_next, size_fits}
use Rattle.branch_bound.proofs.rays.next_factor.Goals as goal

pub returns-in_err-factor-clause-wide : goal.returns-in_err-factor-clause-wide
returns-in_err-factor-clause-wide c =
    let w : c.args.is_whole ≡ true = search rules in
    let d : SFits w128 c.denom.result = search rules in
    let by : to_z w128 (of_z w128 c.denom.result) ≡ pos c.args.movement.denom = to_z-of_z d ∙ c.denom.ensures in
    let wide = rw (to_z-of_z c.ranges.factor, by) at c.in_err-factor.ensures.wide in
    at_err c.from_residual.result (no_next c.args.is_whole (ratio c.args.movement) (unsigned_abs c.args.factor) w wide)

pub returns-clause-ok : goal.returns-clause-ok
returns-clause-ok c =
    let w : c.args.is_whole ≡ true = search rules in
    let d : SFits w128 c.denom.result = search rules in
    let f : SFits w128 c.in_ok-factor.factor = search rules in
    let by : to_z w128 (of_z w128 c.denom.result) ≡ pos c.args.movement.denom = to_z-of_z d ∙ c.denom.ensures in
    let least = rw (to_z-of_z c.ranges.factor, by) at c.in_ok-factor.ensures.ok in
    subst (λ (z : ℤ). IsNextFactor c.args.is_whole (ratio c.args.movement) (unsigned_abs c.args.factor) (unsigned_abs z)) (sym (to_z-of_z f))
    (next_whole c.args.is_whole (ratio c.args.movement) (unsigned_abs c.args.factor) (unsigned_abs c.in_ok-factor.factor) w least (size_fits c.in_ok-factor.factor f c.in_ok-factor.ensures.above))
