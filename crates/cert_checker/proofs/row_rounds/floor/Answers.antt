use mir.Val.{SFits}
use mir.Syntax.{w128}
use Rattle.std.proofs.Math.Facts.{to_z-of_z}
use Rattle.std.proofs.Common.{rules, pos, neg_ℤ, ◌≤ℤ◌, sym, subst}
use Rattle.rational.specs.Width.{most}
use Rattle.fraction.specs.Frac.{ratio}
use Rattle.cert_checker.proofs.Rounding.{floor_low}
use Rattle.cert_checker.proofs.row_rounds.floor.Goals as goal

pub returns-clause-low : goal.returns-clause-low
returns-clause-low c =
    let k = c.floor.result in
    let f : SFits w128 k = search rules in
    subst (λ z. neg_ℤ (pos most) ≤ℤ z) (sym (to_z-of_z f)) (floor_low (ratio c.args.x) k c.args.x.above c.args.x.numer_within c.floor.ensures)
