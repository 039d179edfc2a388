use mir.Val.{SFits, of_z, to_z}
use mir.Syntax.{w128}
use Rattle.std.proofs.Math.Facts.{to_z-of_z}
use Rattle.std.proofs.Common.{rules, ◌≡◌, ◌∙◌, ap}
use Rattle.rational.specs.Ratio.{whole}
use Rattle.cert_checker.proofs.grids.rounded_up.Goals as goal

pub returns : goal.returns
returns c =
    let f : SFits w128 c.ceiling-steps.result = search rules in
    let same : to_z w128 (of_z w128 c.ceiling-steps.result) ≡ c.ceiling-steps.result = to_z-of_z f in
    (c.ceiling-steps.result, c.ceiling-steps.ensures.value, c.whole.ensures ∙ ap whole same)
