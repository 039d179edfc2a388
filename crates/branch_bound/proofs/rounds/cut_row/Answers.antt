use Rattle.std.proofs.Common.{rules, ◌∙◌, ap}
use mir.Val.{SFits}
use mir.Syntax.{w128}
use Rattle.std.proofs.Math.Facts.{to_z-of_z}
use Rattle.rational.specs.Ratio.{whole}
use Rattle.branch_bound.proofs.rounds.cut_row.Goals as goal

pub returns-clause-ends : goal.returns-clause-ends
returns-clause-ends c = let f : SFits w128 c.args.low = search rules in (c.whole.result, c.put.ensures.ends, c.whole.ensures ∙ ap whole (to_z-of_z f))
