use mir.Val.{SFits}
use mir.Syntax.{w128}
use Rattle.std.proofs.Math.Facts.{to_z-of_z}
use Rattle.std.proofs.Common.{rules, pos, cond, sym, ◌∙◌, ap}
use Rattle.rational.specs.Ratio.{whole}
use Rattle.fraction.specs.Frac.{ratio}
use Rattle.evidence.proofs.UniqueRows.{one_ceiling}
use Rattle.evidence.proofs.RowRounds.{one_floor}
use Rattle.instance.specs.Program.{limit}
use Rattle.cert_checker.specs.RowRounds.{floor, ceiling, toward}
use Rattle.cert_checker.proofs.Rounding.{floor_is, ceiling_is, no_end}
use Rattle.cert_checker.proofs.row_rounds.rounded.Goals as goal

pub returns-in-At : goal.returns-in-At
returns-in-At c =
    let x = ratio c.args.form in
    let k = c.ceiling.result in
    let f : SFits w128 k = search rules in
    let lb = c.args.cut.now.lb in
    c.whole.ensures
    ∙ ap whole (to_z-of_z f ∙ one_ceiling x k (ceiling x) c.ceiling.ensures.value (ceiling_is x c.args.form.above)
    ∙ sym (ap (λ o. toward o x) (ap limit c.in-At.is)) ∙ sym (ap (λ b. cond b (toward (limit lb) x) (pos 0)) c.if-not-cut.false))

pub returns-in_default : goal.returns-in_default
returns-in_default c =
    let x = ratio c.args.form in
    let k = c.floor.result in
    let f : SFits w128 k = search rules in
    let lb = c.args.cut.now.lb in
    c.whole-in_default.ensures
    ∙ ap whole (to_z-of_z f ∙ one_floor x k (floor x) c.floor.ensures.value (floor_is x c.args.form.above)
    ∙ sym (ap (λ o. toward o x) (no_end lb c.in_default.not-At)) ∙ sym (ap (λ b. cond b (toward (limit lb) x) (pos 0)) c.if-not-cut.false))
