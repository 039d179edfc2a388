use Rattle.std.proofs.Common.{◌<◌, length, arith, refl, ap, below_more}
use Rattle.std.proofs.lemmas.List.{length-map}
use Rattle.fraction.specs.Frac.{ratios}
use Rattle.evidence.specs.Instance.{width, variable_at}
use Rattle.evidence.specs.Point.{value_at}
use Rattle.instance.specs.Program.{variable}
use Rattle.cert_checker.specs.Rays.{MayMove}
use Rattle.cert_checker.proofs.Moves.{move_to}
use Rattle.cert_checker.proofs.ray.first_held.Goals as goal

pub loop-j-preserved : goal.loop-j-preserved
loop-j-preserved c =
    let v = ap length c.vars-vars.ensures.value in
    let n = length-map c.vars-vars.result.now variable in
    let low : c.loop-j.j < width c.args.program.now = (let t = c.loop-j-test.true in omega arith) in
    let h : c.loop-j.j < length c.args.point.now = omega arith in
    let k : c.loop-j.j < length c.args.ray.now = omega arith in
    below_more (λ j. MayMove (variable_at c.args.program.now j) (value_at (ratios c.args.point.now) j) (value_at (ratios c.args.ray.now) j)) c.loop-j.j c.loop-j.invariant
    (move_to c.args.program.now c.args.point.now c.args.ray.now c.vars-vars.result.now c.vars-vars.ensures.value c.loop-j.j c.index-vars-j.result c.index-point-j.result c.index-ray-j.result c.loop-j-test.true c.index-vars-j.is h c.index-point-j.is k c.index-ray-j.is (c.if-not-may_move.ensures.0 refl))
