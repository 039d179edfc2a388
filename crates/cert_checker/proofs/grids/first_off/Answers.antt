use Rattle.std.proofs.Common.{◌<◌, length, arith, refl, ap, below_more}
use Rattle.std.proofs.lemmas.List.{length-map}
use Rattle.fraction.specs.Frac.{ratio}
use Rattle.instance.specs.Program.{variable}
use Rattle.case_tree.specs.Cuts.{cut}
use Rattle.cert_checker.specs.Grids.{GoesInSteps}
use Rattle.cert_checker.proofs.GridSteps.{step_at}
use Rattle.cert_checker.proofs.grids.first_off.Goals as goal

pub loop-j-preserved : goal.loop-j-preserved
loop-j-preserved c =
    let I = c.args.program.now in
    let v = ap length c.vars-count.ensures.value in
    let n = length-map c.vars-count.result.now variable in
    let h : c.loop-j.j < length c.args.cuts.now = (let a = c.requires.count in omega arith) in
    below_more (GoesInSteps (cut I c.args.cuts.now) (ratio c.args.step)) c.loop-j.j c.loop-j.invariant
    ((step_at I c.args.cuts.now (ratio c.args.step) c.loop-j.j c.index-cuts-j.result h c.index-cuts-j.is).0 (c.if-not-goes_in_steps.ensures.0 refl))
