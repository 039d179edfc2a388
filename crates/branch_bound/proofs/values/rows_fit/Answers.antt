use Rattle.std.proofs.Common.{◌<◌, IsTrue, false, length, refl, ap, arith, below_more}
use Rattle.std.proofs.lemmas.List.{length-map}
use Rattle.evidence.specs.Instance.{height}
use Rattle.evidence.specs.Width.{RowFits}
use Rattle.fraction.specs.Frac.{ratios}
use Rattle.instance.specs.Program.{program, row}
use Rattle.branch_bound.proofs.values.rows_fit.Goals as goal

pub loop-i-preserved : goal.loop-i-preserved
loop-i-preserved c = below_more (RowFits (program c.args.instance.now) (ratios c.args.point.now)) c.loop-i.i c.loop-i.invariant c.in-Ok.ensures.fits

pub returns-in-Err : goal.returns-in-Err
returns-in-Err c =
    let v = ap length c.rows-i-end.ensures.value in
    let n = length-map c.args.instance.now.rows row in
    let low : c.loop-i.i < height (program c.args.instance.now) = omega arith in
    (λ t. (let no : IsTrue false = t in absurd (cc)), λ fit. absurd (c.in-Err.ensures.wide (fit c.loop-i.i low)))

pub returns : goal.returns
returns c =
    let v = ap length c.rows-i-end.ensures.value in
    let n = length-map c.args.instance.now.rows row in
    (λ t i h. c.loop-i.invariant i (omega arith), λ fit. refl)
