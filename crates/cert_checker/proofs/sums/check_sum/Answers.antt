use Rattle.std.proofs.Common.{IsTrue, false}
use Rattle.certificate.specs.Meanings.{multipliers}
use Rattle.case_tree.specs.Cuts.{cut}
use Rattle.cert_checker.proofs.Widths.{cut-instance}
use Rattle.cert_checker.proofs.LowSums.{mults_low-number, has_sum, lacks_sum}
use Rattle.cert_checker.proofs.sums.check_sum.Goals as goal

pub returns-then-reaches-clause-ok : goal.returns-then-reaches-clause-ok
returns-then-reaches-clause-ok c =
    has_sum (cut c.args.program.now c.args.cuts.now) (multipliers c.args.mults.now) c.args.aim c.start_of-start.result c.in-Ok.sum (c.start_of-start.ensures c.args.cuts.now) (mults_low-number (cut c.args.program.now c.args.cuts.now) (cut-instance c.args.program.now c.requires.numbers c.args.cuts.now) c.args.mults.now c.start_of-start.result) c.in-Ok.ensures.fits c.in-Ok.ensures.ok (c.reaches.ensures.0 c.if-reaches.true)

pub returns-else-reaches-clause-err : goal.returns-else-reaches-clause-err
returns-else-reaches-clause-err c =
    lacks_sum (cut c.args.program.now c.args.cuts.now) (multipliers c.args.mults.now) c.args.aim c.start_of-start.result c.in-Ok.sum (c.start_of-start.ensures c.args.cuts.now) (mults_low-number (cut c.args.program.now c.args.cuts.now) (cut-instance c.args.program.now c.requires.numbers c.args.cuts.now) c.args.mults.now c.start_of-start.result) c.in-Ok.ensures.fits c.in-Ok.ensures.ok c.args.node (λ r. let t : IsTrue false = c.if-reaches.ensures.1 r in cc)
