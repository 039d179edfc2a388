use Rattle.std.proofs.lemmas.Result.{on_ok_weaker, IfErr-weaker}
use Rattle.fraction.specs.Frac.{ratio}
use Rattle.certificate.specs.Meanings.{multipliers}
use Rattle.case_tree.specs.Cuts.{cut}
use Rattle.cert_checker.specs.Grids.{StepsRefuse}
use Rattle.cert_checker.proofs.Widths.{cut-instance}
use Rattle.cert_checker.proofs.GridSteps.{is_low}
use Rattle.cert_checker.proofs.grids.check_steps.Goals as goal

pub returns-in-Ok-clause-fits : goal.returns-in-Ok-clause-fits
returns-in-Ok-clause-fits c =
    let J = cut c.args.program.now c.args.cuts.now in
    let ms = multipliers c.args.mults.now in
    on_ok_weaker c.check_value.result (λ f. f c.args.cuts.now ms (is_low J (cut-instance c.args.program.now c.requires.numbers c.args.cuts.now) ms c.requires.legal (ratio c.zero.result) c.zero.ensures c.in-Ok.low c.in-Ok.ensures.fits c.in-Ok.ensures.ok)) c.check_value.ensures.fits

pub returns-in-Ok-clause-ok : goal.returns-in-Ok-clause-ok
returns-in-Ok-clause-ok c =
    let J = cut c.args.program.now c.args.cuts.now in
    let ms = multipliers c.args.mults.now in
    on_ok_weaker c.check_value.result (λ f. f c.args.cuts.now ms (is_low J (cut-instance c.args.program.now c.requires.numbers c.args.cuts.now) ms c.requires.legal (ratio c.zero.result) c.zero.ensures c.in-Ok.low c.in-Ok.ensures.fits c.in-Ok.ensures.ok)) c.check_value.ensures.ok

pub returns-in-Ok-clause-err : goal.returns-in-Ok-clause-err
returns-in-Ok-clause-err c =
    let J = cut c.args.program.now c.args.cuts.now in
    let ms = multipliers c.args.mults.now in
    IfErr-weaker c.check_value.result _ (StepsRefuse J (ratio c.args.step) ms (ratio c.args.aim) c.args.node)
    (λ r f. f c.args.cuts.now ms (is_low J (cut-instance c.args.program.now c.requires.numbers c.args.cuts.now) ms c.requires.legal (ratio c.zero.result) c.zero.ensures c.in-Ok.low c.in-Ok.ensures.fits c.in-Ok.ensures.ok)) c.check_value.ensures.err
