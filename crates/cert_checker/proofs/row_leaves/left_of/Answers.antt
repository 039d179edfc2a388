use Rattle.case_tree.specs.Cuts.{cut}
use Rattle.cert_checker.specs.Cuts as Of
use Rattle.cert_checker.specs.Leaves.{wanted}
use Rattle.cert_checker.proofs.Widths.{cut-instance}
use Rattle.cert_checker.proofs.ColumnSums.{unfit_form}
use Rattle.cert_checker.proofs.Lefts.{left_fits, left_unfit, left_is}
use Rattle.cert_checker.proofs.row_leaves.left_of.Goals as goal

pub returns-in-None : goal.returns-in-None
returns-in-None c =
    let J = cut c.args.program.now c.args.cuts.now in
    let good = cut-instance c.args.program.now c.requires.numbers c.args.cuts.now in
    λ f. unfit_form J good c.args.mults.now c.args.j c.args.slot c.in-None.is c.requires.sum f.rows

pub returns-in-Ok : goal.returns-in-Ok
returns-in-Ok c =
    let J = cut c.args.program.now c.args.cuts.now in
    let good = cut-instance c.args.program.now c.requires.numbers c.args.cuts.now in
    let w = c.wanted.ensures c.args.cuts.now in (
      left_fits J good (wanted J (Of.aim c.args.aim)) c.args.mults.now c.args.j c.args.slot c.in-Some.sum c.wanted.result c.in-Some.is c.requires.sum w c.in-Ok.ensures.fits,
      left_is J good (wanted J (Of.aim c.args.aim)) c.args.mults.now c.args.j c.args.slot c.in-Some.sum c.wanted.result c.in-Some.is c.requires.sum w c.in-Ok.left c.in-Ok.ensures.ok,
    )

pub returns-in-Err : goal.returns-in-Err
returns-in-Err c =
    let J = cut c.args.program.now c.args.cuts.now in
    let good = cut-instance c.args.program.now c.requires.numbers c.args.cuts.now in
    left_unfit J good (wanted J (Of.aim c.args.aim)) c.args.mults.now c.args.j c.args.slot c.in-Some.sum c.wanted.result c.in-Some.is c.requires.sum (c.wanted.ensures c.args.cuts.now) c.in-Err.ensures.wide
