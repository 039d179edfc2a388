use Rattle.std.proofs.Common.{sym, subst}
use Rattle.std.proofs.lemmas.Result.{MatchResult-weaker, err_from_is_err_and}
use Rattle.std.specs.Result.{IfErr}
use Rattle.document_checker.specs.Documents.{DocsRefuse}
use Rattle.document_checker.proofs.Pairs.{accepted_text, report_refused, result_refused}
use Rattle.document_checker.proofs.documents.check_docs.Goals as goal

pub returns-in_err-report-clause-err : goal.returns-in_err-report-clause-err
returns-in_err-report-clause-err c =
    let exit = err_from_is_err_and c.from_residual-in_err-report.result c.from_residual-in_err-report.ensures.1 in
    subst (λ r. IfErr r (DocsRefuse c.args.osil.now c.args.osrl.now)) (sym exit.1)
    (subst (λ r. DocsRefuse c.args.osil.now c.args.osrl.now r) (sym exit.2) (result_refused c.in_ok-instance.ensures.ok c.in_err-report.ensures.err))

pub returns-clause-ok : goal.returns-clause-ok
returns-clause-ok c =
    MatchResult-weaker c.check_report.result c.check_report.ensures.ok
    (λ k accepts. accepted_text c.in_ok-instance.ensures.ok c.in_ok-report.ensures.ok accepts)
    (λ e p. p)

pub returns-clause-err : goal.returns-clause-err
returns-clause-err c =
    MatchResult-weaker c.check_report.result c.check_report.ensures.err
    (λ k p. p)
    (λ r refuses. report_refused c.in_ok-instance.ensures.ok c.in_ok-report.ensures.ok refuses)

pub check_report-requires : goal.check_report-requires
check_report-requires c = λ claim is. (c.read_claims_fit.ensures.nodes c.args.osrl.now c.in_ok-report.report claim c.in_ok-report.ensures.ok is).1
