use Rattle.document_checker.proofs.documents.shown_claim.Goals as goal

pub check_report-requires : goal.check_report-requires
check_report-requires c = λ claim is. (c.read_claims_fit.ensures.nodes c.args.osrl.now c.in_ok-report.report claim c.in_ok-report.ensures.ok is).1
