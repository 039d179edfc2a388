use Rattle.document_checker.proofs.Acceptance.{own_kind, documents_true}
use Rattle.document_checker.proofs.laws.accepted_documents_are_true.Goals as goal

pub returns-clause-kind : goal.returns-clause-kind
returns-clause-kind c = own_kind c.instances_are_one.ensures c.reports_are_one.ensures

pub returns-clause-is_true : goal.returns-clause-is_true
returns-clause-is_true c = documents_true c.instances_are_one.ensures c.reports_are_one.ensures
