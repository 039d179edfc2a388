use Rattle.document_checker.proofs.Exclusion.{accepted_apart}
use Rattle.document_checker.proofs.laws.accepted_documents_are_not_refused.Goals as goal

pub returns : goal.returns
returns c = accepted_apart c.instances_are_one.ensures c.reports_are_one.ensures
