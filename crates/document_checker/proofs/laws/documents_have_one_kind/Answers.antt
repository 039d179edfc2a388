use Rattle.document_checker.proofs.Acceptance.{one_kind}
use Rattle.document_checker.proofs.laws.documents_have_one_kind.Goals as goal

pub returns : goal.returns
returns c = one_kind c.instances_are_one.ensures c.reports_are_one.ensures
