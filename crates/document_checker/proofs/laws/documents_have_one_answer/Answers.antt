use Rattle.document_checker.proofs.OneAnswer.{answer_once}
use Rattle.document_checker.proofs.laws.documents_have_one_answer.Goals as goal

pub returns : goal.returns
returns c = answer_once c.instances_are_one.ensures c.reports_are_one.ensures c.tree_faults_have_one_text.ensures
