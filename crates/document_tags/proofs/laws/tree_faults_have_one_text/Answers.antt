use Rattle.document_tags.proofs.FaultTexts.{tree_text_once}
use Rattle.document_tags.proofs.laws.tree_faults_have_one_text.Goals as goal

pub returns : goal.returns
returns c = tree_text_once
