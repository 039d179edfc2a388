use Rattle.doc_tree.proofs.Walking.Steps.{behind_prefix}
use Rattle.doc_tree.proofs.machine.walks.is_closed.Goals as goal

pub returns-in-Some-split_first : goal.returns-in-Some-split_first
returns-in-Some-split_first c = λ e. (c.in-Some-split_first.field-0-1.now, behind_prefix c.args.bytes.now c.args.name.now c.in-Some.rest.now c.in-Some-split_first.field-0-1.now c.in-Some-split_first.first.now c.in-Some.ensures.cases.0 c.in-Some.ensures.cases.1 c.in-Some-split_first.ensures.cases.0 e)
