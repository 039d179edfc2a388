use Rattle.doc_tree.proofs.Words.{refl}
use Rattle.doc_tree.proofs.Walking.Pieces.{name_taken}
use Rattle.doc_tree.proofs.machine.walks.name_length.Goals as goal

pub returns-then-is_name_start-clause-name : goal.returns-then-is_name_start-clause-name
returns-then-is_name_start-clause-name c = λ l. name_taken c.rest_length.result c.in-Some.first.now c.in-Some.rest.now c.args.bytes.now c.in-Some.ensures.cases.0 (c.if-is_name_start.ensures.0 refl) c.rest_length.ensures.chars
