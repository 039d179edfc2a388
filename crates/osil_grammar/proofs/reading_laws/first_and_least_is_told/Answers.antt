use Rattle.osil_grammar.proofs.Words.{number, start, osil, marks}
use Rattle.tag_tests.proofs.Firsts.{refused_first}
use Rattle.osil_grammar.proofs.InOrder.{in_order}
use Rattle.osil_grammar.proofs.reading_laws.first_and_least_is_told.Goals as goal

pub returns : goal.returns
returns c root r a = refused_first osil (λ t. number t.refusal) in_order start (marks root) r a
