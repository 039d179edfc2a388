use Rattle.osrl_grammar.proofs.Names.{number, start, osrl, marks}
use Rattle.tag_tests.proofs.Firsts.{refused_first}
use Rattle.osrl_grammar.proofs.InOrder.{in_order}
use Rattle.osrl_grammar.proofs.reading_laws.first_and_least_is_told.Goals as goal

pub returns : goal.returns
returns c = λ root f a. refused_first osrl number in_order start (marks root) f a
