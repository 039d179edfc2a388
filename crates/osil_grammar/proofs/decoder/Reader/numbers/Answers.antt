use Rattle.osil_grammar.proofs.Words.{arith}
use Rattle.osil_grammar.proofs.HeldNumbers.{held_few}
use Rattle.osil_grammar.proofs.decoder.Reader.numbers.Goals as goal

pub numbers-requires-clause-few : goal.numbers-requires-clause-few
numbers-requires-clause-few c = held_few c.self.inside.parse_state c.self.invariant

pub returns-clause-few : goal.returns-clause-few
returns-clause-few c = let is = c.numbers.ensures in let few = held_few c.self.inside.parse_state c.self.invariant in omega (arith, is, few)
