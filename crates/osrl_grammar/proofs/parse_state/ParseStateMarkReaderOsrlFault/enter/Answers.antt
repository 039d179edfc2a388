use Rattle.osrl_grammar.proofs.Names.{osrl, Start}
use Rattle.tag_tests.proofs.Readers.{one_step}
use Rattle.osrl_grammar.proofs.parse_state.ParseStateMarkReaderOsrlFault.enter.Goals as goal

pub returns : goal.returns
returns c = one_step osrl c.args.self.now c.go_in.new.self (Start c.args.name.now c.args.attributes.now) c.go_in.result c.go_in.ensures
