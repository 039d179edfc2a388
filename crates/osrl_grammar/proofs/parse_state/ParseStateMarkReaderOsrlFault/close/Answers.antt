use Rattle.osrl_grammar.proofs.Names.{osrl, Finish}
use Rattle.tag_tests.proofs.Readers.{one_step}
use Rattle.osrl_grammar.proofs.parse_state.ParseStateMarkReaderOsrlFault.close.Goals as goal

pub returns : goal.returns
returns c = one_step osrl c.args.self.now c.go_out.new.self (Finish c.args._name.now) c.go_out.result (c.go_out.ensures c.args._name.now)
