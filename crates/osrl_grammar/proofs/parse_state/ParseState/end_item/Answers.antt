use Rattle.osrl_grammar.proofs.Endings.{item_ends}
use Rattle.osrl_grammar.proofs.parse_state.ParseState.end_item.Goals as goal

pub returns : goal.returns
returns c = item_ends _ c.args.self.now c.read_item.new.self c.args.part c.self.view_is c.in_ok-read_item.ensures
