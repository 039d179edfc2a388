use Rattle.handed_results.proofs.Walks.{heard_left}
use Rattle.handed_results.proofs.parse_state.ParseStateMarkFold.chars.Goals as goal

pub returns : goal.returns
returns c = heard_left c.hear.result c.args.text.now c.args.self.now _ c.hear.ensures
