use Rattle.handed_results.proofs.OneResult.{nothing_written}
use Rattle.handed_results.proofs.laws.written_options_hand_in_nothing.Goals as goal

pub returns : goal.returns
returns c = nothing_written
