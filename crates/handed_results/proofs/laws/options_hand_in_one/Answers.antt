use Rattle.handed_results.proofs.OneResult.{hands_once}
use Rattle.handed_results.proofs.laws.options_hand_in_one.Goals as goal

pub returns : goal.returns
returns c = hands_once
