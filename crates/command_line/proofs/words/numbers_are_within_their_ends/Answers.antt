use Rattle.command_line.proofs.Ranges.{asks_within}
use Rattle.command_line.proofs.words.numbers_are_within_their_ends.Goals as goal

pub returns : goal.returns
returns c = asks_within
