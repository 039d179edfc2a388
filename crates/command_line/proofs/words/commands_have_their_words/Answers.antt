use Rattle.command_line.proofs.Commands.{asks_call, call_asks}
use Rattle.command_line.proofs.words.commands_have_their_words.Goals as goal

pub returns : goal.returns
returns c = λ words it. (asks_call words it, call_asks words it)
