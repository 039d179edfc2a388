use Rattle.clap.specs.Words.{found_of}
use Rattle.command_line.proofs.Meanings.{command_asked_found}
use Rattle.command_line.proofs.words.subcommand_asked.Goals as goal

pub returns : goal.returns
returns c = command_asked_found c.args.matches.now c.in_ok-name.name.now (found_of c.in_ok-name.found.now) _ c.in_ok-name.ensures.name c.in_ok-name.ensures.rows c.asked_of.ensures
