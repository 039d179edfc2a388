use Rattle.osrl_grammar.proofs.ItemRatios.{exact_refused}
use Rattle.osrl_grammar.proofs.numbers.unread.Goals as goal

pub returns-in-NotNumber : goal.returns-in-NotNumber
returns-in-NotNumber c = λ text refuses. exact_refused text _ c.args.fault c.in-NotNumber.is refuses
