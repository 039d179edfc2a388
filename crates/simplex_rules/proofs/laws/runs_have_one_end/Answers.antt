use Rattle.simplex_rules.proofs.OneEnd.{run_once}
use Rattle.simplex_rules.proofs.laws.runs_have_one_end.Goals as goal

pub returns : goal.returns
returns c = λ I zeroed t d e f h b good p q. run_once I zeroed t d e f h b good p q
