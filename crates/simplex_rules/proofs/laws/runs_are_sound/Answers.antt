use Rattle.simplex_rules.proofs.Moments.{run_true}
use Rattle.simplex_rules.proofs.laws.runs_are_sound.Goals as goal

pub returns : goal.returns
returns c = λ I zeroed t d e f good run. run_true I zeroed t d e f good run
