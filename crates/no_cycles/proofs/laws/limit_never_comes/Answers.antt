use Rattle.no_cycles.proofs.SecondPhase.{never_out}
use Rattle.no_cycles.proofs.laws.limit_never_comes.Goals as goal

pub returns : goal.returns
returns c = λ I zeroed t d e good s enough run. never_out I zeroed t d e good (λ room. s) enough run
