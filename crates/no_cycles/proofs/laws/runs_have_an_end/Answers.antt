use Rattle.no_cycles.proofs.RunEnds.{runs_end}
use Rattle.no_cycles.proofs.laws.runs_have_an_end.Goals as goal

pub returns : goal.returns
returns c = λ I zeroed t k good none. runs_end I zeroed t k good (λ x. let (e, d, run, r) = x in none e d run)
