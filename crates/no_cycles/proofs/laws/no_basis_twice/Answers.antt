use Rattle.no_cycles.proofs.SecondPhase.{none_twice}
use Rattle.no_cycles.proofs.Repeats.{once}
use Rattle.no_cycles.proofs.laws.no_basis_twice.Goals as goal

pub returns-clause-turns : goal.returns-clause-turns
returns-clause-turns c = λ I zeroed t d at k good room first turns i j h l same. once I zeroed t d at k good room first turns i j h l same

pub returns-clause-runs : goal.returns-clause-runs
returns-clause-runs c = λ I zeroed t d e f good run. none_twice good run.room run.comes
