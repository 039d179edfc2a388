use Rattle.std.proofs.Common.{refl}
use Rattle.os_io.proofs.Halts.{one_halt}
use Rattle.os_io.proofs.halt.HaltWatch.look.Goals as goal

pub returns-then-there-clause-came : goal.returns-then-there-clause-came
returns-then-there-clause-came g c = (refl, refl, one_halt _ _ _ c.is_there-there.result c.is_there-there.ensures (λ there. refl) (λ not. absurd (cc)))

pub returns-else-there-clause-came : goal.returns-else-there-clause-came
returns-else-there-clause-came g c = (refl, refl, one_halt _ _ _ c.is_there-there.result c.is_there-there.ensures (λ there. absurd (cc)) (λ not. refl))
