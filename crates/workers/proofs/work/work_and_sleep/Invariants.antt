use Rattle.workers.proofs.Rounds.{Rested}
use Rattle.workers.proofs.work.work_and_sleep.Given as goal

-- nothing waited when it last worked
abbrev pub invariant-loop : goal.invariant-loop
invariant-loop g l = Rested g.U.Runner.ran (λ own. g.C.Mover.did l.fn.mover l.mover own)
