use Rattle.workers.proofs.Rounds.{Claimed}
use Rattle.workers.proofs.work.work_off.Given as goal

-- rounds so far
abbrev pub invariant-loop : goal.invariant-loop
invariant-loop g l = Claimed g.U.Runner.ran (λ own. g.C.Mover.did l.initial.mover l.mover own)
