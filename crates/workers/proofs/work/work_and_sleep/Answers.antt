use Rattle.workers.proofs.Rounds.{rest_again}
use Rattle.workers.proofs.work.work_and_sleep.Goals as goal

pub returns-then-not-woken : goal.returns-then-not-woken
returns-then-not-woken g c = rest_again g.U.Runner.ran _ _ _ (λ a b. g.met.C.Mover.joins _ _ _ a b) c.loop.invariant c.work_off-in-loop.ensures

pub loop-preserved : goal.loop-preserved
loop-preserved g c = rest_again g.U.Runner.ran _ _ _ (λ a b. g.met.C.Mover.joins _ _ _ a b) c.loop.invariant c.work_off-in-loop.ensures
