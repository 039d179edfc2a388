use Rattle.std.proofs.Common.{rules}
use Rattle.workers.proofs.Rounds.{none_given, round_more, round_last}
use Rattle.workers.proofs.work.work_off.Goals as goal

pub returns-then-not-work_one : goal.returns-then-not-work_one
returns-then-not-work_one g c =
    let w = c.work_one.ensures in
    round_last g.U.Runner.ran _ _ _ (λ a b. g.met.C.Mover.joins _ _ _ a b) c.loop.invariant w.0 w.1 w.2 w.3 (none_given c.work_one.result w.0 (search rules) w.4)

pub loop-preserved : goal.loop-preserved
loop-preserved g c =
    let w = c.work_one.ensures in
    round_more g.U.Runner.ran _ _ _ (λ a b. g.met.C.Mover.joins _ _ _ a b) c.loop.invariant w.0 w.1 w.2 w.3
