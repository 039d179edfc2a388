use Rattle.std.proofs.Common.{arith}
use Rattle.desk.proofs.Histories.{starts_again}
use Rattle.server_threads.proofs.Rounds.{staffed_over, starts_through}
use Rattle.server_threads.proofs.staff.join_workers.Goals as goal

pub returns-clause-left : goal.returns-clause-left
returns-clause-left g c =
    let none = c.loop-first-test.false in
    let long = c.loop-first.shifts.ok.0 in
    λ met s. staffed_over _ _ _ _ _ _ _ c.loop-first.shifts.items (c.loop-first.invariant.all met s) (omega (arith, c.len.ensures))

pub loop-first-preserved : goal.loop-first-preserved
loop-first-preserved g c =
    let before = c.loop-first.invariant in
    let one = c.join_first_worker.ensures in record {
      seat = one.seat;
      some = (before.some.0, one.staffed before.some.0 before.some.1);
      all = λ met s. one.staffed met (before.all met s);
      seen = starts_through _ _ _ before.seen one.seen;
    }

pub loop-first-init : goal.loop-first-init
loop-first-init g c = record {
  seat = c.requires.seat;
  some = c.requires.staffed;
  all = λ met s. s;
  seen = starts_again _;
}
