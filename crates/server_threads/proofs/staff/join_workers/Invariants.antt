use Rattle.std.proofs.Common.{List}
use Rattle.std.specs.VecDeque.{deque_len}
use Rattle.desk.specs.declared.view.Met.{Met}
use Rattle.desk.specs.History.{StartsWith}
use Rattle.desk.specs.SeatMoves.{desk_id, IsSeatOf}
use Rattle.server_threads.specs.OpenLinks.{Staffed}
use Rattle.server_threads.specs.Talks.{AnyHistory}
use Rattle.server_threads.proofs.staff.join_workers.Given as goal

abbrev pub invariant-loop-first : goal.invariant-loop-first
invariant-loop-first g l = record {
  seat : IsSeatOf (desk_id l.means.desk.now) l.first;
  some : (met : List Met) × Staffed AnyHistory g.S.Runner.ran (desk_id l.means.desk.now) l.was.value.me.0 l.first.me.0 l.means.limits.workers met l.shifts.items;
  all : (met : List Met) → Staffed AnyHistory g.S.Runner.ran (desk_id l.means.desk.now) l.was.value.me.0 l.fn.first.me.0 l.means.limits.workers met l.fn.shifts.items → Staffed AnyHistory g.S.Runner.ran (desk_id l.means.desk.now) l.was.value.me.0 l.first.me.0 l.means.limits.workers met l.shifts.items;
  seen : StartsWith l.first.me.0.seen l.fn.first.me.0.seen;
}

abbrev pub decreases-loop-first : goal.decreases-loop-first
decreases-loop-first g l = deque_len l.shifts
