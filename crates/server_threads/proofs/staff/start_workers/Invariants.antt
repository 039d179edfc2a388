use Rattle.std.proofs.Common.{◌≡◌, ◌≤◌}
use Rattle.std.specs.VecDeque.{deque_len, deque_capacity}
use Rattle.desk.specs.SeatMoves.{desk_id, IsSeatOf}
use Rattle.server_threads.specs.OpenLinks.{Hired}
use Rattle.server_threads.specs.Talks.{AnyHistory}
use Rattle.server_threads.proofs.staff.start_workers.Given as goal

abbrev pub invariant-loop-number : goal.invariant-loop-number
invariant-loop-number g l = record {
  seat : IsSeatOf (desk_id l.means.desk.now) l.first;
  hired : Hired AnyHistory g.S.Runner.ran (desk_id l.means.desk.now) l.fn.first.me.0 l.first.me.0 l.number l.shifts.items;
  long : deque_len l.shifts ≡ l.number;
  room : l.means.limits.workers ≤ deque_capacity l.shifts;
}
