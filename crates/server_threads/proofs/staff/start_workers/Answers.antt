use Rattle.std.proofs.Common.{arith, ap, ◌∙◌}
use Rattle.server_threads.specs.Talks.{DeskSeat}
use Rattle.server_threads.proofs.Rounds.{hired_begins, hired_more}
use Rattle.server_threads.proofs.staff.start_workers.Goals as goal

pub loop-number-init : goal.loop-number-init
loop-number-init g c = record {
  seat = c.requires.seat;
  hired = hired_begins _ _ _ _ _ c.requires.first c.requires.none;
  long = c.requires.empty;
  room = c.requires.room;
}

pub loop-number-preserved : goal.loop-number-preserved
loop-number-preserved g c =
    let before = c.loop-number.invariant in
    let s = c.split-seat.ensures in
    let p = c.hire-place.ensures in
    let q = c.push_back_reserved.ensures in
    let long = before.long in
    let room = before.room in record {
      seat = s.seat.0;
      hired = hired_more _ _ _ _ _ _ _ _ _ c.hire-place.result before.hired s.seat.1 (ap (λ (seat : DeskSeat g.row.T.Denot). seat.table_id) p.seat ∙ s.new.0.desk_is)
          (ap (λ (seat : DeskSeat g.row.T.Denot). seat.me.0) p.seat ∙ s.new.1) p.due q.items;
      long = omega (arith, q.len);
      room = omega (arith, q.capacity);
    }
