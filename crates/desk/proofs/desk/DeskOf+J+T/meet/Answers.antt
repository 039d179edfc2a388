use Rattle.std.proofs.Common.{rules, List, Some, sym, ap, subst}
use Rattle.desk.specs.declared.view.SeatEntry.{SeatEntry}
use Rattle.desk.specs.History.{CanMake}
use Rattle.desk.specs.SeatMoves.{told_of}
use Rattle.desk.proofs.Seats.{joins, meets_of}
use Rattle.desk.proofs.desk.DeskOf+J+T.meet.Goals as goal

pub join_seat-requires : goal.join_seat-requires
join_seat-requires g c =
    let mine = c.requires.seat.ready in
    let its = c.requires.other.ready in
    (search rules, search rules, its.bare, search rules, joins _ _ _ _ _ mine.live c.requires.first mine.idle its.live its.idle)

pub returns-clause-met : goal.returns-clause-met
returns-clause-met g c =
    meets_of g.T.SlotContents.becomes c.args.me.now.me.0 c.args.other.me.0 _ _ (Some (g.T.SlotContents.opening (told_of c.args.self.now))) 1 0 (ap (λ m. m.0) c.join_seat.ensures.2) c.requires.first
    c.settle.ensures.told

pub returns-clause-legal : goal.returns-clause-legal
returns-clause-legal g c =
    g.met.T.SlotContents.is_legal (told_of c.args.self.now) c.settle.new.me.me.0.seen
    (subst (λ (seen : List SeatEntry). CanMake g.T.SlotContents.becomes (g.T.SlotContents.opening (told_of c.args.self.now)) seen) (sym (ap (λ m. m.0.seen) c.settle.ensures.told.0)) c.settle.ensures.told.2)
