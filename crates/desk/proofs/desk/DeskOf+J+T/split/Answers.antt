use Rattle.std.proofs.Common.{rules, List, sym, ap, subst}
use Rattle.desk.specs.declared.view.SeatEntry.{SeatEntry}
use Rattle.desk.specs.History.{CanMake}
use Rattle.desk.specs.SeatMoves.{told_of}
use Rattle.desk.proofs.Seats.{splits}
use Rattle.desk.proofs.desk.DeskOf+J+T.split.Goals as goal

pub split_seat-other-requires : goal.split_seat-other-requires
split_seat-other-requires g c = (search rules, search rules, splits _ _ _ c.requires.seat.ready.live c.requires.first c.requires.seat.ready.idle)

pub returns-clause-legal : goal.returns-clause-legal
returns-clause-legal g c =
    g.met.T.SlotContents.is_legal (told_of c.args.self.now) c.settle.new.me.me.0.seen
    (subst (λ (seen : List SeatEntry). CanMake g.T.SlotContents.becomes (g.T.SlotContents.opening (told_of c.args.self.now)) seen) (sym (ap (λ m. m.0.seen) c.settle.ensures.told.0)) c.settle.ensures.told.2)
