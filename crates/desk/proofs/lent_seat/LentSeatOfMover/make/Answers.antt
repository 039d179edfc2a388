use Rattle.std.proofs.Common.{refl}
use Rattle.job_table.specs.Kept.{said_in}
use Rattle.desk.specs.History.{Makes, CanMake}
use Rattle.desk.specs.SeatMoves.{told_of}
use Rattle.desk.proofs.Entries.{asked_if}
use Rattle.desk.proofs.lent_seat.LentSeatOfMover.make.Goals as goal

pub returns-clause-did : goal.returns-clause-did
returns-clause-did g c =
    let e = c.make.ensures in
    let becomes = g.T.SlotContents.becomes in
    let told = told_of c.args.self.now.desk.now in
    let start = g.T.SlotContents.opening told in (
      refl,
      refl,
      asked_if (CanMake becomes start) (g.T.SlotContents.legal told) (g.met.T.SlotContents.is_legal told) g.T.SlotContents.table (Makes becomes start) (λ log held leads. (held, leads)) _ (said_in g.M.Move.said c.make.result)
          c.args.self.now.seat.now.me c.make.new.me.me c.args.self.now.ready.ready e.seat.ready e.ok e.sure e.err,
    )
