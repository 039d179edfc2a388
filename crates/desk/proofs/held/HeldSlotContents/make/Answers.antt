use Rattle.desk.proofs.Entries.{held_stays}
use Rattle.desk.proofs.held.HeldSlotContents.make.Goals as goal

pub returns-clause-err : goal.returns-clause-err
returns-clause-err g c = held_stays (g.M.Move.said c.make.result) c.args.self.now _ c.make.ensures.err
