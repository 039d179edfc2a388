use Rattle.job_table.specs.Kept.{said_in}
use Rattle.desk.proofs.Steps.{adds_if}
use Rattle.desk.proofs.desk.DeskOf+J+T.make.Goals as goal

pub returns-clause-ok : goal.returns-clause-ok
returns-clause-ok g c =
    adds_if g.T.SlotContents.becomes c.args.me.now.me.0 c.draw-number.result _ _ _ _ _ (said_in g.M.Move.said c.answer.result) c.requires.seat.ready.stand c.draw-number.ensures.1
    c.take-held.ensures.1 c.answer.ensures.ok
