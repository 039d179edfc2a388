use Rattle.std.proofs.Common.{arith}
use Rattle.job_journal.proofs.Aheads.{held_length, held_passed}
use Rattle.job_journal.proofs.pieces.Ahead.pass.Goals as goal

pub returns-clause-rest : goal.returns-clause-rest
returns-clause-rest c =
    let s = c.args.self.now in
    let long = held_length s.room.items s.from s.to (omega (arith, s.within, s.room.ok)) in
    held_passed s.room.items s.from s.to c.args.n (omega (arith, c.requires, long))
