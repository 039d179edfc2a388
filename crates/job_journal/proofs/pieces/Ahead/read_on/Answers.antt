use Rattle.std.proofs.Common.{arith}
use Rattle.job_journal.specs.Ahead.{held_of}
use Rattle.job_journal.proofs.Aheads.{held_length, enough_read}
use Rattle.job_journal.proofs.pieces.Ahead.read_on.Goals as goal

pub returns-clause-ahead : goal.returns-clause-ahead
returns-clause-ahead g c = λ t stands.
    let i = c.loop-self.invariant in
    let a = c.loop-self.self in
    let file = g.D.Disk.seen c.args.disk.now in
    let now = i.ahead t stands in
    let long = held_length a.room.items a.from a.to (omega (arith, a.within, a.room.ok)) in (
      now.0,
      enough_read file a.place a.len (held_of a) now.0 now.1 (λ few.
          let none = c.can_read.ensures.no c.loop-self-test.false i.from (omega (arith, few, long, i.from)) in
          omega (arith, none, long)),
    )
