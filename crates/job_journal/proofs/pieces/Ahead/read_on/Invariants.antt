use Rattle.std.proofs.Common.{◌≡◌, ◌≤◌}
use Rattle.std.specs.Prelude.{true}
use Rattle.job_journal.specs.Ahead.{StandsAhead, unread}
use Rattle.job_journal.specs.Opening.{Calm}
use Rattle.job_journal.proofs.pieces.Ahead.read_on.Given as goal

abbrev pub invariant-loop-self : goal.invariant-loop-self
invariant-loop-self g l = record {
  calm : Calm g.D.Disk.told g.D.Disk.seen g.D.Disk.may_leave g.D.Disk.moment g.D.Disk.left_since l.fn.disk l.disk;
  faults : g.D.Disk.faults l.disk ≡ g.D.Disk.faults l.fn.disk;
  ahead : g.D.Disk.told l.fn.disk ≡ true → StandsAhead (g.D.Disk.seen l.fn.disk) l.fn.self → StandsAhead (g.D.Disk.seen l.fn.disk) l.self;
  place : l.self.place ≡ l.fn.self.place;
  from : l.self.from ≡ 0;
  no_longer : l.self.len ≤ l.fn.self.len;
}

abbrev pub decreases-loop-self : goal.decreases-loop-self
decreases-loop-self g l = unread l.self
