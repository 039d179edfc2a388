use Rattle.std.proofs.Common.{◌≡◌, ◌-◌, List, []}
use Rattle.std.specs.Prelude.{true}
use Rattle.disks.specs.Disks.{LeavesOnly}
use Rattle.effects.specs.Records.{Deed, AllFit}
use Rattle.job_journal.specs.Journal.{FileStandsFor}
use Rattle.job_journal.specs.Ahead.{StandsAhead}
use Rattle.job_journal.specs.Opening.{Calm}
use Rattle.job_journal.specs.Drafts.{IsDrafted}
use Rattle.job_journal.specs.Compacting.{is_held, shortened}
use Rattle.job_journal.specs.Copies.{IsCopiedUpTo}
use Rattle.job_journal.proofs.RecordCopies.{next_after}
use Rattle.job_journal.proofs.compacting.copy.Given as goal

abbrev pub invariant-loop-after : goal.invariant-loop-after
invariant-loop-after g l = record {
  calm : Calm g.D.Disk.told g.D.Disk.seen g.D.Disk.may_leave g.D.Disk.moment g.D.Disk.left_since l.fn.disk l.disk;
  told : g.E.Disk.told l.draft.disk ≡ g.E.Disk.told l.fn.draft.disk;
  old_faults : g.D.Disk.faults l.disk ≡ g.D.Disk.faults l.fn.disk;
  new_faults : g.E.Disk.faults l.draft.disk ≡ g.E.Disk.faults l.fn.draft.disk;
  drafted : g.E.Disk.told l.draft.disk ≡ true → (deeds : List Deed) × IsDrafted g.E.Disk.seen g.E.Disk.may_leave l.draft.disk l.draft.end deeds;
  moments : (deeds : List Deed) → g.E.Disk.told l.fn.draft.disk ≡ true → IsDrafted g.E.Disk.seen g.E.Disk.may_leave l.fn.draft.disk l.fn.draft.end deeds
      → LeavesOnly g.E.Disk.moment g.E.Disk.left_since l.fn.draft.disk l.draft.disk (FileStandsFor []);
  ahead : g.D.Disk.told l.fn.disk ≡ true → StandsAhead (g.D.Disk.seen l.fn.disk) l.ahead;
  copied : g.D.Disk.told l.fn.disk ≡ true → (done : List Deed) × AllFit done × IsCopiedUpTo (g.D.Disk.seen l.fn.disk) l.ahead.place done × (l.next ≡ next_after 1 done)
      × (g.E.Disk.told l.fn.draft.disk ≡ true → IsDrafted g.E.Disk.seen g.E.Disk.may_leave l.fn.draft.disk l.fn.draft.end []
      → IsDrafted g.E.Disk.seen g.E.Disk.may_leave l.draft.disk l.draft.end (shortened (is_held (g.R.Replay.holds l.fn.table)) 1 done));
}

abbrev pub decreases-loop-after : goal.decreases-loop-after
decreases-loop-after g l = l.ahead.len - l.ahead.place
