use Rattle.std.proofs.Common.{[], refl}
use Rattle.job_journal.proofs.ClosedDrafts.{drafted_at}
use Rattle.job_journal.proofs.draft.Draft.begun.Goals as goal

pub returns-in-Ok-clause-drafted : goal.returns-in-Ok-clause-drafted
returns-in-Ok-clause-drafted g c = λ t. drafted_at g.D.Disk.seen g.D.Disk.may_leave c.begin_anew.new.disk 0 [] refl (c.in-Ok.ensures.begun t)
