use Rattle.std.proofs.Common.{sym, ◌∙◌, subst}
use Rattle.disks.specs.Disks.{LeavesOnly}
use Rattle.job_table.specs.Jobs.{Register}
use Rattle.job_solver.specs.Openings.{NumbersBeginWith}
use Rattle.job_solver.proofs.Openings.{made_on, table_on, no_damage, not_of_file, leaves_file, counted_back, opened_on, not_opened, WasOrBegins}
use Rattle.job_solver.proofs.opening.open_jobs.Goals as goal

pub returns-in-Ok-begin_with-clause-begins : goal.returns-in-Ok-begin_with-clause-begins
returns-in-Ok-begin_with-clause-begins g c =
    subst (λ (r : Register). NumbersBeginWith c.args.first c.begin_with.new.journal.end r.first r.issued) (sym c.into_table-table.ensures.goes_on) c.in-Ok-begin_with.ensures.begins

pub returns-in-Ok-begin_with-clause-goes_on : goal.returns-in-Ok-begin_with-clause-goes_on
returns-in-Ok-begin_with-clause-goes_on g c =
    made_on g.D.Disk.seen g.D.Disk.may_leave g.D.Disk.told c.args.first c.in-Ok.journal.disk c.begin_with.new.journal.disk c.in-Ok.journal.end c.begin_with.new.journal.end c.open_journal.new.table
    c.begin_with.new.table c.into_table-table.result c.in-Ok.ensures.made c.in-Ok-begin_with.ensures.begun c.into_table-table.ensures.goes_on

pub returns-in-Ok-begin_with-clause-opened : goal.returns-in-Ok-begin_with-clause-opened
returns-in-Ok-begin_with-clause-opened g c = λ tells.
    table_on g.D.Disk.seen g.D.Disk.may_leave g.D.Disk.told c.args.first (g.D.Disk.seen c.args.disk) c.in-Ok.journal.disk c.begin_with.new.journal.disk c.in-Ok.journal.end c.begin_with.new.journal.end
    c.open_journal.new.table c.begin_with.new.table c.into_table-table.result (c.in-Ok.ensures.told ∙ tells) (c.in-Ok.ensures.opened tells) c.in-Ok-begin_with.ensures.begun c.into_table-table.ensures.goes_on

pub returns-in-Err-begin_with-clause-damaged : goal.returns-in-Err-begin_with-clause-damaged
returns-in-Err-begin_with-clause-damaged g c = λ tells. no_damage (g.D.Disk.seen c.args.disk) c.in-Err-begin_with.fault c.in-Err-begin_with.ensures.err

pub returns-in-Err-begin_with-clause-cause : goal.returns-in-Err-begin_with-clause-cause
returns-in-Err-begin_with-clause-cause g c =
    counted_back g.D.Disk.faults c.in-Err-begin_with.fault c.begin_with.new.journal.disk c.into_disk.result (g.D.Disk.faults c.args.disk) (g.D.Disk.faults c.in-Ok.journal.disk)
    c.in-Ok.ensures.cause c.into_disk.ensures c.in-Err-begin_with.ensures.cause

pub returns-in-Ok-begin_with-clause-any_moment : goal.returns-in-Ok-begin_with-clause-any_moment
returns-in-Ok-begin_with-clause-any_moment g c = λ deeds t fit stands.
    opened_on g.D.Disk.may_leave g.D.Disk.moment g.D.Disk.left_since c.args.first deeds c.args.disk g.D.Disk.seen c.in-Ok.journal.disk c.begin_with.new.journal.disk _ _ (g.D.Disk.seen c.args.disk) fit stands (c.in-Ok.ensures.opened t)
    (c.in-Ok.ensures.any_moment deeds t fit stands) (c.begin_with.ensures.any_moment deeds (c.in-Ok.ensures.told ∙ t) (c.in-Ok.ensures.same deeds t fit stands).1)

pub returns-in-Err-begin_with-clause-any_moment_err : goal.returns-in-Err-begin_with-clause-any_moment_err
returns-in-Err-begin_with-clause-any_moment_err g c = λ deeds t fit stands.
    subst (λ left. LeavesOnly g.D.Disk.moment g.D.Disk.left_since c.args.disk left (WasOrBegins g.D.Disk.may_leave g.D.Disk.moment g.D.Disk.left_since c.args.first deeds c.args.disk)) (sym c.into_disk.ensures)
    (opened_on g.D.Disk.may_leave g.D.Disk.moment g.D.Disk.left_since c.args.first deeds c.args.disk g.D.Disk.seen c.in-Ok.journal.disk c.begin_with.new.journal.disk _ _ (g.D.Disk.seen c.args.disk) fit stands (c.in-Ok.ensures.opened t)
    (c.in-Ok.ensures.any_moment deeds t fit stands) (c.begin_with.ensures.any_moment deeds (c.in-Ok.ensures.told ∙ t) (c.in-Ok.ensures.same deeds t fit stands).1))

pub returns-in-Err-clause-any_moment_err : goal.returns-in-Err-clause-any_moment_err
returns-in-Err-clause-any_moment_err g c = λ deeds t fit stands.
    not_opened g.D.Disk.may_leave g.D.Disk.moment g.D.Disk.left_since c.args.first deeds c.args.disk c.in-Err.back.1 (c.in-Err.ensures.any_moment_err deeds t fit stands)

pub returns-in-Err-begin_with-clause-left : goal.returns-in-Err-begin_with-clause-left
returns-in-Err-begin_with-clause-left g c = λ of_file. absurd (not_of_file c.in-Err-begin_with.fault c.in-Err-begin_with.ensures.err of_file)

pub returns-in-Err-clause-left : goal.returns-in-Err-clause-left
returns-in-Err-clause-left g c = λ of_file. c.in-Err.ensures.left (leaves_file c.in-Err.back.0 of_file)
