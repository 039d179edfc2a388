use Rattle.std.proofs.Common.{◌∙◌, length, subst, sym}
use Rattle.disks.specs.Disks.{IsWrittenAt, Only, LeavesOnly}
use Rattle.disks.proofs.Moments.{started, goes_on}
use Rattle.job_journal.specs.Journal.{MayTear}
use Rattle.job_journal.proofs.Crash.{torn_none}
use Rattle.job_journal.proofs.stored.write_through.Goals as goal

pub returns-in_err-write_at-clause-any_moment : goal.returns-in_err-write_at-clause-any_moment
returns-in_err-write_at-clause-any_moment g c = λ t.
    goes_on g.D.Disk.moment g.D.Disk.left_since c.args.disk.now c.args.disk.now c.write_at.new.self (MayTear c.args.at (length c.args.bytes.now) (g.D.Disk.may_leave c.args.disk.now)) _
    (started g.D.Disk.moment g.D.Disk.left_since c.args.disk.now _ (λ f left. (f, g.met.D.Disk.only_now c.args.disk.now f left, torn_none _ _ f))) c.write_at.ensures.time (c.write_at.ensures.crash t)

pub returns-in_err-sync-clause-any_moment : goal.returns-in_err-sync-clause-any_moment
returns-in_err-sync-clause-any_moment g c = λ t.
    goes_on g.D.Disk.moment g.D.Disk.left_since c.args.disk.now c.write_at.new.self c.sync.new.self (MayTear c.args.at (length c.args.bytes.now) (g.D.Disk.may_leave c.args.disk.now)) _
    (goes_on g.D.Disk.moment g.D.Disk.left_since c.args.disk.now c.args.disk.now c.write_at.new.self _ _
    (started g.D.Disk.moment g.D.Disk.left_since c.args.disk.now _ (λ f left. (f, g.met.D.Disk.only_now c.args.disk.now f left, torn_none _ _ f))) c.write_at.ensures.time (c.write_at.ensures.crash t))
    c.sync.ensures.time (λ f now. c.write_at.ensures.crash t f (c.sync.ensures.crash f now))

pub returns-clause-any_moment : goal.returns-clause-any_moment
returns-clause-any_moment g c = λ t.
    goes_on g.D.Disk.moment g.D.Disk.left_since c.args.disk.now c.write_at.new.self c.sync.new.self (MayTear c.args.at (length c.args.bytes.now) (g.D.Disk.may_leave c.args.disk.now)) _
    (goes_on g.D.Disk.moment g.D.Disk.left_since c.args.disk.now c.args.disk.now c.write_at.new.self _ _
    (started g.D.Disk.moment g.D.Disk.left_since c.args.disk.now _ (λ f left. (f, g.met.D.Disk.only_now c.args.disk.now f left, torn_none _ _ f))) c.write_at.ensures.time (c.write_at.ensures.crash t))
    c.sync.ensures.time (λ f now. c.write_at.ensures.crash t f (c.sync.ensures.crash f now))

pub returns-clause-written : goal.returns-clause-written
returns-clause-written g c = λ t. subst (λ f. IsWrittenAt (g.D.Disk.seen c.args.disk.now) c.args.at c.args.bytes.now f) (sym c.sync.ensures.seen) (c.in_ok-write_at.ensures.written t)

pub returns-clause-durable : goal.returns-clause-durable
returns-clause-durable g c = λ t. subst (λ f. Only f (g.D.Disk.may_leave c.sync.new.self)) (sym c.sync.ensures.seen) (c.in_ok-sync.ensures.durable (c.write_at.ensures.told ∙ t))
