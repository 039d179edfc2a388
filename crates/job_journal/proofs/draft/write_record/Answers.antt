use Rattle.std.proofs.Common.{◌≡◌, ◌+◌, true, [], length, sym, ◌∙◌, ap, arith}
use Rattle.disks.proofs.Moments.{started, goes_on}
use Rattle.job_journal.specs.Journal.{FileStandsFor}
use Rattle.job_journal.proofs.ClosedDrafts.{drafted_length, written_covers, closed_on, stands_for_none, first_drafted, later_drafted}
use Rattle.job_journal.proofs.draft.write_record.Goals as goal

pub write_at-requires : goal.write_at-requires
write_at-requires g c = λ t. let (deeds, o) = c.requires.drafted t in omega (arith, o.place, ap length o.file, drafted_length o.gate deeds)

pub write_at-requires-2 : goal.write_at-requires-2
write_at-requires-2 g c = λ t.
    let t_0 : g.D.Disk.told c.args.disk.now ≡ true = sym c.write_at.ensures.told ∙ t in
    let (deeds, o) = c.requires.drafted t_0 in
    let covers = written_covers (g.D.Disk.seen c.args.disk.now) (c.args.end + 1) c.args.bytes.now (g.D.Disk.seen c.write_at.new.self) (c.in_ok-write_at.ensures.written t_0) (omega (arith, o.place, ap length o.file, drafted_length o.gate deeds)) in
    omega (arith, covers)

pub returns-in_err-write_at-clause-any_moment : goal.returns-in_err-write_at-clause-any_moment
returns-in_err-write_at-clause-any_moment g c = λ deeds t o.
    let P = FileStandsFor [] in
    let at_start = started g.D.Disk.moment g.D.Disk.left_since c.args.disk.now P (λ f left. stands_for_none o.gate (g.D.Disk.may_leave c.args.disk.now) o.shut o.closed f (g.met.D.Disk.only_now c.args.disk.now f left)) in
    let closed = closed_on (c.args.end + 1) (length c.args.bytes.now) o.gate (g.D.Disk.may_leave c.args.disk.now) (g.D.Disk.may_leave c.write_at.new.self) (omega arith) o.closed (c.write_at.ensures.crash t) in
    let run_1 = goes_on g.D.Disk.moment g.D.Disk.left_since c.args.disk.now c.args.disk.now c.write_at.new.self P _ at_start c.write_at.ensures.time (stands_for_none o.gate (g.D.Disk.may_leave c.write_at.new.self) o.shut closed) in
    run_1

pub returns-then-end-eq0-clause-any_moment : goal.returns-then-end-eq0-clause-any_moment
returns-then-end-eq0-clause-any_moment g c = λ deeds t o.
    let P = FileStandsFor [] in
    let at_start = started g.D.Disk.moment g.D.Disk.left_since c.args.disk.now P (λ f left. stands_for_none o.gate (g.D.Disk.may_leave c.args.disk.now) o.shut o.closed f (g.met.D.Disk.only_now c.args.disk.now f left)) in
    let closed = closed_on (c.args.end + 1) (length c.args.bytes.now) o.gate (g.D.Disk.may_leave c.args.disk.now) (g.D.Disk.may_leave c.write_at.new.self) (omega arith) o.closed (c.write_at.ensures.crash t) in
    let run_1 = goes_on g.D.Disk.moment g.D.Disk.left_since c.args.disk.now c.args.disk.now c.write_at.new.self P _ at_start c.write_at.ensures.time (stands_for_none o.gate (g.D.Disk.may_leave c.write_at.new.self) o.shut closed) in
    run_1

pub returns-in_err-write_at-2-clause-any_moment : goal.returns-in_err-write_at-2-clause-any_moment
returns-in_err-write_at-2-clause-any_moment g c = λ deeds t o.
    let P = FileStandsFor [] in
    let at_start = started g.D.Disk.moment g.D.Disk.left_since c.args.disk.now P (λ f left. stands_for_none o.gate (g.D.Disk.may_leave c.args.disk.now) o.shut o.closed f (g.met.D.Disk.only_now c.args.disk.now f left)) in
    let closed = closed_on (c.args.end + 1) (length c.args.bytes.now) o.gate (g.D.Disk.may_leave c.args.disk.now) (g.D.Disk.may_leave c.write_at.new.self) (omega arith) o.closed (c.write_at.ensures.crash t) in
    let run_1 = goes_on g.D.Disk.moment g.D.Disk.left_since c.args.disk.now c.args.disk.now c.write_at.new.self P _ at_start c.write_at.ensures.time (stands_for_none o.gate (g.D.Disk.may_leave c.write_at.new.self) o.shut closed) in
    let closed_2 = closed_on c.args.end 1 o.gate (g.D.Disk.may_leave c.write_at.new.self) (g.D.Disk.may_leave c.write_at-2.new.self) (omega (arith, c.if-end-eq0.false)) closed (c.write_at-2.ensures.crash (c.write_at.ensures.told ∙ t)) in
    let run_2 = goes_on g.D.Disk.moment g.D.Disk.left_since c.args.disk.now c.write_at.new.self c.write_at-2.new.self P _ run_1 c.write_at-2.ensures.time (stands_for_none o.gate (g.D.Disk.may_leave c.write_at-2.new.self) o.shut closed_2) in
    run_2

pub returns-clause-any_moment : goal.returns-clause-any_moment
returns-clause-any_moment g c = λ deeds t o.
    let P = FileStandsFor [] in
    let at_start = started g.D.Disk.moment g.D.Disk.left_since c.args.disk.now P (λ f left. stands_for_none o.gate (g.D.Disk.may_leave c.args.disk.now) o.shut o.closed f (g.met.D.Disk.only_now c.args.disk.now f left)) in
    let closed = closed_on (c.args.end + 1) (length c.args.bytes.now) o.gate (g.D.Disk.may_leave c.args.disk.now) (g.D.Disk.may_leave c.write_at.new.self) (omega arith) o.closed (c.write_at.ensures.crash t) in
    let run_1 = goes_on g.D.Disk.moment g.D.Disk.left_since c.args.disk.now c.args.disk.now c.write_at.new.self P _ at_start c.write_at.ensures.time (stands_for_none o.gate (g.D.Disk.may_leave c.write_at.new.self) o.shut closed) in
    let closed_2 = closed_on c.args.end 1 o.gate (g.D.Disk.may_leave c.write_at.new.self) (g.D.Disk.may_leave c.write_at-2.new.self) (omega (arith, c.if-end-eq0.false)) closed (c.write_at-2.ensures.crash (c.write_at.ensures.told ∙ t)) in
    let run_2 = goes_on g.D.Disk.moment g.D.Disk.left_since c.args.disk.now c.write_at.new.self c.write_at-2.new.self P _ run_1 c.write_at-2.ensures.time (stands_for_none o.gate (g.D.Disk.may_leave c.write_at-2.new.self) o.shut closed_2) in
    run_2

pub returns-then-end-eq0-clause-written : goal.returns-then-end-eq0-clause-written
returns-then-end-eq0-clause-written g c = λ deeds d t is o.
    first_drafted g.D.Disk.seen g.D.Disk.may_leave c.args.disk.now c.write_at.new.self c.args.bytes.now d deeds c.args.end is c.if-end-eq0.true o (c.in_ok-write_at.ensures.written t) (c.write_at.ensures.crash t)

pub returns-clause-written : goal.returns-clause-written
returns-clause-written g c = λ deeds d t is o.
    let t_1 : g.D.Disk.told c.write_at.new.self ≡ true = c.write_at.ensures.told ∙ t in
    later_drafted g.D.Disk.seen g.D.Disk.may_leave c.args.disk.now c.write_at.new.self c.write_at-2.new.self c.args.bytes.now d deeds c.args.end is (omega (arith, c.if-end-eq0.false)) o
    (c.in_ok-write_at.ensures.written t) (c.write_at.ensures.crash t) (c.in_ok-write_at-2.ensures.written t_1) (c.write_at-2.ensures.crash t_1)
