use Rattle.std.proofs.Common.{◌≡◌, ◌⊎◌, true, ℕ, List, [], ◌∷◌, inl, sym, ◌∙◌, subst, arith}
use Rattle.disks.specs.Disks.{IsWrittenAt, Only}
use Rattle.disks.proofs.Moments.{started, goes_on}
use Rattle.job_journal.specs.Journal.{FileStandsFor}
use Rattle.job_journal.proofs.ClosedDrafts.{stands_for_none, first_gate_crash, all_rest, none_rest}
use Rattle.job_journal.proofs.draft.open_first.Goals as goal

pub returns-in_err-sync-clause-any_moment : goal.returns-in_err-sync-clause-any_moment
returns-in_err-sync-clause-any_moment g c = λ deeds t o.
    let P : List ℕ → Type 0 = λ f. FileStandsFor [] f ⊎ FileStandsFor deeds f in
    let at_start = started g.D.Disk.moment g.D.Disk.left_since c.args.disk.now P (λ f left. inl (stands_for_none o.gate (g.D.Disk.may_leave c.args.disk.now) o.shut o.closed f (g.met.D.Disk.only_now c.args.disk.now f left))) in
    let run_1 = goes_on g.D.Disk.moment g.D.Disk.left_since c.args.disk.now c.args.disk.now c.sync.new.self P _ at_start c.sync.ensures.time (λ f now. inl (stands_for_none o.gate (g.D.Disk.may_leave c.args.disk.now) o.shut o.closed f (c.sync.ensures.crash f now))) in
    run_1

pub returns-then-end-eq0-clause-any_moment : goal.returns-then-end-eq0-clause-any_moment
returns-then-end-eq0-clause-any_moment g c = λ deeds t o.
    let P : List ℕ → Type 0 = λ f. FileStandsFor [] f ⊎ FileStandsFor deeds f in
    let at_start = started g.D.Disk.moment g.D.Disk.left_since c.args.disk.now P (λ f left. inl (stands_for_none o.gate (g.D.Disk.may_leave c.args.disk.now) o.shut o.closed f (g.met.D.Disk.only_now c.args.disk.now f left))) in
    let run_1 = goes_on g.D.Disk.moment g.D.Disk.left_since c.args.disk.now c.args.disk.now c.sync.new.self P _ at_start c.sync.ensures.time (λ f now. inl (stands_for_none o.gate (g.D.Disk.may_leave c.args.disk.now) o.shut o.closed f (c.sync.ensures.crash f now))) in
    run_1

pub returns-in_err-write_at-clause-any_moment : goal.returns-in_err-write_at-clause-any_moment
returns-in_err-write_at-clause-any_moment g c = λ deeds t o.
    let P : List ℕ → Type 0 = λ f. FileStandsFor [] f ⊎ FileStandsFor deeds f in
    let at_start = started g.D.Disk.moment g.D.Disk.left_since c.args.disk.now P (λ f left. inl (stands_for_none o.gate (g.D.Disk.may_leave c.args.disk.now) o.shut o.closed f (g.met.D.Disk.only_now c.args.disk.now f left))) in
    let run_1 = goes_on g.D.Disk.moment g.D.Disk.left_since c.args.disk.now c.args.disk.now c.sync.new.self P _ at_start c.sync.ensures.time (λ f now. inl (stands_for_none o.gate (g.D.Disk.may_leave c.args.disk.now) o.shut o.closed f (c.sync.ensures.crash f now))) in
    let t_1 : g.D.Disk.told c.sync.new.self ≡ true = c.sync.ensures.told ∙ t in
    let only = subst (λ f. Only f (g.D.Disk.may_leave c.sync.new.self)) o.file (c.in_ok-sync.ensures.durable t) in
    let crash = first_gate_crash o.gate deeds (g.D.Disk.may_leave c.sync.new.self) (g.D.Disk.may_leave c.write_at.new.self) (omega (arith, o.place, c.if-end-eq0.false)) only (c.write_at.ensures.crash t_1) in
    let run_2 = goes_on g.D.Disk.moment g.D.Disk.left_since c.args.disk.now c.sync.new.self c.write_at.new.self P _ run_1 c.write_at.ensures.time (λ f now. crash f now) in
    run_2

pub returns-in_err-sync-2-clause-any_moment : goal.returns-in_err-sync-2-clause-any_moment
returns-in_err-sync-2-clause-any_moment g c = λ deeds t o.
    let P : List ℕ → Type 0 = λ f. FileStandsFor [] f ⊎ FileStandsFor deeds f in
    let at_start = started g.D.Disk.moment g.D.Disk.left_since c.args.disk.now P (λ f left. inl (stands_for_none o.gate (g.D.Disk.may_leave c.args.disk.now) o.shut o.closed f (g.met.D.Disk.only_now c.args.disk.now f left))) in
    let run_1 = goes_on g.D.Disk.moment g.D.Disk.left_since c.args.disk.now c.args.disk.now c.sync.new.self P _ at_start c.sync.ensures.time (λ f now. inl (stands_for_none o.gate (g.D.Disk.may_leave c.args.disk.now) o.shut o.closed f (c.sync.ensures.crash f now))) in
    let t_1 : g.D.Disk.told c.sync.new.self ≡ true = c.sync.ensures.told ∙ t in
    let only = subst (λ f. Only f (g.D.Disk.may_leave c.sync.new.self)) o.file (c.in_ok-sync.ensures.durable t) in
    let crash = first_gate_crash o.gate deeds (g.D.Disk.may_leave c.sync.new.self) (g.D.Disk.may_leave c.write_at.new.self) (omega (arith, o.place, c.if-end-eq0.false)) only (c.write_at.ensures.crash t_1) in
    let run_2 = goes_on g.D.Disk.moment g.D.Disk.left_since c.args.disk.now c.sync.new.self c.write_at.new.self P _ run_1 c.write_at.ensures.time (λ f now. crash f now) in
    let run_3 = goes_on g.D.Disk.moment g.D.Disk.left_since c.args.disk.now c.write_at.new.self c.sync-2.new.self P _ run_2 c.sync-2.ensures.time (λ f now. crash f (c.sync-2.ensures.crash f now)) in
    run_3

pub returns-clause-any_moment : goal.returns-clause-any_moment
returns-clause-any_moment g c = λ deeds t o.
    let P : List ℕ → Type 0 = λ f. FileStandsFor [] f ⊎ FileStandsFor deeds f in
    let at_start = started g.D.Disk.moment g.D.Disk.left_since c.args.disk.now P (λ f left. inl (stands_for_none o.gate (g.D.Disk.may_leave c.args.disk.now) o.shut o.closed f (g.met.D.Disk.only_now c.args.disk.now f left))) in
    let run_1 = goes_on g.D.Disk.moment g.D.Disk.left_since c.args.disk.now c.args.disk.now c.sync.new.self P _ at_start c.sync.ensures.time (λ f now. inl (stands_for_none o.gate (g.D.Disk.may_leave c.args.disk.now) o.shut o.closed f (c.sync.ensures.crash f now))) in
    let t_1 : g.D.Disk.told c.sync.new.self ≡ true = c.sync.ensures.told ∙ t in
    let only = subst (λ f. Only f (g.D.Disk.may_leave c.sync.new.self)) o.file (c.in_ok-sync.ensures.durable t) in
    let crash = first_gate_crash o.gate deeds (g.D.Disk.may_leave c.sync.new.self) (g.D.Disk.may_leave c.write_at.new.self) (omega (arith, o.place, c.if-end-eq0.false)) only (c.write_at.ensures.crash t_1) in
    let run_2 = goes_on g.D.Disk.moment g.D.Disk.left_since c.args.disk.now c.sync.new.self c.write_at.new.self P _ run_1 c.write_at.ensures.time (λ f now. crash f now) in
    let run_3 = goes_on g.D.Disk.moment g.D.Disk.left_since c.args.disk.now c.write_at.new.self c.sync-2.new.self P _ run_2 c.sync-2.ensures.time (λ f now. crash f (c.sync-2.ensures.crash f now)) in
    run_3

pub returns-then-end-eq0-clause-stored : goal.returns-then-end-eq0-clause-stored
returns-then-end-eq0-clause-stored g c = λ deeds t o.
    let only = subst (λ f. Only f (g.D.Disk.may_leave c.sync.new.self)) (sym c.sync.ensures.seen) (c.in_ok-sync.ensures.durable t) in
    none_rest g.D.Disk.seen g.D.Disk.may_leave c.sync.new.self o.gate c.args.end deeds c.if-end-eq0.true o.place o.shut (c.sync.ensures.seen ∙ o.file) only

pub returns-clause-stored : goal.returns-clause-stored
returns-clause-stored g c = λ deeds t o.
    let t_1 : g.D.Disk.told c.sync.new.self ≡ true = c.sync.ensures.told ∙ t in
    let t_2 : g.D.Disk.told c.write_at.new.self ≡ true = c.write_at.ensures.told ∙ t_1 in
    let opened = subst (λ f. IsWrittenAt (g.D.Disk.seen c.sync.new.self) 0 (1 ∷ []) f) (sym c.sync-2.ensures.seen) (c.in_ok-write_at.ensures.written t_1) in
    let only = subst (λ f. Only f (g.D.Disk.may_leave c.sync-2.new.self)) (sym c.sync-2.ensures.seen) (c.in_ok-sync-2.ensures.durable t_2) in
    all_rest g.D.Disk.seen g.D.Disk.may_leave c.sync-2.new.self o.gate c.args.end deeds (g.D.Disk.seen c.sync.new.self) (omega (arith, c.if-end-eq0.false)) o.place (c.sync.ensures.seen ∙ o.file) opened only
