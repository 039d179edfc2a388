use Rattle.std.proofs.Common.{◌≤◌, List, [], ℕ, length, inl, sym, ◌∙◌, subst}
use Rattle.job_journal.specs.Journal.{FileStandsFor}
use Rattle.job_journal.proofs.Calms.{calm_begins}
use Rattle.job_journal.proofs.SoleMeanings.{weaker}
use Rattle.job_journal.proofs.draft.begin_anew.Goals as goal

pub returns-clause-begun : goal.returns-clause-begun
returns-clause-begun g c = λ t.
    let calm = c.settle.ensures.calm in
    c.in_ok-begin.ensures.begun (calm.same_told ∙ t) (subst (λ (f : List ℕ). length f ≤ 1) (sym calm.same_seen) (c.requires.short t))

pub returns-in_err-settle-clause-any_moment : goal.returns-in_err-settle-clause-any_moment
returns-in_err-settle-clause-any_moment g c = λ t. weaker g.D.Disk.moment g.D.Disk.left_since c.args.disk.now c.settle.new.disk (g.D.Disk.may_leave c.args.disk.now) _ c.settle.ensures.calm.moments (λ f now. inl now)

pub returns-in_err-begin-clause-any_moment : goal.returns-in_err-begin-clause-any_moment
returns-in_err-begin-clause-any_moment g c =
    calm_begins g.D.Disk.told g.D.Disk.seen g.D.Disk.may_leave g.D.Disk.moment g.D.Disk.left_since c.args.disk.now c.settle.new.disk c.begin.new.disk (FileStandsFor []) c.settle.ensures.calm c.requires.short c.in_ok-settle.ensures.durable c.begin.ensures.any_moment

pub returns-clause-any_moment : goal.returns-clause-any_moment
returns-clause-any_moment g c =
    calm_begins g.D.Disk.told g.D.Disk.seen g.D.Disk.may_leave g.D.Disk.moment g.D.Disk.left_since c.args.disk.now c.settle.new.disk c.begin.new.disk (FileStandsFor []) c.settle.ensures.calm c.requires.short c.in_ok-settle.ensures.durable c.begin.ensures.any_moment
