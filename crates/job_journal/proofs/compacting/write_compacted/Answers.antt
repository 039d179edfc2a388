use Rattle.std.proofs.Common.{◌⊎◌, inl, inr, ⊎_elim, ℕ, List, [], sym, ◌∙◌, subst}
use Rattle.std.proofs.lemmas.Result.{on_ok_weaker, IfErr-at_err, IfErr-weaker}
use Rattle.disks.specs.Disks.{LeavesOnly}
use Rattle.disks.proofs.Moments.{started}
use Rattle.job_journal.specs.Journal.{FileStandsFor}
use Rattle.job_journal.specs.Compacting.{is_held, shortened}
use Rattle.job_journal.specs.CompactFaults.{IsOfWrite}
use Rattle.job_journal.proofs.Calms.{calm_start, runs_on}
use Rattle.job_journal.proofs.SoleMeanings.{weaker}
use Rattle.job_journal.proofs.Compactions.{written_is, unwritten_old, unwritten_undamaged, unwritten_copies}
use Rattle.job_journal.proofs.compacting.write_compacted.Goals as goal

pub copy-requires : goal.copy-requires
copy-requires g c = record { drafted = λ t. ([], c.in-Ok-begun.ensures.drafted (sym c.in-Ok-begun.ensures.told ∙ t)) }

pub returns-in-Err-clause-calm : goal.returns-in-Err-clause-calm
returns-in-Err-clause-calm g c = calm_start g.D.Disk.told g.D.Disk.seen g.D.Disk.may_leave g.D.Disk.moment g.D.Disk.left_since c.args.disk.now (g.met.D.Disk.only_now c.args.disk.now)

pub returns-in-Err-clause-any_moment : goal.returns-in-Err-clause-any_moment
returns-in-Err-clause-any_moment g c = λ deeds t u fit ends. started g.E.Disk.moment g.E.Disk.left_since c.args.new _ (λ f left. inl (inl (g.met.E.Disk.only_now c.args.new f left)))

pub returns-in-Err-begun-clause-calm : goal.returns-in-Err-begun-clause-calm
returns-in-Err-begun-clause-calm g c = calm_start g.D.Disk.told g.D.Disk.seen g.D.Disk.may_leave g.D.Disk.moment g.D.Disk.left_since c.args.disk.now (g.met.D.Disk.only_now c.args.disk.now)

pub returns-in-Err-begun-clause-any_moment : goal.returns-in-Err-begun-clause-any_moment
returns-in-Err-begun-clause-any_moment g c = λ deeds t u fit ends.
    weaker g.E.Disk.moment g.E.Disk.left_since c.args.new c.in-Err-begun.new (λ f. g.E.Disk.may_leave c.args.new f ⊎ FileStandsFor [] f) _ (c.in-Err-begun.ensures.any_moment_err u) (λ f was. inl was)

pub returns-in-Err-copy-clause-any_moment : goal.returns-in-Err-copy-clause-any_moment
returns-in-Err-copy-clause-any_moment g c = λ deeds t u fit ends.
    let b = c.in-Ok-begun.ensures in
    let R : List ℕ → Type 0 = λ f. (g.E.Disk.may_leave c.args.new f ⊎ FileStandsFor [] f) ⊎ FileStandsFor (shortened (is_held (g.R.Replay.holds c.args.table.now)) 1 deeds) f in
    subst (λ e. LeavesOnly g.E.Disk.moment g.E.Disk.left_since c.args.new e R) (sym c.into_disk.ensures)
    (runs_on g.E.Disk.moment g.E.Disk.left_since c.args.new c.in-Ok-begun.draft.disk c.copy.new.draft.disk _ (FileStandsFor []) R (b.any_moment u) (c.copy.ensures.any_moment [] (b.told ∙ u) (b.drafted u)) (λ f was. inl was) (λ f now. inl (inr now)))

pub returns-in-Ok-copy-clause-written : goal.returns-in-Ok-copy-clause-written
returns-in-Ok-copy-clause-written g c =
    let b = c.in-Ok-begun.ensures in
    on_ok_weaker c.ended.result.0
    (λ stored deeds t u fit ends. stored (shortened (is_held (g.R.Replay.holds c.args.table.now)) 1 deeds) (c.copy.ensures.told ∙ b.told ∙ u) (c.in-Ok-copy.ensures.copied deeds t (b.told ∙ u) fit ends (b.drafted u)))
    c.ended.ensures.stored

pub returns-in-Ok-copy-clause-any_moment : goal.returns-in-Ok-copy-clause-any_moment
returns-in-Ok-copy-clause-any_moment g c = λ deeds t u fit ends.
    let b = c.in-Ok-begun.ensures in
    let short = shortened (is_held (g.R.Replay.holds c.args.table.now)) 1 deeds in
    let before : List ℕ → Type 0 = λ f. g.E.Disk.may_leave c.args.new f ⊎ FileStandsFor [] f in
    let R : List ℕ → Type 0 = λ f. before f ⊎ FileStandsFor short f in
    let copied = runs_on g.E.Disk.moment g.E.Disk.left_since c.args.new c.in-Ok-begun.draft.disk c.copy.new.draft.disk before (FileStandsFor []) before (b.any_moment u) (c.copy.ensures.any_moment [] (b.told ∙ u) (b.drafted u)) (λ f was. was) (λ f now. inr now) in
    runs_on g.E.Disk.moment g.E.Disk.left_since c.args.new c.copy.new.draft.disk c.ended.result.1 before (λ f. FileStandsFor [] f ⊎ FileStandsFor short f) R copied
    (c.ended.ensures.any_moment short (c.copy.ensures.told ∙ b.told ∙ u) (c.in-Ok-copy.ensures.copied deeds t (b.told ∙ u) fit ends (b.drafted u)))
    (λ f was. inl was) (λ f now. ⊎_elim {C = R f} (λ none. inl (inr none)) (λ all. inr all) now)

pub returns-in-Ok-copy-clause-undamaged : goal.returns-in-Ok-copy-clause-undamaged
returns-in-Ok-copy-clause-undamaged g c = IfErr-weaker c.ended.result.0 _ _ (λ fault is deeds t fit ends. unwritten_undamaged fault (written_is fault is)) c.ended.ensures.err

pub returns-in-Ok-copy-clause-untaken : goal.returns-in-Ok-copy-clause-untaken
returns-in-Ok-copy-clause-untaken g c = IfErr-weaker c.ended.result.0 _ _ (λ fault is. unwritten_copies fault (written_is fault is)) c.ended.ensures.err

pub returns-in-Ok-copy-clause-old_cause : goal.returns-in-Ok-copy-clause-old_cause
returns-in-Ok-copy-clause-old_cause g c = unwritten_old c.ended.result.0 _ _ (IfErr-weaker c.ended.result.0 _ _ written_is c.ended.ensures.err) (rw c.in-Ok-copy.is at c.copy.ensures.old_cause)

pub returns-in-Ok-copy-clause-long : goal.returns-in-Ok-copy-clause-long
returns-in-Ok-copy-clause-long g c = λ deeds t u fit ends is. absurd (IfErr-at_err IsOfWrite is c.ended.ensures.err)

pub returns-in-Err-copy-clause-long : goal.returns-in-Err-copy-clause-long
returns-in-Err-copy-clause-long g c = λ deeds t u fit ends is. let b = c.in-Ok-begun.ensures in c.copy.ensures.long deeds t (b.told ∙ u) fit ends (b.drafted u) (c.in-Err-copy.is ∙ is)
