use Rattle.std.proofs.Common.{◌≡◌, [], ◌∷◌, ◌++◌, List, ℕ, drop, true, refl, sym, ◌∙◌, ap, subst}
use Rattle.std.specs.Prelude.{Err}
use Rattle.std.proofs.lemmas.Result.{IfErr-at_err}
use Rattle.disks.proofs.Moments.{started}
use Rattle.effects.specs.Records.{Deed}
use Rattle.job_journal.specs.Ahead.{StandsAhead}
use Rattle.job_journal.specs.Journal.{FileStandsFor}
use Rattle.job_journal.specs.Drafts.{IsDrafted}
use Rattle.job_journal.specs.Compacting.{is_held, next_behind, shortened, shortened_one}
use Rattle.job_journal.specs.Copies.{CopiesOne, StopsShort}
use Rattle.job_journal.proofs.Calms.{calm_then, runs_on}
use Rattle.job_journal.proofs.Scans.{all_fit_push}
use Rattle.job_journal.proofs.ClosedDrafts.{stands_for_none}
use Rattle.job_journal.proofs.RecordCopies.{next_push, shortened_push, all_copied, copied_on, none_there}
use Rattle.job_journal.proofs.compacting.copy.Goals as goal

pub loop-after-init : goal.loop-after-init
loop-after-init g c = record {
  calm = c.at_front.ensures.calm;
  told = refl;
  old_faults = rw c.in-Ok.is at c.at_front.ensures.cause;
  new_faults = refl;
  drafted = c.requires.drafted;
  moments = λ deeds t o. started g.E.Disk.moment g.E.Disk.left_since c.args.draft.now.disk (FileStandsFor [])
      (λ f left. stands_for_none o.gate (g.E.Disk.may_leave c.args.draft.now.disk) o.shut o.closed f (g.met.E.Disk.only_now c.args.draft.now.disk f left));
  ahead = c.in-Ok.ensures.front;
  copied = λ t. ([], tt, subst (λ (k : ℕ). g.D.Disk.seen c.args.disk.now ≡ drop k (g.D.Disk.seen c.args.disk.now)) (sym c.in-Ok.ensures.place) refl, refl, λ told o. o);
}

pub loop-after-preserved : goal.loop-after-preserved
loop-after-preserved g c =
    let i = c.loop-after.invariant in
    let l = c.loop-after in
    let p = c.in-Ok-Some.ensures in
    let file = g.D.Disk.seen c.args.disk.now in
    let held = is_held (g.R.Replay.holds c.args.table.now) in
    record {
      calm = calm_then g.D.Disk.told g.D.Disk.seen g.D.Disk.may_leave g.D.Disk.moment g.D.Disk.left_since c.args.disk.now l.disk c.copy_record.new.disk i.calm c.copy_record.ensures.calm;
      told = c.copy_record.ensures.told ∙ i.told;
      old_faults = (rw c.in-Ok-Some.is at c.copy_record.ensures.old_cause) ∙ i.old_faults;
      new_faults = (rw c.in-Ok-Some.is at c.copy_record.ensures.new_cause) ∙ i.new_faults;
      drafted = λ t. p.drafted (sym c.copy_record.ensures.told ∙ t);
      moments = λ deeds t o.
          let t_l : g.E.Disk.told l.draft.disk ≡ true = i.told ∙ t in
          let (now, od) = i.drafted t_l in
          runs_on g.E.Disk.moment g.E.Disk.left_since c.args.draft.now.disk l.draft.disk c.copy_record.new.draft.disk (FileStandsFor []) (FileStandsFor []) (FileStandsFor []) (i.moments deeds t o)
          (c.copy_record.ensures.any_moment now t_l od) (λ f was. was) (λ f now. now);
      ahead = λ t. subst (λ (f : List ℕ). StandsAhead f c.copy_record.new.ahead) i.calm.same_seen (p.ahead (i.calm.same_told ∙ t) (subst (λ (f : List ℕ). StandsAhead f l.ahead) (sym i.calm.same_seen) (i.ahead t)));
      copied = λ t.
          let (done, fit, upto, next_is, drafts) = i.copied t in
          let one : CopiesOne held g.E.Disk.told g.E.Disk.seen g.E.Disk.may_leave file l.ahead.place l.next c.copy_record.new.ahead.place c.in-Ok-Some.after l.draft.disk c.copy_record.new.draft.disk l.draft.end c.copy_record.new.draft.end =
          subst (λ (f : List ℕ). CopiesOne held g.E.Disk.told g.E.Disk.seen g.E.Disk.may_leave f l.ahead.place l.next c.copy_record.new.ahead.place c.in-Ok-Some.after l.draft.disk c.copy_record.new.draft.disk l.draft.end c.copy_record.new.draft.end) i.calm.same_seen
          ((rw c.in-Ok-Some.field-0-is at p.copies) (i.calm.same_told ∙ t) (subst (λ (f : List ℕ). StandsAhead f l.ahead) (sym i.calm.same_seen) (i.ahead t))) in (
            done ++ one.deed ∷ [],
            all_fit_push done one.deed fit one.fits,
            copied_on file l.ahead.place c.copy_record.new.ahead.place done one.deed upto one.is,
            one.next_is ∙ ap (λ (n : ℕ). next_behind n one.deed) next_is ∙ sym (next_push 1 done one.deed),
            λ told o. subst (λ (ds : List Deed). IsDrafted g.E.Disk.seen g.E.Disk.may_leave c.copy_record.new.draft.disk c.copy_record.new.draft.end ds)
                (ap (λ (n : ℕ). shortened held 1 done ++ shortened_one held n one.deed) next_is ∙ sym (shortened_push held 1 done one.deed))
                (one.drafts (i.told ∙ told) (shortened held 1 done) (drafts told o)),
          );
    }

pub returns-in-Ok-None-clause-any_moment : goal.returns-in-Ok-None-clause-any_moment
returns-in-Ok-None-clause-any_moment g c = λ deeds t o.
    let i = c.loop-after.invariant in
    let l = c.loop-after in
    let t_l : g.E.Disk.told l.draft.disk ≡ true = i.told ∙ t in
    let (now, od) = i.drafted t_l in
    runs_on g.E.Disk.moment g.E.Disk.left_since c.args.draft.now.disk l.draft.disk c.copy_record.new.draft.disk (FileStandsFor []) (FileStandsFor []) (FileStandsFor []) (i.moments deeds t o)
    (c.copy_record.ensures.any_moment now t_l od) (λ f was. was) (λ f now. now)

pub returns-in-Err-copy_record-clause-any_moment : goal.returns-in-Err-copy_record-clause-any_moment
returns-in-Err-copy_record-clause-any_moment g c = λ deeds t o.
    let i = c.loop-after.invariant in
    let l = c.loop-after in
    let t_l : g.E.Disk.told l.draft.disk ≡ true = i.told ∙ t in
    let (now, od) = i.drafted t_l in
    runs_on g.E.Disk.moment g.E.Disk.left_since c.args.draft.now.disk l.draft.disk c.copy_record.new.draft.disk (FileStandsFor []) (FileStandsFor []) (FileStandsFor []) (i.moments deeds t o)
    (c.copy_record.ensures.any_moment now t_l od) (λ f was. was) (λ f now. now)

pub returns-in-Ok-None-clause-copied : goal.returns-in-Ok-None-clause-copied
returns-in-Ok-None-clause-copied g c = λ deeds t told fit ends o.
    let i = c.loop-after.invariant in
    let l = c.loop-after in
    let file = g.D.Disk.seen c.args.disk.now in
    let held = is_held (g.R.Replay.holds c.args.table.now) in
    let (done, fit_done, upto, next_is, drafts) = i.copied t in
    let (shut, same_disk, same_end) = (rw c.in-Ok-None.field-0-is at c.in-Ok-None.ensures.copies) (i.calm.same_told ∙ t) (subst (λ (f : List ℕ). StandsAhead f l.ahead) (sym i.calm.same_seen) (i.ahead t)) in
    let all = all_copied file l.ahead.place done deeds fit_done fit upto ends (λ behind is. shut behind (subst (λ (f : List ℕ). drop l.ahead.place f ≡ 1 ∷ behind) (sym i.calm.same_seen) is)) in
    let drafted = subst (λ (ds : List Deed). IsDrafted g.E.Disk.seen g.E.Disk.may_leave l.draft.disk l.draft.end (shortened held 1 ds)) all (drafts told o) in
    subst (λ e. IsDrafted g.E.Disk.seen g.E.Disk.may_leave e c.copy_record.new.draft.end (shortened held 1 deeds)) (sym same_disk)
    (subst (λ (n : ℕ). IsDrafted g.E.Disk.seen g.E.Disk.may_leave l.draft.disk n (shortened held 1 deeds)) (sym same_end) drafted)

pub returns-in-Err-copy_record-clause-long : goal.returns-in-Err-copy_record-clause-long
returns-in-Err-copy_record-clause-long g c = λ deeds t told fit ends o is.
    let i = c.loop-after.invariant in
    let l = c.loop-after in
    let file = g.D.Disk.seen c.args.disk.now in
    let held = is_held (g.R.Replay.holds c.args.table.now) in
    let (done, fit_done, upto, next_is, drafts) = i.copied t in
    none_there held file l.ahead.place l.next done deeds fit_done fit upto ends next_is
    (subst (λ (f : List ℕ). StopsShort held f l.ahead.place l.next (shortened held 1 done)) i.calm.same_seen
    (c.copy_record.ensures.long (shortened held 1 done) (i.calm.same_told ∙ t) (subst (λ (f : List ℕ). StandsAhead f l.ahead) (sym i.calm.same_seen) (i.ahead t)) (i.told ∙ told) (drafts told o) (IfErr-at_err (λ f. c.copy_record.result ≡ Err f) is c.in-Err-copy_record.is)))
