use Rattle.std.proofs.Common.{◌≤◌, ◌⊎◌, inl, inr, ⊎_elim, ℕ, List, [], length, refl, sym, ◌∙◌, ap, subst, arith}
use Rattle.std.specs.Prelude.{Err}
use Rattle.std.proofs.lemmas.Result.{on_ok_weaker, IfErr-at_err, IfErr-weaker}
use Rattle.disks.specs.Disks.{LeavesOnly}
use Rattle.disks.proofs.Moments.{started}
use Rattle.effects.specs.Records.{Deed, EndsBehindGate}
use Rattle.job_journal.specs.Journal.{FileStandsFor}
use Rattle.job_journal.specs.Compacting.{IsShortOf, is_held, shortened}
use Rattle.job_journal.specs.CompactFaults.{IsOfLook}
use Rattle.job_journal.proofs.Calms.{calm_on, calm_start, runs_on}
use Rattle.job_journal.proofs.Crash.{stands_before}
use Rattle.job_journal.proofs.SoleMeanings.{weaker}
use Rattle.job_journal.proofs.RecordCopies.{undamaged_is}
use Rattle.job_journal.proofs.Compactions.{both_faults, gives_table, leaves_file, leaves_none, opened_ends, looked_old, looked_undamaged, rest_stand, short_of}
use Rattle.job_journal.proofs.compacting.compact.Goals as goal

pub write_compacted-ended-requires : goal.write_compacted-ended-requires
write_compacted-ended-requires g c = record {
  short = calm_on g.E.Disk.told g.E.Disk.seen g.E.Disk.may_leave g.E.Disk.moment g.E.Disk.left_since c.args.new c.look_at.new.disk c.look_at.ensures.calm (λ f. length f ≤ 1) c.in-Ok.ensures.short;
}

-- only the new file was looked at
pub returns-in-Err-clause-taken : goal.returns-in-Err-clause-taken
returns-in-Err-clause-taken g c = λ u long. (c.in-Err.ensures.err, refl, c.look_at.ensures.calm)

pub returns-in-Err-clause-any_moment : goal.returns-in-Err-clause-any_moment
returns-in-Err-clause-any_moment g c = λ t u. weaker g.E.Disk.moment g.E.Disk.left_since c.args.new c.look_at.new.disk (g.E.Disk.may_leave c.args.new) _ c.look_at.ensures.calm.moments (λ f was. inl (inl was))

pub returns-in-Err-clause-old_at_any_moment : goal.returns-in-Err-clause-old_at_any_moment
returns-in-Err-clause-old_at_any_moment g c = λ deeds t fit stands. started g.D.Disk.moment g.D.Disk.left_since c.args.old _ (λ f left. inl (g.met.D.Disk.only_now c.args.old f left))

pub returns-in-Err-clause-damaged : goal.returns-in-Err-clause-damaged
returns-in-Err-clause-damaged g c = λ t. looked_undamaged g.S.Sieve.accepted (g.D.Disk.seen c.args.old) c.in-Err.fault c.in-Err.ensures.err

pub returns-in-Err-clause-old_cause : goal.returns-in-Err-clause-old_cause
returns-in-Err-clause-old_cause g c = looked_old {X = Unit {0}} (Err c.in-Err.fault) _ c.in-Err.ensures.err

-- the old one wasn't opened
pub returns-in-Err-open_journal-clause-taken : goal.returns-in-Err-open_journal-clause-taken
returns-in-Err-open_journal-clause-taken g c = λ u long. absurd (omega (arith, c.in-Ok.ensures.short u, long))

pub returns-in-Err-open_journal-clause-any_moment : goal.returns-in-Err-open_journal-clause-any_moment
returns-in-Err-open_journal-clause-any_moment g c = λ t u. weaker g.E.Disk.moment g.E.Disk.left_since c.args.new c.look_at.new.disk (g.E.Disk.may_leave c.args.new) _ c.look_at.ensures.calm.moments (λ f was. inl (inl was))

-- it was written again
pub returns-in-Ok-open_journal-clause-taken : goal.returns-in-Ok-open_journal-clause-taken
returns-in-Ok-open_journal-clause-taken g c = λ u long. absurd (omega (arith, c.in-Ok.ensures.short u, long))

pub returns-in-Ok-open_journal-clause-written : goal.returns-in-Ok-open_journal-clause-written
returns-in-Ok-open_journal-clause-written g c =
    on_ok_weaker c.write_compacted-ended.result.0
    (λ written t u.
    let o = c.in-Ok-open_journal.ensures.opened t in
    let j = c.in-Ok-open_journal.journal in
    let ends = subst (λ d. EndsBehindGate o.deeds (g.D.Disk.seen d)) (sym c.into_disk-old.ensures) (opened_ends g.D.Disk.seen g.D.Disk.may_leave j.disk j.end _ _ _ o) in (
      shortened (is_held (g.R.Replay.holds c.open_journal.new.table)) 1 o.deeds,
      short_of g.D.Disk.seen g.D.Disk.may_leave j.disk j.end _ _ _ o,
      written o.deeds (ap g.D.Disk.told c.into_disk-old.ensures ∙ c.in-Ok-open_journal.ensures.told ∙ t) (c.look_at.ensures.calm.same_told ∙ u) o.fit ends,
    ))
    c.write_compacted-ended.ensures.written

pub returns-in-Ok-open_journal-clause-same_table : goal.returns-in-Ok-open_journal-clause-same_table
returns-in-Ok-open_journal-clause-same_table g c =
    on_ok_weaker c.write_compacted-ended.result.0
    (λ written t u.
    let o = c.in-Ok-open_journal.ensures.opened t in
    let j = c.in-Ok-open_journal.journal in
    let ends = subst (λ d. EndsBehindGate o.deeds (g.D.Disk.seen d)) (sym c.into_disk-old.ensures) (opened_ends g.D.Disk.seen g.D.Disk.may_leave j.disk j.end _ _ _ o) in
    let (place, rests) = written o.deeds (ap g.D.Disk.told c.into_disk-old.ensures ∙ c.in-Ok-open_journal.ensures.told ∙ t) (c.look_at.ensures.calm.same_told ∙ u) o.fit ends in
    gives_table g.S.Sieve.accepted (g.D.Disk.seen c.args.old) (g.E.Disk.seen c.write_compacted-ended.result.1) _ _ (short_of g.D.Disk.seen g.D.Disk.may_leave j.disk j.end _ _ _ o) (rest_stand g.E.Disk.seen g.E.Disk.may_leave c.write_compacted-ended.result.1 place _ rests))
    c.write_compacted-ended.ensures.written

pub returns-in-Ok-open_journal-clause-any_moment : goal.returns-in-Ok-open_journal-clause-any_moment
returns-in-Ok-open_journal-clause-any_moment g c = λ t u.
    let o = c.in-Ok-open_journal.ensures.opened t in
    let j = c.in-Ok-open_journal.journal in
    let calm = c.look_at.ensures.calm in
    let ends = subst (λ d. EndsBehindGate o.deeds (g.D.Disk.seen d)) (sym c.into_disk-old.ensures) (opened_ends g.D.Disk.seen g.D.Disk.may_leave j.disk j.end _ _ _ o) in
    let L = g.R.Replay.holds c.open_journal.new.table in
    let short = shortened (is_held L) 1 o.deeds in
    let R : List ℕ → Type 0 = λ f. (g.E.Disk.may_leave c.args.new f ⊎ FileStandsFor [] f) ⊎ ((all : List Deed) × IsShortOf g.S.Sieve.accepted (g.D.Disk.seen c.args.old) L all × FileStandsFor all f) in
    let later : (f : List ℕ) → (g.E.Disk.may_leave c.look_at.new.disk f ⊎ FileStandsFor [] f) ⊎ FileStandsFor short f → R f = λ f now.
    ⊎_elim {C = R f} (λ was. inl (⊎_elim (λ may. inl (calm.crash f may)) (λ none. inr none) was)) (λ all. inr (short, short_of g.D.Disk.seen g.D.Disk.may_leave j.disk j.end _ _ _ o, all)) now in
    runs_on g.E.Disk.moment g.E.Disk.left_since c.args.new c.look_at.new.disk c.write_compacted-ended.result.1 (g.E.Disk.may_leave c.args.new) _ R calm.moments
    (c.write_compacted-ended.ensures.any_moment o.deeds (ap g.D.Disk.told c.into_disk-old.ensures ∙ c.in-Ok-open_journal.ensures.told ∙ t) (calm.same_told ∙ u) o.fit ends)
    (λ f was. inl (inl was)) later

pub returns-in-Ok-open_journal-clause-old_at_any_moment : goal.returns-in-Ok-open_journal-clause-old_at_any_moment
returns-in-Ok-open_journal-clause-old_at_any_moment g c = λ deeds t fit stands.
    let rests = (c.in-Ok-open_journal.ensures.same deeds t fit stands).1 in
    let calm = c.write_compacted-ended.ensures.calm in
    let later = subst (λ d. LeavesOnly g.D.Disk.moment g.D.Disk.left_since d c.write_compacted-ended.new.disk (g.D.Disk.may_leave d)) c.into_disk-old.ensures calm.moments in
    runs_on g.D.Disk.moment g.D.Disk.left_since c.args.old c.in-Ok-open_journal.journal.disk c.write_compacted-ended.new.disk _ (g.D.Disk.may_leave c.in-Ok-open_journal.journal.disk) (λ f. g.D.Disk.may_leave c.args.old f ⊎ FileStandsFor deeds f)
    (c.in-Ok-open_journal.ensures.any_moment deeds t fit stands) later (λ f was. was) (λ f now. inr (stands_before deeds rests.gate [] f rests.shut (rests.durable f now ∙ rests.file)))

pub returns-in-Ok-open_journal-clause-damaged : goal.returns-in-Ok-open_journal-clause-damaged
returns-in-Ok-open_journal-clause-damaged g c = IfErr-weaker c.write_compacted-ended.result.0 _ _
    (λ fault is t.
    let o = c.in-Ok-open_journal.ensures.opened t in
    let j = c.in-Ok-open_journal.journal in
    let ends = subst (λ d. EndsBehindGate o.deeds (g.D.Disk.seen d)) (sym c.into_disk-old.ensures) (opened_ends g.D.Disk.seen g.D.Disk.may_leave j.disk j.end _ _ _ o) in
    undamaged_is g.S.Sieve.accepted (g.D.Disk.seen c.args.old) fault (is o.deeds (ap g.D.Disk.told c.into_disk-old.ensures ∙ c.in-Ok-open_journal.ensures.told ∙ t) o.fit ends))
    c.write_compacted-ended.ensures.undamaged

pub returns-in-Err-clause-long : goal.returns-in-Err-clause-long
returns-in-Err-clause-long g c = λ is t u. absurd (IfErr-at_err IsOfLook (c.in-Err.is ∙ is) (c.look_at.ensures.err))

pub returns-in-Ok-open_journal-clause-long : goal.returns-in-Ok-open_journal-clause-long
returns-in-Ok-open_journal-clause-long g c = λ is t u.
    let o = c.in-Ok-open_journal.ensures.opened t in
    let j = c.in-Ok-open_journal.journal in
    let ends = subst (λ d. EndsBehindGate o.deeds (g.D.Disk.seen d)) (sym c.into_disk-old.ensures) (opened_ends g.D.Disk.seen g.D.Disk.may_leave j.disk j.end _ _ _ o) in (
      shortened (is_held (g.R.Replay.holds c.open_journal.new.table)) 1 o.deeds,
      short_of g.D.Disk.seen g.D.Disk.may_leave j.disk j.end _ _ _ o,
      c.write_compacted-ended.ensures.long o.deeds (ap g.D.Disk.told c.into_disk-old.ensures ∙ c.in-Ok-open_journal.ensures.told ∙ t) (c.look_at.ensures.calm.same_told ∙ u) o.fit ends is,
    )

-- what is left of the old one
pub returns-in-Err-clause-old_left : goal.returns-in-Err-clause-old_left
returns-in-Err-clause-old_left g c = λ _ _. calm_start g.D.Disk.told g.D.Disk.seen g.D.Disk.may_leave g.D.Disk.moment g.D.Disk.left_since c.args.old (g.met.D.Disk.only_now c.args.old)

pub returns-in-Err-open_journal-clause-old_left : goal.returns-in-Err-open_journal-clause-old_left
returns-in-Err-open_journal-clause-old_left g c = λ is _. c.in-Err-open_journal.ensures.left (leaves_file c.in-Err-open_journal.fault is)

pub returns-in-Ok-open_journal-clause-old_left : goal.returns-in-Ok-open_journal-clause-old_left
returns-in-Ok-open_journal-clause-old_left g c =
    IfErr-weaker c.write_compacted-ended.result.0 _ _
    (λ fault both is t.
    let o = c.in-Ok-open_journal.ensures.opened t in
    let j = c.in-Ok-open_journal.journal in
    let ends = subst (λ d. EndsBehindGate o.deeds (g.D.Disk.seen d)) (sym c.into_disk-old.ensures) (opened_ends g.D.Disk.seen g.D.Disk.may_leave j.disk j.end _ _ _ o) in
    absurd (leaves_none fault (both.1 o.deeds (ap g.D.Disk.told c.into_disk-old.ensures ∙ c.in-Ok-open_journal.ensures.told ∙ t) o.fit ends) both.0 is))
    (both_faults c.write_compacted-ended.result.0 _ _ c.write_compacted-ended.ensures.untaken c.write_compacted-ended.ensures.undamaged)
