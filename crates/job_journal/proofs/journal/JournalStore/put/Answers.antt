use Rattle.std.proofs.Common.{ap}
use Rattle.effects.specs.Records.{deed_of}
use Rattle.effects.specs.declared.store.NotStored.TheVariants.{Broken}
use Rattle.effects.proofs.Faults.{on_none, on_some, as_fault, broken_as}
use Rattle.job_journal.proofs.KeptEffects.{keeps_stored, keeps_refused, long_at, longer_at, same_length}
use Rattle.job_journal.proofs.journal.JournalStore.put.Goals as goal

pub returns : goal.returns
returns g c =
    let e = c.put.ensures in
    let old = c.args.self.now in
    let new = c.put.new.self in
    let d = deed_of c.args.effect.now in
    record {
      stored = on_none c.put.result _ (keeps_stored g.D.Disk.told g.D.Disk.seen g.D.Disk.may_leave g.D.Disk.moment g.D.Disk.left_since old.disk new.disk old.end new.end old.broken new.broken d e.told c.put.result e.broken e.stored);
      stays = on_some c.put.result _ (keeps_refused g.D.Disk.told g.D.Disk.seen g.D.Disk.may_leave g.D.Disk.moment g.D.Disk.left_since old.disk new.disk old.end new.end old.broken new.broken d e.told c.put.result e.broken e.breaks
          (λ t f le left. g.met.D.Disk.counts_now new.disk t f le left) e.any_moment
          (λ is. (ap (λ j. j.disk) (e.same_broken is), ap (λ j. j.end) (e.same_broken is), ap (λ j. j.broken) (e.same_broken is)))
          (λ is. (ap (λ j. j.disk) (e.same_long is), ap (λ j. j.end) (e.same_long is), ap (λ j. j.broken) (e.same_long is))));
      any_moment = λ deeds keeps t intact. e.any_moment deeds t (keeps.at_rest t intact);
      counts = e.cause;
      breaks = broken_as c.put.result old.broken new.broken e.breaks;
      when_broken = as_fault c.put.result Broken _ e.broken;
      when_long = long_at old.end old.broken d c.put.result e.long;
      longer = on_none c.put.result _ (longer_at old.end new.end d c.put.result e.place);
      as_long = on_some c.put.result _ (same_length old.end new.end c.put.result e.same_place);
    }
