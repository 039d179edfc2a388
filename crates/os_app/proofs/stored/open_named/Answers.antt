use Rattle.std.proofs.Common.{refl}
use Rattle.os_io.specs.declared.files.FileFault.TheVariants.{Failed, Memory}
use Rattle.os_app.specs.StoredRuns.{no_disk, no_memory, no_journal}
use Rattle.os_app.proofs.JournalRuns.{counts_left, counts_none, gives_back}
use Rattle.os_app.proofs.stored.open_named.Goals as goal

pub returns-in-Err-Failed-clause-unopened : goal.returns-in-Err-Failed-clause-unopened
returns-in-Err-Failed-clause-unopened g c = no_disk refl (counts_none c.in-Err-Failed.field-0 Failed _ _ c.in-Err-Failed.field-0-is c.in-Err-Failed.ensures.counted) c.open_store.ensures.back c.in-Err-Failed.ensures.names

pub returns-in-Err-Memory-clause-unopened : goal.returns-in-Err-Memory-clause-unopened
returns-in-Err-Memory-clause-unopened g c = no_memory refl (counts_none c.in-Err-Memory.field-0 Memory _ _ c.in-Err-Memory.field-0-is c.in-Err-Memory.ensures.counted) c.open_store.ensures.back c.in-Err-Memory.ensures.names

pub returns-in-Ok-open_jobs-clause-opened : goal.returns-in-Ok-open_jobs-clause-opened
returns-in-Ok-open_jobs-clause-opened g c =
    let e = c.in-Ok-open_jobs.ensures in
    let opened = c.in-Ok.ensures in
    record {
      disk = c.in-Ok.disk;
      opens = record { file = opened.opened; unbroken = e.sound.0; rises = e.sound.1; nobody = e.sound.2; begins = e.begins; goes_on = e.goes_on; opened = e.opened; still = e.cause; any_moment = e.any_moment };
      back = c.open_store.ensures.back;
      named = opened.names;
      all_opened = opened.counted;
    }

pub returns-in-Err-clause-unopened : goal.returns-in-Err-clause-unopened
returns-in-Err-clause-unopened g c =
    let e = c.in-Err.ensures in
    let opened = c.in-Ok.ensures in
    no_journal c.in-Ok.disk _ opened.opened e.damaged (counts_left g.K.Store.Disk.faults _ _ _ e.cause) (record { same = e.left; any_moment = e.any_moment_err }) (gives_back g.K.Store.Disk g.K.Stores.held g.K.Stores.back g.K.Stores.opened g.K.Stores.faults _ _ _ _ c.done_store.ensures.back c.done_store.ensures.names c.done_store.ensures.faults _ c.open_store.ensures.back opened.names opened.counted)
