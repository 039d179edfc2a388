use Rattle.std.proofs.Common.{refl}
use Rattle.os_app.specs.StoredRuns.{done, unopened}
use Rattle.os_app.proofs.JournalRuns.{over_of}
use Rattle.os_app.proofs.stored.keep_session.Goals as goal

pub returns-in-Ok-clause-ends : goal.returns-in-Ok-clause-ends
returns-in-Ok-clause-ends g c =
    let served = c.serve_stored_session-served in
    done served.result.0 c.session_status.ensures
    (over_of g.K.Store.Disk g.K.Stores.held g.K.Stores.back g.K.Stores.opened g.K.Stores.faults _ _ _ served.result.1 c.done_store.ensures.back c.done_store.ensures.names c.done_store.ensures.faults _ 1 c.in-Ok.table c.in-Ok.journal _ c.in-Ok.ensures.opened served.ensures.session)

pub returns-in-Err-clause-ends : goal.returns-in-Err-clause-ends
returns-in-Err-clause-ends g c = unopened c.in-Err.fault c.in-Err.ensures.unopened c.tell_fault.ensures.told refl
