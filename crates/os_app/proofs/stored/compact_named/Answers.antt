use Rattle.std.proofs.Common.{refl}
use Rattle.os_app.specs.CompactRuns.{both, no_old, no_new}
use Rattle.os_app.proofs.CompactRuns.{compaction, not_begun}
use Rattle.os_app.proofs.stored.compact_named.Goals as goal

pub returns-in-Err-clause-ends : goal.returns-in-Err-clause-ends
returns-in-Err-clause-ends g c = no_old c.in-Err.fault c.unopened_status.ensures c.in-Err.ensures.counted c.find_store.ensures.back c.in-Err.ensures.names refl

pub returns-in-Err-open_store-clause-ends : goal.returns-in-Err-open_store-clause-ends
returns-in-Err-open_store-clause-ends g c =
    let found = c.in-Ok.ensures in
    no_new c.in-Err-open_store.fault c.unopened_status-in-Err-open_store.ensures
    (not_begun g.K.Store.Disk g.K.Stores.held g.K.Stores.back g.K.Stores.opened g.K.Stores.faults _ _ _ _ _ c.in-Ok.disk c.find_store.ensures.back c.open_store.ensures.back c.done_store.ensures.back found.names c.done_store.ensures.names found.counted c.done_store.ensures.faults
    c.in-Err-open_store.fault found.opened c.in-Err-open_store.ensures.counted c.in-Err-open_store.ensures.names)
    refl

pub returns-clause-ends : goal.returns-clause-ends
returns-clause-ends g c =
    let found = c.in-Ok.ensures in
    let opened = c.in-Ok-open_store.ensures in
    let ended = c.compact_jobs-ended in
    both ended.result.0
    (compaction g.K.Store.Disk g.K.Stores.held g.K.Stores.back g.K.Stores.opened g.K.Stores.faults _ _ _ _ _ ended.result.1 c.find_store.ensures.back c.open_store.ensures.back c.done_store-2.ensures.back found.names c.done_store-2.ensures.names found.counted c.done_store-2.ensures.faults
    _ _ ended.result.0 c.in-Ok.disk c.in-Ok-open_store.disk ended.result.2 found.opened c.find_store.ensures.others opened.opened ended.ensures.compacts opened.counted c.done_store-3.ensures.back c.done_store-3.ensures.faults opened.names c.done_store-3.ensures.names)
    c.tell_copy.ensures.told
