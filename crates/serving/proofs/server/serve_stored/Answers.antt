use Rattle.std.proofs.Common.{refl, sym, ap, ◌∙◌, subst}
use Rattle.job_table.specs.Jobs.{Rises, NobodyRuns}
use Rattle.serving.proofs.StoredHistories.{stored_unbegun, stored_unopened, stored_run}
use Rattle.serving.proofs.server.serve_stored.Goals as goal

pub serve_over-requires-clause-rises : goal.serve_over-requires-clause-rises
serve_over-requires-clause-rises g c = λ _ _. subst Rises (sym c.in-Ok-of.ensures.begins.0) c.requires.rises

pub serve_over-requires-clause-nobody : goal.serve_over-requires-clause-nobody
serve_over-requires-clause-nobody g c = λ _ _. subst NobodyRuns (sym c.in-Ok-of.ensures.begins.0) c.requires.nobody

pub returns-in-Err-clause-served : goal.returns-in-Err-clause-served
returns-in-Err-clause-served g c =
    stored_unbegun g.D.Disk.told g.D.Disk.seen g.D.Disk.may_leave g.D.Disk.moment g.D.Disk.left_since g.D.Disk.faults c.args.table c.args.journal c.into_disk.result c.in-Err.ending _ _ c.args.setup _ _ _ _ c.into_disk.ensures
    c.in-Err.ensures.unbegun

pub returns-in-Ok-of-clause-served : goal.returns-in-Ok-of-clause-served
returns-in-Ok-of-clause-served g c =
    let begins = c.in-Ok-of.ensures.begins in
    let over = c.serve_over.result in
    stored_run g.D.Disk.told g.D.Disk.seen g.D.Disk.may_leave g.D.Disk.moment g.D.Disk.left_since g.D.Disk.faults c.args.table c.args.journal over.1 over.0 _ _ begins.0 begins.1 _ _ c.args.setup _ _ _ _ _ _ c.in-Ok.ensures.begun
    c.serve_over.ensures.served

pub returns-in-Err-of-clause-served : goal.returns-in-Err-of-clause-served
returns-in-Err-of-clause-served g c =
    let back = c.into_disk-in-Err-of in
    stored_unopened g.D.Disk.told g.D.Disk.seen g.D.Disk.may_leave g.D.Disk.moment g.D.Disk.left_since g.D.Disk.faults c.args.table c.args.journal back.result _ _ _ c.args.setup _ _ _ _ refl
    (back.ensures ∙ ap (λ j. j.disk) c.in-Err-of.ensures.back) c.in-Ok.ensures.begun
