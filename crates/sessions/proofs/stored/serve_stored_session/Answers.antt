use Rattle.std.proofs.Common.{refl, ap, ◌∙◌}
use Rattle.sessions.proofs.OneSeat.{stored_without, stored_session_of}
use Rattle.sessions.proofs.stored.serve_stored_session.Goals as goal

pub returns-in-Ok-clause-session : goal.returns-in-Ok-clause-session
returns-in-Ok-clause-session g c =
    let begins = c.in-Ok.ensures.begins in
    stored_session_of g.D.Disk.told g.D.Disk.seen g.D.Disk.may_leave g.D.Disk.moment g.D.Disk.left_since g.D.Disk.faults c.args.table _ c.args.journal _ _ _ _ _ begins.0 begins.1 c.requires.rises c.requires.nobody
    c.conversations_are_kept.ensures c.shown_documents_are_proved_from_tables.ensures c.serve_stored_alone.ensures.serves

pub returns-in-Err-clause-session : goal.returns-in-Err-clause-session
returns-in-Err-clause-session g c =
    let served = c.turn_away-served in
    stored_session_of g.D.Disk.told g.D.Disk.seen g.D.Disk.may_leave g.D.Disk.moment g.D.Disk.left_since g.D.Disk.faults c.args.table c.args.table c.args.journal c.args.journal served.result c.into_disk.result _ _ refl refl
    c.requires.rises c.requires.nobody c.conversations_are_kept.ensures c.shown_documents_are_proved_from_tables.ensures
    (stored_without g.D.Disk.told g.D.Disk.seen g.D.Disk.may_leave g.D.Disk.moment g.D.Disk.left_since g.D.Disk.faults c.args.table c.args.journal served.result c.into_disk.result _ _
    (c.into_disk.ensures ∙ ap (λ j. j.disk) c.in-Err.ensures.back) served.ensures.serves)
