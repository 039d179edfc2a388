use Rattle.desk.specs.SeatMoves.{told_of}
use Rattle.serving.proofs.StoredHistories.{served_over}
use Rattle.serving.proofs.server.serve_over.Goals as goal

pub returns-clause-served : goal.returns-clause-served
returns-clause-served g c =
    let start = told_of c.args.desk in
    let loop = c.serve_loop-first in
    let closed = c.close_stored-table in
    let at = loop.ensures.seat in
    let worked = c.work_closing_shift.ensures.worked in
    served_over g.D.Disk.told g.D.Disk.seen g.D.Disk.may_leave g.D.Disk.moment g.D.Disk.left_since g.D.Disk.faults start.table start.store c.into_disk.result c.tell_end-ending.result c.requires.rises c.requires.nobody
    c.first_finish_is_kept.ensures c.numbers_are_given_once.ensures c.shown_documents_are_proved_from_tables.ensures c.args.setup c.issued-given.result loop.result.1 _ _ _ _ _ _ _ worked.0
    closed.result.0 closed.result.1 loop.ensures.served c.requires.fresh at.ready.stand at.ready.known worked.1 worked.2 closed.ensures c.issued-given.ensures c.into_disk.ensures c.tell_end-ending.ensures.told
