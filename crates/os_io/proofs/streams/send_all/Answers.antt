use Rattle.os_io.proofs.Pieces.{sends_flushed}
use Rattle.os_io.proofs.streams.send_all.Goals as goal

pub returns : goal.returns
returns g c =
    let f = c.flush.ensures in
    sends_flushed _ c.flush.result _ c.in_ok-write_all.ensures f.written f.all f.handed_on f.counted f.input
