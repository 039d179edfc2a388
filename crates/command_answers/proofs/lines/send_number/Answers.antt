use Rattle.os_io.proofs.Pieces.{sends_flushed}
use Rattle.command_answers.proofs.lines.send_number.Goals as goal

pub returns : goal.returns
returns g c =
    let f = c.flush.ensures in
    sends_flushed _ c.flush.result _ c.in_ok-write_number.ensures f.written f.all f.handed_on f.counted f.input
