use Rattle.os_io.proofs.Pieces.{sends_flushed}
use Rattle.os_client.proofs.agent.ask.Goals as goal

pub returns : goal.returns
returns g c =
    let f = c.flush.ensures in
    sends_flushed _ c.flush.result _ c.in_ok-write_request.ensures f.written f.all f.handed_on f.counted f.input
