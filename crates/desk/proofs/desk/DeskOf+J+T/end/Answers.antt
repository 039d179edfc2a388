use Rattle.desk.proofs.Seats.{closed_some, closed_with}
use Rattle.desk.proofs.desk.DeskOf+J+T.end.Goals as goal

pub unreachable-requires : goal.unreachable-requires
unreachable-requires g c =
    closed_some _ _ _ _ _ _ c.requires.seat.ready c.requires.first c.requires.alone c.close_with-closed.ensures.values.2 c.take-slot.ensures.value c.in-None.is

pub returns : goal.returns
returns g c =
    closed_with _ _ _ _ _ _ _ c.requires.seat.ready c.requires.first c.requires.alone c.close_with-closed.ensures.values.2 c.take-slot.ensures.value c.in-Some.is
