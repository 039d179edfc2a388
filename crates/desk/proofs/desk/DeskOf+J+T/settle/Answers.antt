use Rattle.std.proofs.Common.{rules}
use Rattle.desk.proofs.Seats.{settles}
use Rattle.desk.proofs.desk.DeskOf+J+T.settle.Goals as goal

pub load-requires : goal.load-requires
load-requires g c = (search rules, search rules, settles _ _ _ _ _ c.requires.begins c.requires.live)
