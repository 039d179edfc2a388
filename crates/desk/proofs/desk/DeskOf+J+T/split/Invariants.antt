use Rattle.std.proofs.Common.{Some}
use Rattle.desk.specs.SeatMoves.{told_of}
use Rattle.desk.proofs.desk.DeskOf+J+T.split.Given as goal

-- what lay in this desk's slot at first
abbrev pub ghosts-settle : goal.ghosts-settle
ghosts-settle g a = record { start = Some (g.T.SlotContents.opening (told_of a.self.now)) }
