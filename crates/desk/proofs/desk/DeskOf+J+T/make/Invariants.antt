use Rattle.std.proofs.Common.{Some}
use Rattle.desk.specs.SeatMoves.{told_of}
use Rattle.desk.proofs.desk.DeskOf+J+T.make.Given as goal

-- what lay in this desk's slot at first
abbrev pub ghosts-take : goal.ghosts-take
ghosts-take g a = record { start = Some (g.T.SlotContents.opening (told_of a.self.now)) }
