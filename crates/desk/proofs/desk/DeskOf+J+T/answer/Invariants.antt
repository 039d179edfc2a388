use Rattle.job_table.specs.Kept.{said_in}
use Rattle.desk.specs.SeatMoves.{reply_in}
use Rattle.desk.proofs.desk.DeskOf+J+T.answer.Given as goal

-- the move that was made, with its answer
abbrev pub ghosts-pass_on : goal.ghosts-pass_on
ghosts-pass_on g a = record { table_move = g.M.Move.table_move a._asked.value; reply = reply_in (said_in g.M.Move.said a._answer.now) }
