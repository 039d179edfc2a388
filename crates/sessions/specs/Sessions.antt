-- A session, from the empty table on whose numbers begin with 1.
use Rattle.std.specs.Prelude.{◌≡◌, List}
use Rattle.os_io.specs.Streams.{Tells}
use Rattle.solve_run.specs.JobAnswers.{Right}
use Rattle.job_table.specs.Jobs.{Register, beginning}
use Rattle.job_table.specs.History.{MoveEntry, LeadsStepwise}
use Rattle.job_runs.specs.Laws.{AreKept}
use Rattle.job_solver.specs.Runs.{MakesDocument, WakesNobody}
use Rattle.job_solver.specs.ProvedDocuments.{AreProved}
use Rattle.os_server.specs.declared.serve.Served.{Served}
use Rattle.os_server.specs.Talk.{Serves}

-- a conversation that ended so, from before to after, and no others made moves of its table: step by step from the empty one whose
-- numbers begin with 1, they are this conversation's
abbrev pub ServesAlone : Served → Tells → Tells → Type 0
ServesAlone end old new = (table : Register) × Serves MakesDocument WakesNobody (λ made. LeadsStepwise Right (beginning 1) made table) end old new

-- a session that ended so, from before to after: moves of the table, step by step from the empty one whose numbers begin with 1, which are
-- this conversation's and no other's; every finish among them is kept, and every document that is shown is proved
pub record IsSession (end : Served) (old new : Tells) : Type 0 where
  pub entries : List MoveEntry
  pub table : Register
  pub runs : LeadsStepwise Right (beginning 1) entries table
  pub serves : Serves MakesDocument WakesNobody (λ made. made ≡ entries) end old new
  pub kept : AreKept entries
  pub proved : AreProved entries
