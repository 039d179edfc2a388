-- A session over a journal.
use Rattle.std.specs.Prelude.{◌≡◌, ℕ, Bool, List}
use Rattle.os_io.specs.Streams.{Tells}
use Rattle.solve_run.specs.JobAnswers.{Right}
use Rattle.job_table.specs.Jobs.{Register}
use Rattle.job_table.specs.History.{MoveEntry as Said}
use Rattle.job_journal.specs.declared.journal.Journal.{Journal}
use Rattle.job_journal.specs.Stores.{keeps_these, passes_between, too_long_behind}
use Rattle.job_runs.specs.Laws.{AreKeptIfStored}
use Rattle.desk.specs.History.{by}
use Rattle.desk.specs.Stores.{ClosesStored}
use Rattle.job_solver.specs.Runs.{MakesDocument, WakesNobody}
use Rattle.job_solver.specs.StoredDocuments.{AreShownFrom}
use Rattle.os_server.specs.declared.serve.Served.{Served}
use Rattle.os_server.specs.Talk.{Serves}

-- a conversation that ended so, from before to after, and no others made moves of this table: what the table and the journal then were is such that this disk was left
abbrev pub ServesStored : {D : Type 0} {g : _} (told : D → Bool) (seen : D → List ℕ) (may_leave : D → List ℕ → Type 0) (moment : D → ℕ) (left_since : D → ℕ → List ℕ → Type 0) (faults : D → ℕ) (first : Register) (journal : Journal D g) (end : Served) (disk : D)
    (old new : Tells) → Type 0
ServesStored {D} {g} told seen may_leave moment left_since faults first journal end disk old new =
    (own : List Said) × (table : Register) × (after : Journal D g) × (disk ≡ after.disk)
    × ClosesStored Right (keeps_these told seen may_leave) (passes_between told moment left_since) too_long_behind (λ j. j.broken) (λ j. faults j.disk) first journal (by 0 own) table after
    × Serves MakesDocument WakesNobody (λ made. made ≡ own) end old new

-- a session that ended so, from before to after: moves of this table, each made once its effect was stored, or refused, which are this
-- conversation's and no other's. Every finish among them is kept, where it is stored, and every document that is shown is proved or was in that table. What the
-- journal then was is such that this disk was left
pub record IsStoredSession {D : Type 0} {g : _} (told : D → Bool) (seen : D → List ℕ) (may_leave : D → List ℕ → Type 0) (moment : D → ℕ) (left_since : D → ℕ → List ℕ → Type 0) (faults : D → ℕ)
    (first : Register) (journal : Journal D g) (end : Served) (disk : D) (old new : Tells) : Type 0 where
  pub own : List Said
  pub table : Register
  pub after : Journal D g
  pub left_is : disk ≡ after.disk
  pub closes : ClosesStored Right (keeps_these told seen may_leave) (passes_between told moment left_since) too_long_behind (λ j. j.broken) (λ j. faults j.disk) first journal (by 0 own) table after
  pub serves : Serves MakesDocument WakesNobody (λ made. made ≡ own) end old new
  pub kept : AreKeptIfStored own
  pub shown : AreShownFrom first own
