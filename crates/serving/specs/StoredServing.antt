-- A server over a journal: its one history goes on from the table that the journal gave.
use Rattle.std.specs.Prelude.{◌≡◌, ◌⊎◌, ℕ, ◌+◌, Bool, List, [], Result}
use Rattle.os_io.specs.Streams.{Tells}
use Rattle.os_io.specs.Links.{NetTells}
use Rattle.job_table.specs.Jobs.{Register, waiting_jobs}
use Rattle.job_journal.specs.declared.journal.Journal.{Journal}
use Rattle.job_journal.specs.Stores.{keeps_these, passes_between, too_long_behind}
use Rattle.job_runs.specs.Laws.{AreKeptIfStored}
use Rattle.desk.specs.declared.view.SeatEntry.{SeatEntry}
use Rattle.desk.specs.History.{moves_in}
use Rattle.desk.specs.Stores.{ClosesStored}
use Rattle.server_threads.specs.declared.means.ServeFault.{ServeFault}
use Rattle.server_threads.specs.Talks.{LinkTalk, Shift}
use Rattle.server_threads.specs.Serving.{EndsServing}
use Rattle.solve_run.specs.JobAnswers.{Right}
use Rattle.job_solver.specs.StoredDocuments.{AreShownFrom}
use Rattle.serving.specs.declared.setup.Setup.{Setup}
use Rattle.serving.specs.declared.ending.Ending.{Ending}
use Rattle.serving.specs.declared.ending.Ending.TheVariants.{ListenFault, AnnounceFault, NoMemory}
use Rattle.serving.specs.Serving.{IsShared, HostsBy, TellsEnd, IsRunOf, given_in}

-- how a desk over a journal is closed: which table and which journal come of these by a history
abbrev pub ClosesJournal : {D : Type 0} {g : _} (told : D → Bool) (seen : D → List ℕ) (may_leave : D → List ℕ → Type 0) (moment : D → ℕ) (left_since : D → ℕ → List ℕ → Type 0) (faults : D → ℕ) (first : Register) (journal : Journal D g) (log : List SeatEntry) (table : Register)
    (after : Journal D g) → Type 0
ClosesJournal told seen may_leave moment left_since faults first journal log table after =
    ClosesStored Right (keeps_these told seen may_leave) (passes_between told moment left_since) too_long_behind (λ j. j.broken) (λ j. faults j.disk) first journal log table after

-- how many jobs wait at the end, by how the server ended: before there was a desk nobody made a move, and behind a desk no job waits
abbrev pub EndsIdle : Ending → (log : List SeatEntry) → (waiting : ℕ) → Type 0
EndsIdle ListenFault log waiting = log ≡ []
EndsIdle AnnounceFault log waiting = log ≡ []
EndsIdle NoMemory log waiting = (log ≡ []) ⊎ (waiting ≡ 0)
EndsIdle how log waiting = waiting ≡ 0

module _ {D : Type 0} {g : _} (told : D → Bool) (seen : D → List ℕ) (may_leave : D → List ℕ → Type 0) (moment : D → ℕ) (left_since : D → ℕ → List ℕ → Type 0) (faults : D → ℕ) (first : Register) (journal : Journal D g) (left : D) where
  -- one history of moves that goes on from the table that a journal gave, each move made once its effect was stored, or refused. Every finish is kept, where it
  -- is stored, and every document that is shown is proved or was in that table. Where a desk was, no job waits at the end. This disk is left
  pub record IsStoredHistory (how : Ending) (servers : ℕ) (links : List LinkTalk) (staff : List Shift) (closer : Shift) (log : List SeatEntry) : Type 0 where
    pub table : Register
    pub after : Journal D g
    pub left_is : left ≡ after.disk
    pub closes_with : ClosesJournal told seen may_leave moment left_since faults first journal log table after
    pub shared : IsShared servers links staff closer log
    pub kept : AreKeptIfStored (moves_in log)
    pub shown : AreShownFrom first (moves_in log)
    pub idle : EndsIdle how log (waiting_jobs table.jobs)

  -- a server over that table and that journal. Of the numbers that were given it also counts those that were before
  abbrev pub IsStoredServerRun : (how : Ending) (host : List ℕ) (port : ℕ) (setup : Setup) (old new : NetTells) (output output' : Tells) → Type 0
  IsStoredServerRun how host port setup old new output output' =
      IsRunOf (λ log. first.issued + given_in log) (λ links staff closer log. IsStoredHistory how setup.limits.servers links staff closer log) how host port setup old new output output'

  -- what becomes of a desk over that table and that journal, once the server listens: its links are served, its numbers counted, and it is closed
  abbrev pub ServesOver : (how : Ending) (setup : Setup) (old new : NetTells) (output output' : Tells) → Type 0
  ServesOver how setup old new output output' =
      (served : Result ℕ ServeFault) × (given : ℕ)
      × HostsBy (λ links staff closer log. IsStoredHistory how setup.limits.servers links staff closer log)
      (λ links log. (given ≡ first.issued + given_in log) × EndsServing served setup.limits.connections links old.faults new.faults) setup old new
      × (new.reached ≡ old.reached) × TellsEnd served given how output output'
