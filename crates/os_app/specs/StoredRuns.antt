-- How a run over a journal ends.
use Rattle.std.specs.Prelude.{◌≡◌, ◌⊎◌, false, true, ℕ, List, [], ◌∷◌, Option, Some, Err}
use Rattle.os_io.specs.Links.{NetTells}
use Rattle.os_io.specs.Streams.{Tells, HasRisen}
use Rattle.effects.specs.Records.{Deed, AllFit}
use Rattle.job_table.specs.Jobs.{Register, Rises, NobodyRuns}
use Rattle.job_journal.specs.declared.journal.Journal.{Journal}
use Rattle.job_journal.specs.declared.scanning.OpenFault.{OpenFault}
use Rattle.job_journal.specs.declared.scanning.OpenFault.TheVariants.{ReadFault, Memory}
use Rattle.job_journal.specs.Journal.{FileStandsFor}
use Rattle.job_journal.specs.Opening.{Calm, CountsOpening, DamagedIn}
use Rattle.disks.specs.declared.disk.Disk.{Ghosts}
use Rattle.disks.specs.Disks.{LeavesOnly}
use Rattle.disks.specs.Stores.{AreOpened, IsBack, IsHeld}
use Rattle.job_solver.specs.Sieves.{Sifts}
use Rattle.job_solver.specs.Openings.{NumbersBeginWith, StandsOrBegins, TableGoesOn, IsOfFile, IsTableOf}
use Rattle.os_server.specs.Talk.{both_ends}
use Rattle.sessions.specs.StoredSessions.{IsStoredSession}
use Rattle.serving.specs.declared.setup.Setup.{Setup}
use Rattle.serving.specs.StoredServing.{IsStoredServerRun}
use Rattle.command_line.specs.Words.{Compact, Session, asks}
use Rattle.os_app.specs.CompactRuns.{EndsCompact}
use Rattle.os_app.specs.JournalFaults.{IsSaidOf}
use Rattle.os_app.specs.ProgramRuns.{ProgramRun, StoresRun, IsUntaken, LeavesInput, asks_to_serve}
use Rattle.os_app.specs.Statuses.{session_status, serve_status}

module _ {D : Type 0} (g : Ghosts D) where
  -- a crash at any moment between the two leaves what it might have left before, or a file that stands for the same effects, or, where that is possible behind them, for
  -- these and that numbers begin with this one
  abbrev pub LeavesEffects : (first : ℕ) → (disk now : D) → Type 0
  LeavesEffects first disk now =
      (deeds : List Deed) → g.told disk ≡ true → AllFit deeds → FileStandsFor deeds (g.seen disk) → LeavesOnly g.moment g.left_since disk now (λ c. g.may_leave disk c ⊎ StandsOrBegins first deeds c)

  -- a journal is open on this disk, which has what its name held. The table goes on from effects, each possible and accepted behind those before, which are those
  -- that the file stood for, where that is told; numbers begin with this one where none was given and the file has room to say so. No call of the disk failed
  pub record OpensJournal (held : Option (List ℕ)) (first : ℕ) (disk : D) (table : Register) (journal : Journal D g) : Type 0 where
    pub file : IsHeld held (g.told disk) (g.seen disk)
    pub unbroken : journal.broken ≡ false
    pub rises : Rises table
    pub nobody : NobodyRuns table
    pub begins : NumbersBeginWith first journal.end table.first table.issued
    pub goes_on : (deeds : List Deed) × TableGoesOn deeds table
    pub opened : g.told disk ≡ true → IsTableOf g.seen g.may_leave (g.seen disk) first table journal.disk journal.end
    pub still : g.faults journal.disk ≡ g.faults disk
    pub any_moment : LeavesEffects first disk journal.disk

  -- the journal of this name is open, no other was, and its disk isn't given back yet
  pub record IsOpen (name : List ℕ) (first : ℕ) (table : Register) (journal : Journal D g) (stores : StoresRun) : Type 0 where
    pub disk : D
    pub opens : OpensJournal (stores.held name) first disk table journal
    pub back : stores.back_after ≡ stores.back
    pub named : AreOpened stores.opened stores.opened_after (name ∷ [])
    pub all_opened : stores.faults_after ≡ stores.faults

  -- the disk of this name was opened, and no other, and what is left of it was given back
  pub record GivesBack (name : List ℕ) (stores : StoresRun) (left : D) : Type 0 where
    pub back : IsBack stores.back stores.back_after (g.seen left)
    pub named : AreOpened stores.opened stores.opened_after (name ∷ [])
    pub all_opened : stores.faults_after ≡ stores.faults

  -- the journal of this name was opened, this was done over the table and the journal, and the disk that was left was given back
  pub record IsOverJournal (Does : Register → Journal D g → D → Type 0) (name : List ℕ) (first : ℕ) (stores : StoresRun) : Type 0 where
    pub disk : D
    pub table : Register
    pub journal : Journal D g
    pub opens : OpensJournal (stores.held name) first disk table journal
    pub left : D
    pub does : Does table journal left
    pub given_back : GivesBack name stores left

  -- this is left of a disk whose journal wasn't opened: the file as it was, where it wasn't read or is damaged, and else one that keeps its effects
  pub record KeepsFile (first : ℕ) (fault : OpenFault) (disk left : D) : Type 0 where
    pub same : IsOfFile fault → Calm g.told g.seen g.may_leave g.moment g.left_since disk left
    pub any_moment : LeavesEffects first disk left

  -- why the journal of this name wasn't opened: no disk was; or what stands on it wasn't, and it was given back. A fault of reading or writing was counted, and a
  -- damaged journal is
  pub data Unopened (name : List ℕ) (first : ℕ) (stores : StoresRun) (fault : OpenFault) : Type 0 where
    no_disk : fault ≡ ReadFault → HasRisen stores.faults stores.faults_after → stores.back_after ≡ stores.back → stores.opened_after ≡ stores.opened → Unopened name first stores fault
    no_memory : fault ≡ Memory → stores.faults_after ≡ stores.faults → stores.back_after ≡ stores.back → stores.opened_after ≡ stores.opened → Unopened name first stores fault
    no_journal : (disk left : D) → IsHeld (stores.held name) (g.told disk) (g.seen disk) → (g.told disk ≡ true → DamagedIn Sifts (g.seen disk) fault) → CountsOpening {X = Unit {0}} (Err fault) (g.faults disk) (g.faults left)
        → KeepsFile first fault disk left → GivesBack name stores left → Unopened name first stores fault

  -- how a command over the journal of this name ends: it did what it does, which ended so, with that status; or the journal wasn't opened, which is said, and
  -- nothing else was touched
  pub data EndsOver {How : Type 0} (status_of : How → ℕ) (Does : How → Register → Journal D g → D → Type 0) (Untouched : Type 0) (name : List ℕ) (first status : ℕ) (stores : StoresRun) (output output_after : Tells) : Type 0 where
    done : (how : How) → status ≡ status_of how → IsOverJournal (Does how) name first stores → EndsOver status_of Does Untouched name first status stores output output_after
    unopened : (fault : OpenFault) → Unopened name first stores fault → IsSaidOf fault status output output_after → Untouched → EndsOver status_of Does Untouched name first status stores output output_after

  -- a session over the journal of this name
  abbrev pub KeepsSession : (name : List ℕ) → (status : ℕ) → StoresRun → (input input_after output output_after : Tells) → Type 0
  KeepsSession name status stores input input_after output output_after =
      EndsOver session_status (λ how table journal left. IsStoredSession g.told g.seen g.may_leave g.moment g.left_since g.faults table journal how left (both_ends input output) (both_ends input_after output_after)) (input_after ≡ input) name 1 status stores output output_after

  -- a server over it, at this port of a host, so set up
  abbrev pub KeepsServer : (host : List ℕ) → (port : ℕ) → Setup → (name : List ℕ) → (status : ℕ) → StoresRun → (net net_after : NetTells) → (output output_after : Tells) → Type 0
  KeepsServer host port setup name status stores net net_after output output_after =
      EndsOver serve_status (λ how table journal left. IsStoredServerRun g.told g.seen g.may_leave g.moment g.left_since g.faults table journal left how host port setup net net_after output output_after) (net_after ≡ net) name setup.first status stores output output_after

  -- how a run ends whose words name a journal
  pub data StoredRunEnds (status : ℕ) (run : ProgramRun) (stores : StoresRun) : Type 0 where
    kept : (name : List ℕ) → asks run.words ≡ Some (Session (Some name)) → KeepsSession name status stores run.input run.input_after run.output run.output_after → StoredRunEnds status run stores
    hosted : (host : List ℕ) (port : ℕ) (setup : Setup) (name : List ℕ) → asks run.words ≡ Some (asks_to_serve host port setup (Some name)) → KeepsServer host port setup name status stores run.net run.net_after run.output run.output_after → LeavesInput run
        → StoredRunEnds status run stores
    compacted : (from to : List ℕ) → asks run.words ≡ Some (Compact from to) → EndsCompact g from to status stores run.output run.output_after → IsUntaken run → StoredRunEnds status run stores
