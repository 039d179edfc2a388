-- How a run ends that writes a journal again, from one file into another.
use Rattle.std.specs.Prelude.{◌≡◌, ℕ, List, [], ◌∷◌, ◌++◌, Option, Result, Err}
use Rattle.os_io.specs.declared.files.FileFault.{FileFault}
use Rattle.os_io.specs.Files.{CountsFiles}
use Rattle.os_io.specs.Streams.{BothTold, Tells}
use Rattle.disks.specs.declared.disk.Disk.{Ghosts}
use Rattle.disks.specs.Stores.{AreOpened, IsBack, IsHeld}
use Rattle.job_journal.specs.declared.faults.CompactFault.{CompactFault}
use Rattle.job_solver.specs.Compactions.{Compacts}
use Rattle.os_app.specs.JournalFaults.{IsSaidOfCopy, unopened_status}
use Rattle.os_app.specs.ProgramRuns.{StoresRun}

-- two that had these bytes were given back behind those before, in this order
abbrev pub AreBack : Option (List (List ℕ)) → Option (List (List ℕ)) → (first second : List ℕ) → Type 0
AreBack old new first second = BothTold old new (λ before after. after ≡ before ++ first ∷ second ∷ [])

module _ {D : Type 0} (g : Ghosts D) where
  -- A disk was opened by each name, and no other, and has the bytes that its name held, where the names are two. The journal on the first was written again on the second, which
  -- ended so, and what was left of both was given back, in this order.
  pub record IsCompaction (from to : List ℕ) (how : Result (Unit {0}) CompactFault) (stores : StoresRun) : Type 0 where
    pub old : D
    pub new : D
    pub old_left : D
    pub new_left : D
    pub old_file : IsHeld (stores.held from) (g.told old) (g.seen old)
    pub new_file : (to ≡ from → ⊥) → IsHeld (stores.held to) (g.told new) (g.seen new)
    pub compacts : Compacts g g how old new old_left new_left
    pub back : AreBack stores.back stores.back_after (g.seen old_left) (g.seen new_left)
    pub named : AreOpened stores.opened stores.opened_after (from ∷ to ∷ [])
    pub all_opened : stores.faults_after ≡ stores.faults

  -- the second one wasn't opened, and the first one, which alone was, was given back as it was
  pub record IsNotBegun (from : List ℕ) (fault : FileFault) (stores : StoresRun) : Type 0 where
    pub old : D
    pub old_file : IsHeld (stores.held from) (g.told old) (g.seen old)
    pub back : IsBack stores.back stores.back_after (g.seen old)
    pub named : AreOpened stores.opened stores.opened_after (from ∷ [])
    pub counted : CountsFiles {X = Unit {0}} (Err fault) stores.faults stores.faults_after

  -- how it ends: both were opened, and how that ended is said; or one wasn't, a fault was counted, or there was no memory, and nothing was written
  pub data EndsCompact (from to : List ℕ) (status : ℕ) (stores : StoresRun) (output output_after : Tells) : Type 0 where
    both : (how : Result (Unit {0}) CompactFault) → IsCompaction from to how stores → IsSaidOfCopy how status output output_after → EndsCompact from to status stores output output_after
    no_old : (fault : FileFault) → status ≡ unopened_status 3 fault → CountsFiles {X = Unit {0}} (Err fault) stores.faults stores.faults_after → stores.back_after ≡ stores.back → stores.opened_after ≡ stores.opened → output_after ≡ output → EndsCompact from to status stores output output_after
    no_new : (fault : FileFault) → status ≡ unopened_status 4 fault → IsNotBegun from fault stores → output_after ≡ output → EndsCompact from to status stores output output_after
