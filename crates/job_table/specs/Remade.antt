-- What effects leave of a table that they are made in again, and the table that goes on from there.
use Rattle.std.specs.Prelude.{◌≡◌, ℕ, Bool, true, false, not, List, [], ◌∷◌, Option, Some, None, Result, Ok, Err, map}
use Rattle.effects.specs.Records.{Deed}
use Rattle.effects.specs.Fold.{Stage, Given, Sent, Asked, Over, Stopped, Ledger, after}
use Rattle.job_table.specs.declared.job.Phase.{Phase}
use Rattle.job_table.specs.declared.job.Phase.TheVariants.{Issued, Waiting, Running, Finished, Killed}
use Rattle.job_table.specs.Jobs.{Register, HeldJobs}
use Rattle.job_table.specs.Plans.{ledger_of}

-- a job takes a document that has its texts
abbrev pub takes_document : Option Phase → Bool
takes_document (Some (Waiting osil osol)) = true
takes_document (Some (Running osil osol marked)) = true
takes_document _ = false

-- a job is killed before it runs where it wasn't asked to stop
abbrev pub takes_kill : Option Phase → Bool
takes_kill (Some Issued) = true
takes_kill (Some (Waiting osil osol)) = true
takes_kill (Some (Running osil osol marked)) = not marked
takes_kill _ = false

-- a job is asked to stop that has its texts
abbrev pub takes_mark : Option Phase → Bool
takes_mark (Some (Waiting osil osol)) = true
takes_mark (Some (Running osil osol marked)) = not marked
takes_mark _ = false

-- a job is given up that is over, or was asked to stop
abbrev pub takes_farewell : Option Phase → Bool
takes_farewell (Some (Running osil osol marked)) = marked
takes_farewell (Some (Finished document)) = true
takes_farewell (Some Killed) = true
takes_farewell _ = false

-- each job that runs was asked to stop
abbrev pub IsAtRest : Phase → Type 0
IsAtRest (Running osil osol marked) = marked ≡ true
IsAtRest _ = Unit {0}

abbrev pub AllAtRest : HeldJobs → Type 0
AllAtRest [] = Unit {0}
AllAtRest (held ∷ jobs) = IsAtRest held.1 × AllAtRest jobs

-- no worker is enlisted, and each job that runs was asked to stop
pub record IsRemade (r : Register) : Type 0 where
  pub nobody : r.workers ≡ 0
  pub at_rest : AllAtRest r.jobs

-- an effect was made again, or isn't possible
abbrev pub Remakes : Deed → Register → Bool → Register → Type 0
Remakes d old true new = (after d (ledger_of old) ≡ Some (ledger_of new)) × (IsRemade old → IsRemade new)
Remakes d old false new = (after d (ledger_of old) ≡ None) × (new ≡ old)

-- the same, where there may be no memory: then nothing changes
abbrev pub TriesAgain : {E : Type 0} → Deed → Register → Result Bool E → Register → Type 0
TriesAgain d old (Ok made) new = Remakes d old made new
TriesAgain d old (Err lost) new = new ≡ old

-- the text of the instance of a job that takes a document
abbrev pub osil_of : Option Phase → Option (List ℕ)
osil_of (Some (Waiting osil osol)) = Some osil
osil_of (Some (Running osil osol marked)) = Some osil
osil_of _ = None

-- the number of the first job that runs and was asked to stop
abbrev pub number_if_marked : ℕ → Phase → Option ℕ → Option ℕ
number_if_marked n (Running osil osol true) other = Some n
number_if_marked n _ other = other

abbrev pub first_marked : HeldJobs → Option ℕ
first_marked [] = None
first_marked (held ∷ jobs) = number_if_marked held.0 held.1 (first_marked jobs)

-- a job that runs and was asked to stop is killed
abbrev pub settled_phase : Phase → Phase
settled_phase (Running osil osol true) = Killed
settled_phase phase = phase

abbrev pub settled : Register → Register
settled r = record r { jobs = map (λ held. (held.0, settled_phase held.1)) r.jobs }

-- how a job goes on: it waits if it has its texts, and was killed if it was asked to stop
abbrev pub phase_from : Stage → Phase
phase_from Given = Issued
phase_from (Sent osil osol) = Waiting osil osol
phase_from (Asked osil osol) = Killed
phase_from (Over document) = Finished document
phase_from Stopped = Killed

-- the table that goes on from what effects left
abbrev pub table_of : Ledger → Register
table_of l = record { first = l.first; jobs = map (λ held. (held.0, phase_from held.1)) l.jobs; issued = l.issued; workers = 0 }
