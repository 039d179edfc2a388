-- Which effect a move has, and how effects stand for what the table holds.
use Rattle.std.specs.Prelude.{◌≡◌, ℕ, nat_le, nat_lt, Bool, true, false, ◌&&◌, not, List, Option, Some, None, if◌then◌else◌, length, bytes_eq, map}
use Rattle.effects.specs.Records.{Deed}
use Rattle.effects.specs.Records as deed
use Rattle.effects.specs.Fold.{Stage, Given, Sent, Asked, Over, Stopped, Ledger, after}
use Rattle.job_table.specs.declared.job.Phase.{Phase}
use Rattle.job_table.specs.declared.job.Phase.TheVariants.{Issued, Waiting, Running, Finished, Killed}
use Rattle.job_table.specs.declared.job.Job.{Job}
use Rattle.job_table.specs.declared.entries.TableMove.{TableMove}
use Rattle.job_table.specs.declared.entries.TableMove.TheVariants.{Issue, Send, Enter, Finish, Kill}
use Rattle.job_table.specs.Jobs.{Register, phase_of, next_number, Rise}
use Rattle.job_table.specs.Steps.{most_jobs, last_number, row_of_move}

-- how effects see a phase: a job that runs waits again, unless it was asked to stop
abbrev pub stage : Phase → Stage
stage Issued = Given
stage (Waiting osil osol) = Sent osil osol
stage (Running osil osol true) = Asked osil osol
stage (Running osil osol false) = Sent osil osol
stage (Finished document) = Over document
stage Killed = Stopped

abbrev pub seen_as : ℕ × Phase → ℕ × Stage
seen_as held = (held.0, stage held.1)

abbrev pub ledger_of : Register → Ledger
ledger_of r = record { first = r.first; jobs = map seen_as r.jobs; issued = r.issued }

-- there is room for a new job, and a number is left
abbrev pub has_room : Register → Bool
has_room r = not (nat_le most_jobs (length r.jobs)) && not (nat_lt last_number (next_number r))

-- a job takes texts that has its number alone
abbrev pub takes_texts : Option Phase → Bool
takes_texts (Some Issued) = true
takes_texts _ = false

abbrev pub ended : List ℕ → List ℕ → Bool → Job → Bool → Deed → Option Deed
ended osil osol marked j asked d =
    if bytes_eq j.osil osil && bytes_eq j.osol osol then (if asked && not marked then None else Some d) else None

abbrev pub finished_of : Job → Bool → Option Phase → Deed → Option Deed
finished_of j asked (Some (Running osil osol marked)) d = ended osil osol marked j asked d
finished_of j asked _ d = None

abbrev pub killed_of : ℕ → Option Phase → Option Deed
killed_of n (Some Issued) = Some (deed.Killed n)
killed_of n (Some (Waiting osil osol)) = Some (deed.Killed n)
killed_of n (Some (Running osil osol false)) = Some (deed.Marked n)
killed_of n (Some (Running osil osol true)) = None
killed_of n (Some (Finished document)) = Some (deed.GivenUp n)
killed_of n (Some Killed) = Some (deed.GivenUp n)
killed_of n None = None

-- the effect of a move, where it has one
abbrev pub planned : TableMove → Register → Option Deed
planned Issue r = if has_room r then Some deed.Issue else None
planned (Send n osil osol) r = if takes_texts (phase_of n r.jobs) then Some (deed.Send n osil osol) else None
planned (Enter osil osol) r = if has_room r then Some (deed.Enter osil osol) else None
planned (Finish j asked document) r = finished_of j asked (phase_of j.number r.jobs) (deed.Finish j.number document)
planned (Kill n) r = killed_of n (phase_of n r.jobs)
planned _ r = None

-- a move that has an effect in some table, and so may be refused where that isn't stored
abbrev pub may_have_effect : TableMove → Bool
may_have_effect Issue = true
may_have_effect (Send n osil osol) = true
may_have_effect (Enter osil osol) = true
may_have_effect (Finish j asked document) = true
may_have_effect (Kill n) = true
may_have_effect _ = false

-- the effect leads there; without one nothing changes
abbrev pub Effected : Option Deed → Ledger → Ledger → Type 0
Effected (Some d) old new = after d old ≡ Some new
Effected None old new = new ≡ old

-- the effect of each move leads from what effects see of the table to what they see of it after the move's row
abbrev pub PlansSo : Type 0
PlansSo =
    (move : TableMove) (r : Register) → Rise r.first r.jobs (next_number r)
    → Effected (planned move r) (ledger_of r) (ledger_of (row_of_move move r).after)
