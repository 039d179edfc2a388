-- Places in order of issue, each behind its number, of which those that are empty had a job that was given up.
use Rattle.std.specs.Prelude.{ℕ, Bool, List, [], ◌∷◌, Option, Some, None, is_some}
use Rattle.job_table.specs.declared.job.Phase.{Phase}
use Rattle.job_table.specs.Jobs.{HeldJobs}

abbrev pub Places : Type 0
Places = List (ℕ × Option Phase)

-- a job before others, where its place has a phase
abbrev pub with_held : ℕ → Option Phase → HeldJobs → HeldJobs
with_held n None jobs = jobs
with_held n (Some phase) jobs = (n, phase) ∷ jobs

-- the jobs that are held
abbrev pub held_in : Places → HeldJobs
held_in [] = []
held_in (place ∷ places) = with_held place.0 place.1 (held_in places)

abbrev pub has_phase : ℕ × Option Phase → Bool
has_phase place = is_some place.1
