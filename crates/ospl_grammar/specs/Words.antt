-- The words of states in a process document (Optimization Services process language).
use Rattle.std.specs.Prelude.{ℕ, Bool, true, false, List, codes}
use Rattle.ospl_grammar.specs.declared.process.JobState.{JobState}
use Rattle.ospl_grammar.specs.declared.process.JobState.TheVariants.{Issued, Waiting, Running, Finished, Killed}

-- whether a job runs
abbrev pub busy_text : Bool → List ℕ
busy_text true = codes "busy"
busy_text false = codes "idle"

-- how far a job has come
abbrev pub state_text : JobState → List ℕ
state_text Issued = codes "issued"
state_text Waiting = codes "waiting"
state_text Running = codes "running"
state_text Finished = codes "finished"
state_text Killed = codes "killed"
