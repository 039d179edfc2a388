-- The parts of statistics: what they have said so far, each of which has to be said exactly once.
use Rattle.std.specs.Prelude.{ℕ, Bool, true, false, ◌||◌, cond, Option, None, Some, List, [], ◌∷◌, ◌++◌}
use Rattle.ospl_grammar.specs.declared.process.JobState.{JobState}
use Rattle.ospl_grammar.specs.declared.process.StatedJob.{StatedJob}
use Rattle.ospl_grammar.specs.declared.process.Process.{Process}
use Rattle.ospl_grammar.specs.declared.process.Process.TheVariants.{Statistics}
use Rattle.ospl_grammar.specs.declared.parts.Parts.{Parts}

abbrev pub no_parts : Parts
no_parts = record { fails = false; busy = None; current = None; total = None; listed = false; jobs = []; id = None; state = None }

-- what is to be said once was said before, or isn't said now
abbrev pub misses : {X : Type 0} → Option X → Option X → Bool
misses {X} None (Some x) = false
misses {X} None None = true
misses {X} (Some y) o = true

-- a part ends that says this, or nothing
abbrev pub with_busy : Parts → Option Bool → Parts
with_busy p o = record p { fails = p.fails || misses p.busy o; busy = o }

abbrev pub with_current : Parts → Option ℕ → Parts
with_current p o = record p { fails = p.fails || misses p.current o; current = o }

abbrev pub with_total : Parts → Option ℕ → Parts
with_total p o = record p { fails = p.fails || misses p.total o; total = o }

-- `jobs` begins
abbrev pub with_list : Parts → Parts
with_list p = record p { fails = p.fails || p.listed; listed = true }

-- in a job its state ends
abbrev pub with_state : Parts → Option JobState → Parts
with_state p o = record p { fails = p.fails || misses p.state o; state = o }

-- a job ends: it has a name and a state, or the statistics aren't whole
abbrev pub added : Option (List ℕ) → Option JobState → Parts → Parts
added (Some i) (Some s) p = record p { jobs = p.jobs ++ record { id = i; state = s } ∷ [] }
added (Some i) None p = record p { fails = true }
added None s p = record p { fails = true }

abbrev pub with_job : Parts → Parts
with_job p = added p.id p.state (record p { id = None; state = None })

-- the statistics, where they are whole
abbrev pub stated : Option Bool → Option ℕ → Option ℕ → List StatedJob → Option Process
stated (Some busy) (Some current) (Some total) jobs = Some (Statistics busy current total jobs)
stated (Some busy) (Some current) None jobs = None
stated (Some busy) None t jobs = None
stated None c t jobs = None

abbrev pub whole : Parts → Option Process
whole p = cond p.fails None (cond p.listed (stated p.busy p.current p.total p.jobs) None)
