-- The words of result documents (Optimization Services result language), and the names of the parts of a certificate.
use Rattle.std.specs.Prelude.{ℕ, List, codes}
use Rattle.osrl_writing.specs.declared.report.JobStatus.{JobStatus}
use Rattle.osrl_writing.specs.declared.report.JobStatus.TheVariants as statuses
use Rattle.osrl_writing.specs.declared.parts.Part.{Part}
use Rattle.osrl_writing.specs.declared.parts.Part.TheVariants.{Point, Value, Ray, Cause, Bound, Rounds, Tree}
use Rattle.osrl_writing.specs.declared.parts.Claiming.{Claiming}
use Rattle.osrl_writing.specs.declared.parts.Claiming.TheVariants.{Optimal, Infeasible, Unbounded, BestSoFar, Unsure}

-- the words of a job's status
abbrev pub status_text : JobStatus → List ℕ
status_text statuses.Unknown = codes "unknown"
status_text statuses.Issued = codes "issued"
status_text statuses.Waiting = codes "waiting"
status_text statuses.Running = codes "running"
status_text statuses.Killed = codes "killed"
status_text statuses.Finished = codes "finished"

-- the types of a solution's status
abbrev pub claiming_text : Claiming → List ℕ
claiming_text Optimal = codes "optimal"
claiming_text Infeasible = codes "infeasible"
claiming_text Unbounded = codes "unbounded"
claiming_text BestSoFar = codes "bestSoFar"
claiming_text Unsure = codes "unsure"

-- the names of the results that are parts of a certificate
abbrev pub part_name : Part → List ℕ
part_name Point = codes "os_cert.point"
part_name Value = codes "os_cert.value"
part_name Ray = codes "os_cert.ray"
part_name Cause = codes "os_cert.cause"
part_name Bound = codes "os_cert.bound"
part_name Rounds = codes "os_cert.rounds"
part_name Tree = codes "os_cert.tree"
