use Rattle.std.proofs.Common.{◌≡◌, map, take}
use Rattle.os_server.specs.Answers.{stated}
use Rattle.os_server.proofs.processes.all_stated.Given as goal

abbrev pub invariant-loop-job : goal.invariant-loop-job
invariant-loop-job l = l.told.items ≡ map stated (take l.job-index l.jobs)
