use Rattle.job_table.proofs.SettledTables.{settled_still, fewer_run}
use Rattle.job_table.proofs.jobs.Jobs.kill_marked.Goals as goal

pub returns-in-Some-clause-still : goal.returns-in-Some-clause-still
returns-in-Some-clause-still c = settled_still c.in-Some.number c.args.self.now c.put.new.self c.in-Some.ensures.some c.put.ensures.moved

pub returns-in-Some-clause-fewer : goal.returns-in-Some-clause-fewer
returns-in-Some-clause-fewer c = λ _. fewer_run c.in-Some.number c.args.self.now c.put.new.self c.in-Some.ensures.some c.put.ensures.moved
