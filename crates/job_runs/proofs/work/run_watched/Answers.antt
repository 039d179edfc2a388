use Rattle.std.proofs.Common.{rules, sym}
use Rattle.job_runs.proofs.Runs.{watched, none_stopped}
use Rattle.job_runs.proofs.work.run_watched.Goals as goal

pub returns-clause-ran : goal.returns-clause-ran
returns-clause-ran g c =
    let h = c.run-document.ensures.ran in
    let lent = sym h.3.0 in
    let did = h.3.2 in
    watched _ _ h.0 h.1 c.run-document.new.watch.stops h.2 (search (rules, lent, did)) h.3.3 (search rules)

pub returns-clause-right : goal.returns-clause-right
returns-clause-right g c =
    let right = c.run-document.ensures.right _ (none_stopped c.run-document.new.watch.stops) in search rules
