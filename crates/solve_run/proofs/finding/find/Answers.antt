use Rattle.branch_bound.specs.Walks.{best as best_of}
use Rattle.instance.specs.Program.{problem}
use Rattle.solve_run.specs.Untils.{job_terms}
use Rattle.solve_run.proofs.Untils.{gap_asked}
use Rattle.solve_run.proofs.finding.find.Goals as goal

pub search_from-requires-clause-first : goal.search_from-requires-clause-first
search_from-requires-clause-first g c = (_, c.requires.first)

pub returns : goal.returns
returns g c =
    let (n, killed, o, b, tells, stops, came, answer) = c.search_from.ensures in
    (n, killed, o, b, tells, came, λ stop agrees. gap_asked (problem c.args.instance.now) (job_terms c.args.options.now stop) c.args.options.now (best_of c.args.first) o b _ _ c.gap_of.ensures (answer stop agrees))
