use Rattle.std.proofs.Common.{◌≡◌, ◌∙◌, ap, subst, true, IfSome}
use Rattle.job_table.specs.Jobs.{Register, phase_of}
use Rattle.job_table.specs.Steps.{is_marked}
use Rattle.job_table.specs.Remade.{first_marked}
use Rattle.job_table.proofs.SettledTables.{first_some, first_none}
use Rattle.job_table.proofs.jobs.Jobs.marked.Goals as goal

pub returns-clause-some : goal.returns-clause-some
returns-clause-some c =
    subst (λ (r : Register). IfSome c.first_marked.result (λ n. is_marked (phase_of n r.jobs) ≡ true)) c.self.view_is
    (first_some _ _ _ _ c.self.invariant.rise c.first_marked.ensures)

pub returns-clause-none : goal.returns-clause-none
returns-clause-none c =
    first_none c.args.self.now c.first_marked.result (c.first_marked.ensures ∙ ap (λ (r : Register). first_marked r.jobs) c.self.view_is)
