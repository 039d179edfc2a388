use Rattle.std.proofs.Common.{sym, ◌∙◌, ap, subst}
use Rattle.job_table.specs.Jobs.{NobodyRuns}
use Rattle.job_table.specs.Remade.{table_of}
use Rattle.job_table.proofs.SettledTables.{goes_on_from, nobody_resumed}
use Rattle.job_table.proofs.remade.Remade.into_table.Goals as goal

pub returns-clause-goes_on : goal.returns-clause-goes_on
returns-clause-goes_on g c = c.settle.ensures ∙ goes_on_from c.self.inside.jobs c.self.invariant ∙ ap table_of c.self.view_is

pub returns-clause-nobody : goal.returns-clause-nobody
returns-clause-nobody g c =
    subst NobodyRuns (sym (c.settle.ensures ∙ goes_on_from c.self.inside.jobs c.self.invariant ∙ ap table_of c.self.view_is)) (nobody_resumed c.args.self)
