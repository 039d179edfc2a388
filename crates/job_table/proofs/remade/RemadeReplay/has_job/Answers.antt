use Rattle.std.proofs.Common.{◌∙◌, ap}
use Rattle.std.specs.Prelude.{is_some}
use Rattle.effects.specs.Fold.{Ledger, stage_of}
use Rattle.job_table.proofs.RemadeEffects.{there_seen}
use Rattle.job_table.proofs.remade.RemadeReplay.has_job.Goals as goal

pub returns : goal.returns
returns g c =
    c.is_there.ensures ∙ ap is_some c.phase.ensures ∙ there_seen c.args.number c.self.inside.jobs
    ∙ ap (λ (l : Ledger). is_some (stage_of c.args.number l)) c.self.view_is
