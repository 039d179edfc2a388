use Rattle.std.proofs.Common.{◌∙◌, ap}
use Rattle.effects.specs.Fold.{Ledger, osil_in, stage_of}
use Rattle.job_table.specs.Remade.{osil_of}
use Rattle.job_table.proofs.RemadeEffects.{osil_seen}
use Rattle.job_table.proofs.remade.RemadeReplay.osil.Goals as goal

pub returns : goal.returns
returns g c =
    c.osil_of.ensures ∙ ap osil_of c.phase.ensures ∙ osil_seen c.args.number c.self.inside.jobs
    ∙ ap (λ (l : Ledger). osil_in (stage_of c.args.number l)) c.self.view_is
