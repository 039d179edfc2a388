use Rattle.os_app.specs.Paces.{paced_without}
use Rattle.os_app.proofs.paced.PacedWatch.hear.Goals as goal

pub returns-clause-came : goal.returns-clause-came
returns-clause-came g c = paced_without _ c.hear.ensures.came
