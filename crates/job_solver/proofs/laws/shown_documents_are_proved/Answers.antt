use Rattle.std.specs.Prelude.{None}
use Rattle.job_solver.proofs.ProvedDocuments.{shown_proved}
use Rattle.job_solver.proofs.laws.shown_documents_are_proved.Goals as goal

pub returns : goal.returns
returns c = shown_proved c.documents_are_right.ensures (c.claims_are_accepted.ensures.told None) (c.claims_are_accepted.ensures.is_true None)
