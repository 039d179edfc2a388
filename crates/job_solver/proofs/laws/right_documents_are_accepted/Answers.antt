use Rattle.std.specs.Prelude.{None}
use Rattle.job_solver.proofs.RightDocuments.{right_accepted, right_short}
use Rattle.job_solver.proofs.laws.right_documents_are_accepted.Goals as goal

pub returns-clause-accepted : goal.returns-clause-accepted
returns-clause-accepted c = right_accepted (c.result_documents_are_read_back.ensures.told None) (c.claims_are_accepted.ensures.told None)

pub returns-clause-short : goal.returns-clause-short
returns-clause-short c = right_short (c.result_documents_are_read_back.ensures.told None) (c.claims_are_accepted.ensures.told None)
