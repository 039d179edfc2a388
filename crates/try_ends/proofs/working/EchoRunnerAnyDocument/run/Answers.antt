use Rattle.std.proofs.Common.{Bool, true, false, [], ◌∷◌, refl}
use Rattle.job_runs.specs.Runs.{AreLooks}
use Rattle.try_ends.proofs.working.EchoRunnerAnyDocument.run.Goals as goal

one_look : (stop : Bool) → AreLooks stop (stop ∷ [])
one_look true = record { before = []; went_on = refl; are = refl }
one_look false = record { before = false ∷ []; went_on = refl; are = refl }

pub returns-in-Ok-clause-ran : goal.returns-in-Ok-clause-ran
returns-in-Ok-clause-ran g c = (c.look.result, c.look.result ∷ [], one_look c.look.result, c.look.ensures.came, refl)

pub returns-in-Err-clause-ran : goal.returns-in-Err-clause-ran
returns-in-Err-clause-ran g c = (c.look.result, c.look.result ∷ [], one_look c.look.result, c.look.ensures.came, refl)
