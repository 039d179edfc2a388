use Rattle.job_journal.proofs.SoundFiles.{undamaged}
use Rattle.job_solver.specs.Sieves.{Sifts}
use Rattle.job_solver.proofs.StoredEffects.{puts_sound}
use Rattle.job_solver.proofs.laws.puts_stay_sound.Goals as goal

pub returns-clause-sound : goal.returns-clause-sound
returns-clause-sound c = puts_sound c.right_documents_are_accepted.ensures.accepted c.right_documents_are_accepted.ensures.short c.plans_are_so.ensures

pub returns-clause-undamaged : goal.returns-clause-undamaged
returns-clause-undamaged c = λ deeds file place sound stands damaged. undamaged Sifts file place deeds sound.ledger damaged sound.fit sound.folds stands
