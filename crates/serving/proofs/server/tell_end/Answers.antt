use Rattle.std.proofs.Common.{Ok, Err, inl, inr, refl}
use Rattle.command_answers.proofs.Outputs.{sent, broken}
use Rattle.serving.proofs.Endings.{told_by}
use Rattle.serving.proofs.server.tell_end.Goals as goal

pub returns-in-Ok-tell_jobs-clause-told : goal.returns-in-Ok-tell_jobs-clause-told
returns-in-Ok-tell_jobs-clause-told g c = told_by _ (Ok c.in-Ok.short) _ _ _ _ c.in-Ok.is (inl (c.all_told.ensures, sent _ _ _ _ c.in-Ok-tell_jobs.ensures))

pub returns-in-Err-tell_jobs-clause-told : goal.returns-in-Err-tell_jobs-clause-told
returns-in-Err-tell_jobs-clause-told g c = told_by _ (Ok c.in-Ok.short) _ _ _ _ c.in-Ok.is (inr (refl, broken _ _ _ _ c.in-Err-tell_jobs.ensures))

pub returns-in-Err-clause-told : goal.returns-in-Err-clause-told
returns-in-Err-clause-told g c = told_by _ (Err c.in-Err.fault) _ _ _ _ c.in-Err.is (c.broken_off.ensures, refl)
