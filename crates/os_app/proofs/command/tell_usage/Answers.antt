use Rattle.std.proofs.Common.{inl, inr, refl}
use Rattle.command_answers.proofs.Outputs.{sent, broken}
use Rattle.os_app.proofs.command.tell_usage.Goals as goal

pub returns-in-Ok-clause-told : goal.returns-in-Ok-clause-told
returns-in-Ok-clause-told g c = inl (refl, sent _ c.in-Ok.field-0 _ _ c.in-Ok.ensures)

pub returns-in-Err-clause-told : goal.returns-in-Err-clause-told
returns-in-Err-clause-told g c = inr (refl, broken _ c.in-Err.field-0 _ _ c.in-Err.ensures)
