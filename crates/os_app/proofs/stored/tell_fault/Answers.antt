use Rattle.std.proofs.Common.{inl, inr, refl}
use Rattle.command_answers.proofs.Outputs.{sent, broken}
use Rattle.os_app.proofs.JournalRuns.{said_damaged}
use Rattle.os_app.proofs.stored.tell_fault.Goals as goal

pub returns-in-Ok-clause-told : goal.returns-in-Ok-clause-told
returns-in-Ok-clause-told g c = said_damaged _ c.in-Damaged.at _ _ _ c.in-Damaged.is (inl (refl, sent _ _ _ _ c.in-Ok.ensures))

pub returns-in-Err-clause-told : goal.returns-in-Err-clause-told
returns-in-Err-clause-told g c = said_damaged _ c.in-Damaged.at _ _ _ c.in-Damaged.is (inr (refl, broken _ _ _ _ c.in-Err.ensures))
