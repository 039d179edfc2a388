use Rattle.os_app.proofs.Ends.{told_of}
use Rattle.os_app.proofs.command.tell.Goals as goal

pub returns-in-Ok-clause-told : goal.returns-in-Ok-clause-told
returns-in-Ok-clause-told g c = told_of _ c.in-Ok.answer _ _ _ c.in-Ok.is c.send_answer.ensures.told
