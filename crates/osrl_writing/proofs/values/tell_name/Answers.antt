use Rattle.std.proofs.Common.{sym}
use Rattle.osrl_writing.proofs.NamedTexts.{none_told}
use Rattle.osrl_writing.proofs.values.tell_name.Goals as goal

pub returns-in-None : goal.returns-in-None
returns-in-None c = none_told _ _ c.in-None.is
