use Rattle.std.proofs.Common.{arith}
use Rattle.effects.specs.Records.{deed_of}
use Rattle.job_journal.proofs.Rooms.{one_without_room}
use Rattle.job_journal.proofs.draft.Draft.add.Goals as goal

pub returns-then-is_too_long-clause-long : goal.returns-then-is_too_long-clause-long
returns-then-is_too_long-clause-long g c = λ deeds t o is. one_without_room deeds c.args.self.now.end (deed_of c.args.effect.now) o.place (grind arith)
