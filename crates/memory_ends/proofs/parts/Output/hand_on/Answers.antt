use Rattle.std.proofs.Common.{rules}
use Rattle.memory_ends.proofs.HandedOn.{handed_all}
use Rattle.memory_ends.proofs.parts.Output.hand_on.Goals as goal

pub returns-clause-handed : goal.returns-clause-handed
returns-clause-handed c =
    handed_all c.args.self.now.handed c.len-self.result c.args.self.now.bytes.items (search rules)
