use Rattle.memory_ends.proofs.HandedOn.{handed_if}
use Rattle.memory_ends.proofs.parts.Output.write.Goals as goal

pub returns-clause-handed : goal.returns-clause-handed
returns-clause-handed c = handed_if _ c.args.self.now.handed _ _ _ c.extend_from_slice.ensures.items
