use Rattle.std.proofs.Common.{ap}
use Rattle.memory_disks.proofs.PastContents.{moved_on}
use Rattle.memory_disks.proofs.mem_disk.MemDiskDisk.write_at.Goals as goal

pub returns-clause-time : goal.returns-clause-time
returns-clause-time c =
    moved_on _ _ _ _ _ _ (ap (λ v. v.items) c.fails.ensures.past) (ap (λ v. v.items) c.fails.ensures.bytes) c.take_over.ensures.time
