use Rattle.memory_disks.proofs.PastContents.{elapses_to}
use Rattle.memory_disks.proofs.mem_disk.MemDisk.take_over.Goals as goal

pub returns-in-Ok-replace-clause-time : goal.returns-in-Ok-replace-clause-time
returns-in-Ok-replace-clause-time c =
    let past = c.in-Ok-replace.ensures.past in
    elapses_to c.args.self.now.past.items c.replace.new.past.items past.0 c.args.self.now.bytes.items c.replace.new.bytes.items past.1 past.2
