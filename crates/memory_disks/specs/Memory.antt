-- The bytes of a disk in memory.
use Rattle.std.specs.Prelude.{ℕ, List}
use Rattle.memory_disks.specs.declared.mem_disk.MemDisk.{MemDisk}

-- what a disk in memory holds
abbrev pub disk_bytes : MemDisk → List ℕ
disk_bytes m = m.bytes.items
