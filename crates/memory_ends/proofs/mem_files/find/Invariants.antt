use Rattle.std.proofs.Common.{◌≡◌, drop}
use Rattle.memory_ends.specs.MemFiles.{bytes_of}
use Rattle.memory_ends.proofs.mem_files.find.Given as goal

abbrev pub invariant-loop-file : goal.invariant-loop-file
invariant-loop-file l = bytes_of l.files l.name ≡ bytes_of (drop l.file-index l.files) l.name
