-- Files in memory.
use Rattle.std.specs.Prelude.{ℕ, List, [], ◌∷◌, Option, Some, None, cond}
use Rattle.std.specs.Str.{bytes_eq}
use Rattle.os_io.specs.Files.{Held, Holds, NoFile}
use Rattle.memory_ends.specs.declared.mem_files.MemFile.{MemFile}

-- the bytes of the first file with this name
abbrev pub bytes_of : List MemFile → List ℕ → Option (List ℕ)
bytes_of [] name = None
bytes_of (file ∷ files) name = cond (bytes_eq file.name name) (Some file.bytes) (bytes_of files name)

-- a file with these bytes, or no file
abbrev pub held_as : Option (List ℕ) → Held
held_as (Some bytes) = Holds bytes
held_as None = NoFile
