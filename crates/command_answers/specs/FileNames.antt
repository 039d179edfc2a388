-- What is read of a file that may be named.
use Rattle.std.specs.Prelude.{◌≡◌, ◌+◌, ℕ, Option, None, Some, List, []}
use Rattle.os_io.specs.Files.{Held, ReadsFirst}
use Rattle.os_io.specs.Limits.{most_bytes}

-- of the file, if one is named, so many bytes are read at most, one more than a document may have; else there are none
abbrev pub ReadsNamed : Option Held → List ℕ → Type 0
ReadsNamed None read = read ≡ []
ReadsNamed (Some held) read = ReadsFirst (most_bytes + 1) held read
