-- Files: what is told of a name, what a read gives, and why one wasn't read.
use Rattle.std.specs.Prelude.{◌≡◌, ℕ, List, take, Result, Ok, Err, ⊤}
use Rattle.os_io.specs.declared.files.FileFault.{FileFault}
use Rattle.os_io.specs.declared.files.FileFault.TheVariants.{Failed, Memory}
use Rattle.os_io.specs.Streams.{HasRisen}

-- what is told of a name: the bytes of its file, that there is no such file, or nothing
pub data Held : Type 0 where
  Holds : List ℕ → Held
  NoFile : Held
  Untold : Held

-- the bytes may be those of the file, where it is told; there are none where it is told that there is no file
abbrev pub MayHold : Held → List ℕ → Type 0
MayHold (Holds bytes) read = read ≡ bytes
MayHold NoFile read = ⊥
MayHold Untold read = ⊤

-- the first bytes of the file were read, so many at most, where it is told; none were where it is told that there is no file
abbrev pub ReadsFirst : ℕ → Held → List ℕ → Type 0
ReadsFirst most (Holds bytes) read = read ≡ take most bytes
ReadsFirst most NoFile read = ⊥
ReadsFirst most Untold read = ⊤

-- there may be such a file: it isn't told that there is none
abbrev pub MayBeThere : Held → Type 0
MayBeThere held = held ≡ NoFile → ⊥

-- a file that wasn't read is counted, and nothing else is
abbrev pub CountsFiles : {X : Type 0} → Result X FileFault → ℕ → ℕ → Type 0
CountsFiles (Ok x) before after = after ≡ before
CountsFiles (Err Failed) before after = HasRisen before after
CountsFiles (Err Memory) before after = after ≡ before
