-- A disk in memory that is opened by its name, and those given back.
use Rattle.std.specs.Prelude.{ℕ, List, [], ◌∷◌, ◌++◌, Option, Some, None, cond}
use Rattle.std.specs.Str.{bytes_eq}
use Rattle.std.specs.declared.boxed.Box.{Box}
use Rattle.memory_disks.specs.declared.mem_disk.MemDisk.{MemDisk}
use Rattle.memory_disks.specs.declared.mem_stores.Kept.{Kept, Kept', out-Kept, Held-Kept-under, None', Some'}
use Rattle.memory_disks.specs.declared.mem_stores.MemStore.{MemStore}
use Rattle.memory_disks.specs.Memory.{disk_bytes}

-- the disk that can be given back
abbrev pub disk_of : MemStore → MemDisk
disk_of s = (out-Kept s.place.value).disk

-- what the disk has that wasn't opened yet
abbrev pub home_bytes : Option MemStore → Option (List ℕ)
home_bytes (Some s) = Some (disk_bytes (disk_of s))
home_bytes None = None

-- the same, by the name of the disk
abbrev pub held_by : (own : List ℕ) → Option MemStore → (name : List ℕ) → Option (List ℕ)
held_by own home name = cond (bytes_eq own name) (home_bytes home) None

-- the name under which the disk was opened, if it was
abbrev pub names_opened : (own : List ℕ) → Option MemStore → List (List ℕ)
names_opened own (Some s) = []
names_opened own None = own ∷ []

-- what those kept up to this one had, in the order in which they were given back
abbrev mutual
  pub bytes_up_to : Kept → List (List ℕ)
  bytes_up_to (Kept' disk under) = bytes_under under ++ disk_bytes disk ∷ []

  pub bytes_under : Held-Kept-under → List (List ℕ)
  bytes_under None' = []
  bytes_under (Some' p kept) = bytes_up_to kept

-- the same of all, where the last one is given
abbrev pub bytes_kept : {A : Type 0} → Option (Box Kept A) → List (List ℕ)
bytes_kept None = []
bytes_kept (Some place) = bytes_up_to place.value

-- what the last one had
abbrev pub last_kept : {A : Type 0} → Option (Box Kept A) → Option (List ℕ)
last_kept None = None
last_kept (Some place) = Some (disk_bytes (out-Kept place.value).disk)
