-- What a file of records stands for.
use Rattle.std.specs.Prelude.{◌≡◌, ◌≢◌, ◌⊎◌, ℕ, ◌+◌, ◌^◌, ◌≤◌, nat_le, nat_lt, Bool, ◌||◌, List, [], ◌∷◌, ◌++◌, length, take}
use Rattle.effects.specs.Records.{Deed, records, EndsBehindGate}
use Rattle.disks.specs.Disks.{Only, Torn}

-- the file stands for these: their records, and an end behind a gate that isn't 1; or for none, with at most one byte
abbrev pub FileStandsFor : List Deed → List ℕ → Type 0
FileStandsFor deeds file = EndsBehindGate deeds file ⊎ ((deeds ≡ []) × (length file ≤ 1))

-- the file stands for these, with one more or without it
abbrev pub IsBeforeOrAfter : List Deed → Deed → List ℕ → Type 0
IsBeforeOrAfter deeds d file = FileStandsFor deeds file ⊎ FileStandsFor (deeds ++ d ∷ []) file

-- a crash in a write of n bytes, or behind it, leaves one of these: what one would have left before, with any bytes in the range
abbrev pub MayTear : (at n : ℕ) → (List ℕ → Type 0) → List ℕ → Type 0
MayTear at n before c = (f : List ℕ) × before f × Torn at n f c

-- the file is records of these and a gate that isn't 1, at that place, and a crash leaves it so
pub record FileRests {D : Type 0} (seen : D → List ℕ) (may_leave : D → List ℕ → Type 0) (disk : D) (end : ℕ) (deeds : List Deed) : Type 0 where
  pub gate : ℕ
  pub shut : gate ≢ 1
  pub file : seen disk ≡ records deeds ++ gate ∷ []
  pub place : end ≡ length (records deeds)
  pub durable : Only (seen disk) (may_leave disk)

-- the most bytes of a record with a gate
abbrev pub most_record : ℕ
most_record = 4194340

-- a record of so many bytes from its kind on is too long for the buffer, or the file would be, where a gate ends it at that place
abbrev pub is_too_long : ℕ → ℕ → Bool
is_too_long end size = nat_le most_record size || nat_lt (2 ^ 40) (end + size + 2)

-- the file stands for these, and the first k of more, where k is at most n
abbrev pub StandsUpTo : List Deed → List Deed → ℕ → List ℕ → Type 0
StandsUpTo deeds more n file = (k : ℕ) × (k ≤ n) × FileStandsFor (deeds ++ take k more) file
