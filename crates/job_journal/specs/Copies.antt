-- Records of a file that are copied, shortened, behind those of a draft.
use Rattle.std.specs.Prelude.{◌≡◌, ℕ, Bool, true, List, ◌∷◌, ◌++◌, drop, Option, Some, None}
use Rattle.effects.specs.Records.{Deed, body, records, Fits}
use Rattle.job_journal.specs.Compacting.{HasNoRoom, next_behind, shortened_one}
use Rattle.job_journal.specs.Drafts.{IsDrafted}
use Rattle.job_journal.specs.declared.faults.CompactFault.{CompactFault}
use Rattle.job_journal.specs.declared.faults.CompactFault.TheVariants.{Old}
use Rattle.job_journal.specs.declared.scanning.OpenFault.TheVariants.{Damaged}

-- the record behind the open gate at that place was copied, and the next gate is at the other place
pub record CopiesOne (held : ℕ → Bool) {E : Type 0} (told : E → Bool) (seen : E → List ℕ) (may_leave : E → List ℕ → Type 0) (file : List ℕ) (place next place_after next_after : ℕ) (old new : E) (end end_after : ℕ) : Type 0 where
  pub deed : Deed
  pub fits : Fits deed
  pub is : drop place file ≡ 1 ∷ (body deed ++ drop place_after file)
  pub next_is : next_after ≡ next_behind next deed
  pub drafts : told old ≡ true → (deeds : List Deed) → IsDrafted seen may_leave old end deeds → IsDrafted seen may_leave new end_after (deeds ++ shortened_one held next deed)

-- the same, or that gate isn't open, and nothing was written
abbrev pub Copies : (held : ℕ → Bool) {E : Type 0} (told : E → Bool) (seen : E → List ℕ) (may_leave : E → List ℕ → Type 0) (file : List ℕ) (place next place_after : ℕ) → Option ℕ → (old new : E) (end end_after : ℕ) → Type 0
Copies held told seen may_leave file place next place_after (Some next_after) old new end end_after = CopiesOne held told seen may_leave file place next place_after next_after old new end end_after
Copies held told seen may_leave file place next place_after None old new end end_after = ((behind : List ℕ) → drop place file ≡ 1 ∷ behind → ⊥) × (new ≡ old) × (end_after ≡ end)

-- what the record behind the open gate at that place comes to has no room behind records of these
pub record StopsShort (held : ℕ → Bool) (file : List ℕ) (place next : ℕ) (deeds : List Deed) : Type 0 where
  pub deed : Deed
  pub fits : Fits deed
  pub after : List ℕ
  pub is : drop place file ≡ 1 ∷ (body deed ++ after)
  pub none : HasNoRoom deeds (shortened_one held next deed)

-- the fault isn't that the old file is damaged
abbrev pub IsUndamaged : CompactFault → Type 0
IsUndamaged (Old (Damaged place)) = ⊥
IsUndamaged _ = Unit {0}

-- the file was copied up to that place, which is behind records of these
abbrev pub IsCopiedUpTo : List ℕ → ℕ → List Deed → Type 0
IsCopiedUpTo file place done = file ≡ records done ++ drop place file
