-- Bytes that come and go, where an object tells of them, and counts of faults.
use Rattle.std.specs.Prelude.{◌≡◌, ℕ, ◌-◌, ◌^◌, ◌<◌, ◌≤◌, ◌⊎◌, List, ◌++◌, take, drop, Option, None, Some, Result, Ok, Err, OnOk}

-- what a stream tells: the bytes to come, those written and those handed on so far, each where told; and how often a read
-- has failed, and a write or a flush, each at most 2^64 - 1
pub record Tells : Type 0 where
  pub left : Option (List ℕ)
  pub written : Option (List ℕ)
  pub handed_on : Option (List ℕ)
  pub read_faults : ℕ
  pub write_faults : ℕ

-- what a stream tells that gives bytes and takes none
abbrev pub source_tells : Option (List ℕ) → ℕ → Tells
source_tells left faults =
    record { left = left; written = None; handed_on = None; read_faults = faults; write_faults = 0 }

-- what a stream tells that takes bytes and gives none
abbrev pub sink_tells : (written handed_on : Option (List ℕ)) → ℕ → Tells
sink_tells written handed_on faults =
    record { left = None; written = written; handed_on = handed_on; read_faults = 0; write_faults = faults }

-- what was told before is told after, and both stand so
abbrev pub BothTold : {X : Type 0} → Option X → Option X → (X → X → Type 0) → Type 0
BothTold None after R = Unit {0}
BothTold (Some before) None R = ⊥
BothTold (Some before) (Some after) R = R before after

-- the first n of the bytes to come were taken, and stand at the buffer's front
abbrev pub Takes : List ℕ → ℕ → List ℕ → List ℕ → Type 0
Takes buffer n before after = (take n buffer ≡ take n before) × (after ≡ drop n before)

-- a first part of the text, or all of it
abbrev pub IsPart : List ℕ → List ℕ → Type 0
IsPart text part = (rest : List ℕ) × (text ≡ part ++ rest)

-- the text was added
abbrev pub Appends : List ℕ → List ℕ → List ℕ → Type 0
Appends text before after = after ≡ before ++ text

-- a first part of the text was added
abbrev pub AppendsPart : List ℕ → List ℕ → List ℕ → Type 0
AppendsPart text before after = (part : List ℕ) × IsPart text part × (after ≡ before ++ part)

-- the text was added, or a first part of it where the call failed
abbrev pub Adds : {X E : Type 0} → Result X E → List ℕ → List ℕ → List ℕ → Type 0
Adds (Ok x) text before after = Appends text before after
Adds (Err e) text before after = AppendsPart text before after

-- what stood before stands, and more may follow
abbrev pub Grows : Option (List ℕ) → Option (List ℕ) → Type 0
Grows old new = BothTold old new (λ before after. IsPart after before)

-- a count that rose, or stands at its greatest
abbrev pub HasRisen : ℕ → ℕ → Type 0
HasRisen before after =
    ((before < after) × (after ≤ 2 ^ 64 - 1)) ⊎ ((before ≡ 2 ^ 64 - 1) × (after ≡ 2 ^ 64 - 1))

-- the count rose where the call failed, and stays otherwise
abbrev pub Counts : {X E : Type 0} → Result X E → ℕ → ℕ → Type 0
Counts (Ok x) before after = after ≡ before
Counts (Err e) before after = HasRisen before after

-- nothing of the way in is touched
pub record SameInput (old new : Tells) : Type 0 where
  pub left : new.left ≡ old.left
  pub read_faults : new.read_faults ≡ old.read_faults

-- nothing of the way out is touched
pub record SameOutput (old new : Tells) : Type 0 where
  pub written : new.written ≡ old.written
  pub handed_on : new.handed_on ≡ old.handed_on
  pub write_faults : new.write_faults ≡ old.write_faults

-- the text was written, or a first part of it where a fault was counted; what was handed on stays, and nothing else is touched
pub record Writes {X E : Type 0} (result : Result X E) (text : List ℕ) (old new : Tells) : Type 0 where
  pub written : BothTold old.written new.written (Adds result text)
  pub handed_on : Grows old.handed_on new.handed_on
  pub counted : Counts result old.write_faults new.write_faults
  pub input : SameInput old new

-- the text was written, and all that was written was handed on; or a first part was written where a fault was counted
pub record Sends {X E : Type 0} (result : Result X E) (text : List ℕ) (old new : Tells) : Type 0 where
  pub writes : Writes result text old new
  pub handed_on : OnOk result (new.handed_on ≡ new.written)
