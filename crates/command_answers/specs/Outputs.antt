-- Texts on an output, and the statuses of the runs that send them.
use Rattle.std.specs.Prelude.{◌≡◌, ◌⊎◌, ℕ, List, [], ◌∷◌, ◌++◌, decimal}
use Rattle.os_io.specs.Streams.{Tells, BothTold, Appends, AppendsPart, Grows, HasRisen}

-- the text was written whole, and all that was written was handed on
pub record IsSent (text : List ℕ) (old new : Tells) : Type 0 where
  pub written : BothTold old.written new.written (Appends text)
  pub handed_on : new.handed_on ≡ new.written
  pub all_written : new.write_faults ≡ old.write_faults

-- a write or the flush failed, and a first part of the text was written
pub record BreaksOff (text : List ℕ) (old new : Tells) : Type 0 where
  pub written : BothTold old.written new.written (AppendsPart text)
  pub handed_on : Grows old.handed_on new.handed_on
  pub failed : HasRisen old.write_faults new.write_faults

-- what becomes of a text that is due with this status: it is sent and the run ends so, or a write fails and it ends with 4
abbrev pub IsTold : (due : ℕ) → (text : List ℕ) → (status : ℕ) → (old new : Tells) → Type 0
IsTold due text status old new = ((status ≡ due) × IsSent text old new) ⊎ ((status ≡ 4) × BreaksOff text old new)

-- a text, a number in digits and a line feed
abbrev pub number_line : List ℕ → ℕ → List ℕ
number_line front number = front ++ (decimal number ++ 10 ∷ [])
