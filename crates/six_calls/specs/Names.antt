-- The six calls of the Optimization Services and their parts, one row for each call.
use Rattle.std.specs.Prelude.{ℕ, Bool, true, false, List, [], ◌∷◌, Option, codes, find}
use Rattle.std.specs.Str.{bytes_eq}
use Rattle.six_calls.specs.declared.call.CallKind.{CallKind}
use Rattle.six_calls.specs.declared.call.CallKind.TheVariants as kinds
use Rattle.six_calls.specs.declared.part.Part.{Part}
use Rattle.six_calls.specs.declared.part.Part.TheVariants.{Osil, Osol, Ospl}

-- a call's name, and which of the parts it has that not every call has
pub record Row : Type 0 where
  pub name : List ℕ
  pub osil : Bool
  pub ospl : Bool

abbrev pub row : CallKind → Row
row kinds.Solve = record { name = codes "solve"; osil = true; ospl = false }
row kinds.GetJobId = record { name = codes "getJobID"; osil = false; ospl = false }
row kinds.Send = record { name = codes "send"; osil = true; ospl = false }
row kinds.Retrieve = record { name = codes "retrieve"; osil = false; ospl = false }
row kinds.Knock = record { name = codes "knock"; osil = false; ospl = true }
row kinds.Kill = record { name = codes "kill"; osil = false; ospl = false }

-- the calls
abbrev pub all_kinds : List CallKind
all_kinds = kinds.Solve ∷ kinds.GetJobId ∷ kinds.Send ∷ kinds.Retrieve ∷ kinds.Knock ∷ kinds.Kill ∷ []

abbrev pub kind_text : CallKind → List ℕ
kind_text kind = (row kind).name

-- the call of this name, if there is one
abbrev pub kind_named : List ℕ → Option CallKind
kind_named name = find (λ kind. bytes_eq name (kind_text kind)) all_kinds

abbrev pub part_text : Part → List ℕ
part_text Osil = codes "osil"
part_text Osol = codes "osol"
part_text Ospl = codes "ospl"

-- a call that has the part needs it
abbrev pub is_needed : Part → Bool
is_needed Osil = true
is_needed Osol = false
is_needed Ospl = false

-- the call has this part
abbrev pub has : CallKind → Part → Bool
has kind Osil = (row kind).osil
has kind Osol = true
has kind Ospl = (row kind).ospl
