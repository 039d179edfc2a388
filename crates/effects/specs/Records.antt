-- What moves of the table change, and the records of it.
use Rattle.std.specs.Prelude.{◌≡◌, ◌≢◌, ℕ, ◌<◌, ◌≤◌, ◌^◌, List, [], ◌∷◌, ◌++◌, length, Option, Some, None}
use Rattle.std.specs.Int.{w32, w64, to_be_bytes}
use Rattle.os_io.specs.Limits.{most_bytes}
use Rattle.effects.specs.declared.kinds.Effect.{Effect}
use Rattle.effects.specs.declared.kinds.Effect.TheVariants as effect
use Rattle.effects.specs.declared.kinds.Document.{Document}
use Rattle.effects.specs.declared.kinds.Document.TheVariants.{Missing, Kept}

-- what a move changes: a job is named by its number, texts are their bytes, and a document may be missing
pub data Deed : Type 0 where
  Issue : Deed
  Send : ℕ → List ℕ → List ℕ → Deed
  Enter : List ℕ → List ℕ → Deed
  Finish : ℕ → Option (List ℕ) → Deed
  Killed : ℕ → Deed
  Marked : ℕ → Deed
  GivenUp : ℕ → Deed
  Begin : ℕ → Deed

abbrev pub paper_of : Document → Option (List ℕ)
paper_of Missing = None
paper_of (Kept text) = Some text.now

abbrev pub deed_of : Effect → Deed
deed_of effect.Issue = Issue
deed_of (effect.Send n osil osol) = Send n osil.now osol.now
deed_of (effect.Enter osil osol) = Enter osil.now osol.now
deed_of (effect.Finish n document) = Finish n (paper_of document)
deed_of (effect.Killed n) = Killed n
deed_of (effect.Marked n) = Marked n
deed_of (effect.GivenUp n) = GivenUp n
deed_of (effect.Begin n) = Begin n

-- the most bytes of a text
abbrev pub most_text : ℕ
most_text = most_bytes

-- the fields of a record: a number in 8 bytes, a text behind its length in 4, and a document behind 1, or 0
abbrev pub number : ℕ → List ℕ
number n = to_be_bytes w64 n

abbrev pub text : List ℕ → List ℕ
text t = to_be_bytes w32 (length t) ++ t

abbrev pub document : Option (List ℕ) → List ℕ
document None = 0 ∷ []
document (Some t) = 1 ∷ text t

-- a record from its kind on
abbrev pub body : Deed → List ℕ
body Issue = 1 ∷ []
body (Send n osil osol) = 2 ∷ number n ++ text osil ++ text osol
body (Enter osil osol) = 3 ∷ text osil ++ text osol
body (Finish n d) = 4 ∷ number n ++ document d
body (Killed n) = 5 ∷ number n
body (Marked n) = 6 ∷ number n
body (GivenUp n) = 7 ∷ number n
body (Begin n) = 8 ∷ number n

-- records behind open gates
abbrev pub records : List Deed → List ℕ
records [] = []
records (d ∷ deeds) = 1 ∷ body d ++ records deeds

-- no text is too long, and numbers are of 64 bits
abbrev pub FitsPaper : Option (List ℕ) → Type 0
FitsPaper None = Unit {0}
FitsPaper (Some t) = length t ≤ most_text

abbrev pub Fits : Deed → Type 0
Fits Issue = Unit {0}
Fits (Send n osil osol) = (n < 2 ^ 64) × (length osil ≤ most_text) × (length osol ≤ most_text)
Fits (Enter osil osol) = (length osil ≤ most_text) × (length osol ≤ most_text)
Fits (Finish n d) = (n < 2 ^ 64) × FitsPaper d
Fits (Killed n) = n < 2 ^ 64
Fits (Marked n) = n < 2 ^ 64
Fits (GivenUp n) = n < 2 ^ 64
Fits (Begin n) = n < 2 ^ 64

abbrev pub AllFit : List Deed → Type 0
AllFit [] = Unit {0}
AllFit (d ∷ deeds) = Fits d × AllFit deeds

-- records of these and an end behind a gate that isn't 1
pub record EndsBehindGate (deeds : List Deed) (file : List ℕ) : Type 0 where
  pub gate : ℕ
  pub after : List ℕ
  pub shut : gate ≢ 1
  pub is : file ≡ records deeds ++ gate ∷ after

abbrev pub CutInOneWay : Type 0
CutInOneWay = (file : List ℕ) (one other : List Deed) → AllFit one → AllFit other → EndsBehindGate one file → EndsBehindGate other file → one ≡ other
