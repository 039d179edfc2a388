-- A reader that is fed bytes, and where it stands behind them.
use Rattle.std.specs.Prelude.{◌≡◌, ℕ, Bool, List, [], ◌∷◌, ◌++◌, length, Option, MatchOption}
use Rattle.doc_tree.specs.Marks.{Mark}
use Rattle.doc_tree.specs.Rests.{TreeTerms, any}
use Rattle.doc_tree.specs.Completions.{MachineState, Good}
use Rattle.doc_tree.specs.LineEnds.{Finishes, Continues}
use Rattle.doc_tree.specs.Reading.{Refused}
use Rattle.doc_tree.specs.Refusals.{IsClean}
use Rattle.doc_tree.specs.Utf8.{CharacterRest, Spells}
use Rattle.doc_tree.specs.declared.characters.Awaited.{Awaited}
use Rattle.doc_tree.specs.declared.fault.TreeFault.{TreeFault}

-- A document of any encoding that isn't too deep.
abbrev pub any_encoding : TreeTerms
any_encoding = record { depth = 32; aim = any }

-- Where a reader stands in a document, in a line's end and in a character; how many bytes it took of how many; and why it takes no more.
pub record Feeding : Type 0 where
  pub state : MachineState
  pub returned : Bool
  pub awaited : Awaited
  pub limit : ℕ
  pub count : ℕ
  pub refusal : Option TreeFault

-- Some bytes complete the character and the document at once.
pub record MeetsBoth (awaited : Awaited) (s : MachineState) (returned : Bool) : Type 0 where
  pub rest : List ℕ
  pub character : CharacterRest awaited rest
  pub says : List Mark
  pub document : Finishes s returned any_encoding rest says

-- The bytes have been taken, and none of them decides a refusal.
pub record IsTaken (f : Feeding) (bytes : List ℕ) : Type 0 where
  pub continues : Continues f.state f.returned bytes
  pub spells : Spells f.awaited bytes
  pub meets : MeetsBoth f.awaited f.state f.returned
  pub counted : f.count ≡ length bytes
  pub clean : IsClean f.limit bytes

-- These bytes were fed.
abbrev pub WasFed : Feeding → List ℕ → Type 0
WasFed f bytes = MatchOption f.refusal (IsTaken f bytes) (Refused f.limit bytes)

-- The same reader, where these marks were told before those that wait.
abbrev pub behind : List Mark → Feeding → Feeding
behind told f = record f { state = record f.state { marks = told ++ f.state.marks } }

-- Some marks were told, those that the bytes say but for the marks that wait.
pub record Heard (had : List Mark → Type 0) (f : Feeding) (bytes : List ℕ) : Type 0 where
  pub told : List Mark
  pub has : had told
  pub taken : IsTaken (behind told f) bytes

-- What was told begins what each document says that begins so: some first ones of these bytes were taken, and what they say was told or waits.
pub record ToldBefore (had : List Mark → Type 0) (bytes : List ℕ) : Type 0 where
  pub before : List ℕ
  pub more : List ℕ
  pub are : bytes ≡ before ++ more
  pub reader : Feeding
  pub heard : Heard had reader before

-- These bytes were fed, and what they say was told or waits.
abbrev pub WasHeard : (List Mark → Type 0) → Feeding → List ℕ → Type 0
WasHeard had f bytes = MatchOption f.refusal (Heard had f bytes) (Refused f.limit bytes)

-- Behind any such bytes, a reader is refused so at this one.
abbrev pub RefusesByte : Feeding → ℕ → TreeFault → Type 0
RefusesByte f b fault = (told : List Mark) (bytes : List ℕ) → IsTaken (behind told f) bytes → Refused f.limit (bytes ++ b ∷ []) fault

-- A reader that takes more stands at a place of the machine that some document has.
abbrev pub CanGoOn : Feeding → Type 0
CanGoOn f = MatchOption f.refusal (Good f.state.place f.state) (λ fault. Unit {0})

-- Some first marks of those that wait are told, and nothing else changes.
pub record HandedOn (old new : Feeding) (had : List Mark → Type 0) : Type 0 where
  pub told : List Mark
  pub has : had told
  pub rest : old.state.marks ≡ told ++ new.state.marks
  pub same : new ≡ record old { state = record old.state { marks = new.state.marks } }

-- Behind any bytes taken before, it takes these.
abbrev pub TakesBytes : Feeding → List ℕ → Feeding → Type 0
TakesBytes old taken new = (told : List Mark) (bytes : List ℕ) → IsTaken (behind told old) bytes → IsTaken (behind told new) (bytes ++ taken)

-- Behind any such bytes, a reader is refused so at some of these.
abbrev pub RefusesBytes : Feeding → List ℕ → TreeFault → Type 0
RefusesBytes f more fault = (told : List Mark) (bytes : List ℕ) → IsTaken (behind told f) bytes → Refused f.limit (bytes ++ more) fault
