-- The choices that a run leaves open: how it begins, which columns a turn takes, and when a bound is enough. Each is a relation to what the run sees; what is asked of it is little, and said below.
use Rattle.std.specs.Prelude.{◌≡◌, ℕ, ◌<◌, Bool, Option, Some, List}
use Rattle.rational.specs.Ratio.{Ratio}
use Rattle.evidence.specs.Instance.{Instance, IsInstance}
use Rattle.bases.specs.Dictionary.{Entries, Values}
use Rattle.bases.specs.Pivot.{PivotFits}
use Rattle.bases.specs.Program.{goal_column}
use Rattle.simplex_rules.specs.declared.columns.Status.{Status}
use Rattle.simplex_rules.specs.declared.columns.Way.{Way}
use Rattle.simplex_rules.specs.declared.columns.Way.TheVariants.{Fall}
use Rattle.simplex_rules.specs.Statuses.{HasDictionary, HasValues, IsFirstBasis, IsPlaced}
use Rattle.simplex_rules.specs.Turns.{IsOut, Helps, IsLeastOut, IsFirstHelp, IsFirstLimit, limit_at}
use Rattle.simplex_rules.specs.Widths.{ValuesFit}
use Rattle.simplex_rules.specs.Runs.{HasNoClash}

-- what a choice sees: the program, whether its goal is zero, the basis with the places of the other columns, what the rules keep beside it, the dictionary, and the columns' values
pub record View (N : Type 0) : Type 0 where
  pub program : Instance
  pub zeroed : Bool
  pub statuses : List Status
  pub note : N
  pub entries : Entries
  pub values : Values

-- a turn: a basic column leaves to a place, for another one; or a column goes to its other end
pub data Turn : Type 0 where
  Swap : ℕ → ℕ → Status → Turn
  Flip : ℕ → Way → Turn

-- what a run hands on to the next: the basis with its places with which it ended, if any
abbrev pub Given : Type 0
Given = Option (List Status)

pub record Rules : Type 1 where
  -- what the rules keep beside a basis
  pub Note : Type 0
  -- from what was handed on, and the value that a bound is measured by, if any: the first basis with its places, and the first note
  pub Begins : Given → Option Ratio → Instance → Bool → List Status → Note → Type 0
  -- in the first phase: a bound that is enough
  pub Passes : View Note → Ratio → Type 0
  -- in the first phase: basic column b is to leave, and to rise or fall; and column n is to enter for it, by its way
  pub Leaves : View Note → ℕ → Way → Type 0
  pub Enters : View Note → ℕ → Way → ℕ → Way → Type 0
  -- in the second phase: column n is to move by its way; and where it does, column b stops it
  pub Improves : View Note → ℕ → Way → Type 0
  pub Stops : View Note → ℕ → Way → ℕ → Type 0
  -- the note after a turn
  pub Notes : View Note → Turn → Note → Type 0
  -- the numbers fit by which the leaving column is chosen; those by which one is chosen that enters for column b; and those that are kept once columns b and n have changed places
  pub LeaveFits : View Note → Type 0
  pub EnterFits : View Note → ℕ → Way → Type 0
  pub SwapFits : View Note → ℕ → ℕ → Type 0

-- what a run sees is right: the dictionary is that of the basis, whose other columns have places, and the values are those of the dictionary
pub record IsSeen {N : Type 0} (v : View N) : Type 0 where
  pub good : IsInstance v.program
  pub room : HasNoClash v.program
  pub placed : IsPlaced v.program v.statuses
  pub dictionary : HasDictionary v.program v.zeroed v.statuses v.entries
  pub fit : ValuesFit v.program v.statuses v.entries
  pub columns : HasValues v.program v.statuses v.entries v.values

-- all that is asked of rules for their ends to be true: columns begin at places; what leaves is out, what enters helps, what moves makes the goal fall; and what stops it has a limit
pub record AreLegalRules (R : Rules) : Type 0 where
  pub begins : (g : Given) (best : Option Ratio) (I : Instance) (zeroed : Bool) (ss : List Status) (k : R.Note) → IsInstance I → HasNoClash I → R.Begins g best I zeroed ss k → IsPlaced I ss
  pub leaves : (v : View R.Note) (b : ℕ) (wanted : Way) → IsSeen v → R.Leaves v b wanted → (b < goal_column v.program) × IsOut v.program v.statuses v.entries v.values b wanted
  pub enters : (v : View R.Note) (b : ℕ) (wanted : Way) (n : ℕ) (way : Way) → IsSeen v → R.Enters v b wanted n way → (n < goal_column v.program) × Helps v.program v.statuses v.entries v.values b wanted n way
  pub improves : (v : View R.Note) (n : ℕ) (way : Way) → IsSeen v → R.Improves v n way → (n < goal_column v.program) × Helps v.program v.statuses v.entries v.values (goal_column v.program) Fall n way
  pub stops : (v : View R.Note) (n : ℕ) (way : Way) (b : ℕ) → IsSeen v → R.Stops v n way b → (b < goal_column v.program) × ((q : Ratio) × (limit_at v.program v.statuses v.entries v.values n way b ≡ Some q))

-- all that is asked for one end: no choice has two answers; the ways follow from the columns
pub record AreSingleRules (R : Rules) : Type 0 where
  pub begins : (g : Given) (best : Option Ratio) (I : Instance) (zeroed : Bool) (ss ts : List Status) (k l : R.Note) → IsInstance I → HasNoClash I → R.Begins g best I zeroed ss k → R.Begins g best I zeroed ts l → (ss ≡ ts) × (k ≡ l)
  pub leaves : (v : View R.Note) (b c : ℕ) (x y : Way) → IsSeen v → R.Leaves v b x → R.Leaves v c y → b ≡ c
  pub enters : (v : View R.Note) (b : ℕ) (wanted : Way) (n o : ℕ) (x y : Way) → IsSeen v → R.Enters v b wanted n x → R.Enters v b wanted o y → n ≡ o
  pub improves : (v : View R.Note) (n o : ℕ) (x y : Way) → IsSeen v → R.Improves v n x → R.Improves v o y → n ≡ o
  pub stops : (v : View R.Note) (n : ℕ) (way : Way) (b c : ℕ) → IsSeen v → R.Stops v n way b → R.Stops v n way c → b ≡ c
  pub notes : (v : View R.Note) (turn : Turn) (k l : R.Note) → IsSeen v → R.Notes v turn k → R.Notes v turn l → k ≡ l

-- from the rows, always the least column (Bland, 1977): no numbers are compared for it; nothing is kept, and no bound is enough
abbrev pub bland : Rules
bland = record {
  Note = Unit {0};
  Begins = λ g best I zeroed ss k. IsFirstBasis I ss;
  Passes = λ v b. ⊥;
  Leaves = λ v b wanted. IsLeastOut v.program v.statuses v.entries v.values b wanted;
  Enters = λ v b wanted n way. IsFirstHelp v.program v.statuses v.entries v.values b wanted n way;
  Improves = λ v n way. IsFirstHelp v.program v.statuses v.entries v.values (goal_column v.program) Fall n way;
  Stops = λ v n way b. IsFirstLimit v.program v.statuses v.entries v.values n way b;
  Notes = λ v turn k. Unit {0};
  LeaveFits = λ v. Unit {0};
  EnterFits = λ v b wanted. Unit {0};
  SwapFits = λ v b n. PivotFits v.entries b n;
}
