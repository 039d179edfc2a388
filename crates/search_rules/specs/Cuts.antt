-- The rounding cut that is read off the dictionary of a best point (Gomory, Outline of an algorithm for integer solutions to linear programs, 1958): in the equation of a whole variable whose value isn't whole, each entry without its whole part is the multiplier of its column.
use Rattle.std.specs.Prelude.{◌≡◌, ℕ, ◌<◌, ◌⊎◌, ℤ, pos, Bool, true, false, IsTrue, List}
use Rattle.rational.specs.Ratio.{Ratio, whole, sum, negative, IsSame, IsFloor}
use Rattle.rational.specs.Width.{IsReduced, SumFits}
use Rattle.evidence.specs.Sums.{none, IsWhole}
use Rattle.evidence.specs.Instance.{Instance, width, variable_at}
use Rattle.evidence.specs.Point.{value_at}
use Rattle.evidence.specs.Cases.{Multiplier, form, low_sum}
use Rattle.evidence.specs.Rounds.{IsCeiling, IsRoundingCut}
use Rattle.evidence.specs.Width.{FormFits, LowFits, LeafFits}
use Rattle.bases.specs.Dictionary.{Entries}
use Rattle.bases.specs.Program.{goal_column}
use Rattle.simplex_rules.specs.declared.columns.Status.{Status}
use Rattle.simplex_rules.specs.declared.columns.Status.TheVariants.{Basic, Lower, Upper, Zero}
use Rattle.simplex_rules.specs.Statuses.{status_at, basic_in, HasDictionary}
use Rattle.simplex_rules.specs.Reports.{collected}
use Rattle.search_rules.specs.Branching.{IsWholeBelow}

-- j is the least whole variable whose value isn't whole
pub record IsFractional (I : Instance) (x : List Ratio) (j : ℕ) : Type 0 where
  pub inside : j < width I
  pub whole : IsTrue (variable_at I j).whole
  pub below : IsWholeBelow I x j
  pub other : IsWhole (value_at x j) → ⊥

-- r is x less the whole number k, in lowest terms
pub record IsLessBy (x : Ratio) (k : ℤ) (r : Ratio) : Type 0 where
  pub reduced : IsReduced r
  pub same : IsSame r (sum x (negative (whole k)))

-- what is left of an entry: at the lower end of its column, less its floor; at the upper one, less its ceiling; at 0, all of it
abbrev pub IsLeftOver : Status → Ratio → Ratio → Type 0
IsLeftOver Basic x r = r ≡ none
IsLeftOver Lower x r = (k : ℤ) × IsFloor x k × IsLessBy x k r
IsLeftOver Upper x r = (k : ℤ) × IsCeiling x k × IsLessBy x k r
IsLeftOver Zero x r = r ≡ x

-- that difference fits
abbrev pub LeftFits : Status → Ratio → Type 0
LeftFits Basic x = Unit {0}
LeftFits Lower x = (k : ℤ) → IsFloor x k → SumFits x (negative (whole k))
LeftFits Upper x = (k : ℤ) → IsCeiling x k → SumFits x (negative (whole k))
LeftFits Zero x = Unit {0}

-- the multipliers' sum at variable j is as a cut's: whole at a whole variable, 0 at another one
abbrev pub IsCutFormBy : Bool → Ratio → Type 0
IsCutFormBy true x = IsWhole x
IsCutFormBy false x = IsSame x none

abbrev pub IsCutForm : Instance → List Multiplier → ℕ → Type 0
IsCutForm I ms j = IsCutFormBy (variable_at I j).whole (form I ms j)

-- at the first n variables the sums fit and are as a cut's
abbrev pub AreCutForms : Instance → List Multiplier → ℕ → Type 0
AreCutForms I ms n = (j : ℕ) → j < n → FormFits I ms j × IsCutForm I ms j

-- one of the sums of these multipliers doesn't fit: that of a variable before which all are as a cut's, or that of the ends
abbrev pub IsWideCut : Instance → List Multiplier → Type 0
IsWideCut I ms =
    ((j : ℕ) × (j < width I) × AreCutForms I ms j × (FormFits I ms j → ⊥))
    ⊎ (AreCutForms I ms (width I) × (LowFits I none ms → ⊥))

-- they make no cut: the sum at a variable isn't as a cut's, or that of the ends is whole, so that nothing is rounded
abbrev pub IsNoCut : Instance → List Multiplier → Type 0
IsNoCut I ms =
    ((j : ℕ) × (j < width I) × AreCutForms I ms j × FormFits I ms j × (IsCutForm I ms j → ⊥))
    ⊎ (AreCutForms I ms (width I) × LowFits I none ms × IsWhole (low_sum I none ms))

-- they make this cut, with whole coefficients and a whole lower end, and it rounds
pub record MakesCut (I : Instance) (ms : List Multiplier) (cs : List ℤ) (k : ℤ) : Type 0 where
  pub cut : IsRoundingCut I ms cs k
  pub fits : LeafFits I none ms
  pub rounds : IsWhole (low_sum I none ms) → ⊥

-- a basis of a program, whose dictionary is u, and the basic variable j, of whose equation a cut is derived
module _ (I : Instance) (ss : List Status) (u : Entries) (j : ℕ) where
  -- each difference fits
  abbrev pub AreLeftWithin : Type 0
  AreLeftWithin = (c : ℕ) → c < goal_column I → LeftFits (status_at ss c) (u j c)

  -- no entry is left at a column that stands at 0
  abbrev pub NoneIsLeftAtZero : Type 0
  NoneIsLeftAtZero = (c : ℕ) → c < goal_column I → status_at ss c ≡ Zero → (u j c).num ≡ pos 0

  -- the multipliers are what is left of the entries, where it isn't 0, in ascending order of the columns
  pub record AreCutMultipliers (ms : List Multiplier) : Type 0 where
    pub left : ℕ → Ratio
    pub are : (c : ℕ) → c < goal_column I → IsLeftOver (status_at ss c) (u j c) (left c)
    pub is : ms ≡ collected left (goal_column I)

-- what comes of trying a cut: none, a number that doesn't fit, or the cut by these multipliers, with its coefficients and its lower end
pub data Trial : Type 0 where
  NoCut : Trial
  WideCut : Trial
  Cut : List Multiplier → List ℤ → ℤ → Trial

-- of its multipliers
abbrev pub TriesMultipliers : Instance → List Multiplier → Trial → Type 0
TriesMultipliers I ms trial =
    (IsNoCut I ms × (trial ≡ NoCut)) ⊎ (IsWideCut I ms × (trial ≡ WideCut)) ⊎ ((cs : List ℤ) × (k : ℤ) × MakesCut I ms cs k × (trial ≡ Cut ms cs k))

-- of the equation of variable j: the differences come first; then there is no cut where an entry is left at a column that stands at 0
abbrev pub TriesEquation : Instance → List Status → Entries → ℕ → Trial → Type 0
TriesEquation I ss u j trial =
    ((AreLeftWithin I ss u j → ⊥) × (trial ≡ WideCut))
    ⊎ (AreLeftWithin I ss u j × (NoneIsLeftAtZero I ss u j → ⊥) × (trial ≡ NoCut))
    ⊎ ((ms : List Multiplier) × AreLeftWithin I ss u j × NoneIsLeftAtZero I ss u j × AreCutMultipliers I ss u j ms × TriesMultipliers I ms trial)

-- of the basis ss of a best point x: of the least whole variable whose value isn't whole, where there is one and it is basic
abbrev pub TriesBasis : Instance → List Ratio → List Status → Trial → Type 0
TriesBasis I x ss trial =
    (IsWholeBelow I x (width I) × (trial ≡ NoCut))
    ⊎ ((j : ℕ) × IsFractional I x j × (basic_in ss j ≡ false) × (trial ≡ NoCut))
    ⊎ ((j : ℕ) × (u : Entries) × IsFractional I x j × (basic_in ss j ≡ true) × HasDictionary I false ss u × TriesEquation I ss u j trial)
