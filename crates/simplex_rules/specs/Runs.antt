-- The run of a linear program: moments, of which each but the last has the next (Chvátal, Linear Programming, 1983, chapters 3 and 8; Bland, 1977).
use Rattle.std.specs.Prelude.{◌≡◌, ℕ, ◌+◌, ◌%◌, ◌<◌, ◌≤◌, ◌⊎◌, Bool, false, Some, List}
use Rattle.rational.specs.Ratio.{Ratio}
use Rattle.evidence.specs.Instance.{Instance, column_at}
use Rattle.evidence.specs.Cases.{IsEmpty}
use Rattle.certificate.specs.declared.causes.Step.TheVariants as At
use Rattle.bases.specs.Dictionary.{Entries, Values}
use Rattle.bases.specs.Program.{goal_column}
use Rattle.bases.specs.Pivot.{PivotFits}
use Rattle.simplex_rules.specs.declared.columns.Status.{Status}
use Rattle.simplex_rules.specs.declared.columns.Way.{Way}
use Rattle.simplex_rules.specs.declared.columns.Way.TheVariants.{Fall}
use Rattle.simplex_rules.specs.Statuses.{HasDictionary, HasValues, IsFirstBasis}
use Rattle.simplex_rules.specs.Turns.{IsLeastOut, NoneOut, IsFirstHelp, NoneHelps, IsFirstLimit, NoLimit, flipped, pivoted, missed_status, left_status}
use Rattle.simplex_rules.specs.Widths.{ValuesFit, LimitsFit, BoundFits}
use Rattle.simplex_rules.specs.Ends.{Terms, Clock, End, Clash, Empty, Best, Endless, TurnsOut, TooWide, Stopped}
use Rattle.simplex_rules.specs.Reports.{multipliers_of, AreValues, movement, IsBoundAt}

-- a basis with the places of the other columns, and the clock
pub record Moment : Type 0 where
  pub statuses : List Status
  pub clock : Clock

-- a next moment, or the end with its clock
pub data Next : Type 0 where
  To : Moment → Next
  Out : End → Clock → Next

-- the turn's number, counted over the whole search, is a multiple of 64
abbrev pub is_checked : ℕ → Type 0
is_checked turns = turns % 64 ≡ 0

abbrev pub turned : Clock → Clock
turned c = record c { turns = c.turns + 1 }

abbrev pub looked_once : Clock → Clock
looked_once c = record c { looks = c.looks + 1 }

-- a turn was done, with these statuses: after each 64th there is a look, which may stop the run
abbrev pub PassesTurn : Terms → Clock → List Status → Next → Type 0
PassesTurn t c ss next =
    ((is_checked c.turns → ⊥) × (next ≡ To (record { statuses = ss; clock = c })))
    ⊎ (is_checked c.turns × (t.stop ≡ Some (c.looks + 1)) × (next ≡ Out Stopped (looked_once c)))
    ⊎ (is_checked c.turns × (t.stop ≡ Some (c.looks + 1) → ⊥) × (next ≡ To (record { statuses = ss; clock = looked_once c })))

-- a turn is begun, to these statuses: as many as the limit were done, or its numbers don't fit, or it is done
abbrev pub BeginsTurn : Terms → Clock → Type 0 → List Status → Next → Type 0
BeginsTurn t c Fits ss next =
    ((t.turns ≤ c.turns) × (next ≡ Out TurnsOut c))
    ⊎ ((c.turns < t.turns) × (Fits → ⊥) × (next ≡ Out (TooWide At.Pivot) c))
    ⊎ ((c.turns < t.turns) × Fits × PassesTurn t (turned c) ss next)

-- m is a moment of the run, u its dictionary, and w has its values
module _ (I : Instance) (zeroed : Bool) (t : Terms) (m : Moment) (u : Entries) (w : Values) where
  abbrev ss : List Status
  ss = m.statuses

  abbrev goal : ℕ
  goal = goal_column I

  -- column n moves: a limit doesn't fit; or there is none; or the first limit is its own, and it goes to its other end; or that of a basic column, which leaves the basis at the end that it reached
  abbrev pub MovesColumn : ℕ → Way → Next → Type 0
  MovesColumn n way next =
      ((LimitsFit I ss u w n way → ⊥) × (next ≡ Out (TooWide At.Ratio) m.clock))
      ⊎ ((x d : List Ratio) × LimitsFit I ss u w n way × NoLimit I ss u w n way × AreValues I w x × AreValues I (movement ss u n way) d × (next ≡ Out (Endless x d) m.clock))
      ⊎ (LimitsFit I ss u w n way × IsFirstLimit I ss u w n way n × BeginsTurn t m.clock (Unit {0}) (flipped I ss n way) next)
      ⊎ ((b : ℕ) × LimitsFit I ss u w n way × IsFirstLimit I ss u w n way b × (b ≡ n → ⊥) × BeginsTurn t m.clock (PivotFits u b n) (pivoted ss b n (left_status I u b n way)) next)

  -- the first phase: the first column that is out of its ends leaves the basis at the end that it missed, for the first one that helps; where none does, no point is feasible
  abbrev pub Repairs : ℕ → Way → Next → Type 0
  Repairs b wanted next =
      (NoneHelps I ss u w b wanted × (next ≡ Out (Empty (multipliers_of I u b wanted)) m.clock))
      ⊎ ((n : ℕ) × (way : Way) × IsFirstHelp I ss u w b wanted n way × BeginsTurn t m.clock (PivotFits u b n) (pivoted ss b n (missed_status wanted (column_at I b))) next)

  -- the second phase: the first column moves by which the goal falls; where there is none, the point is best, and its bound may not fit
  abbrev pub Improves : Next → Type 0
  Improves next =
      (NoneHelps I ss u w goal Fall × (zeroed ≡ false) × (BoundFits I ss u → ⊥) × (next ≡ Out (TooWide At.Point) m.clock))
      ⊎ ((b : Ratio) × (x : List Ratio) × NoneHelps I ss u w goal Fall × (zeroed ≡ false → BoundFits I ss u) × IsBoundAt zeroed I ss u b × AreValues I w x × (next ≡ Out (Best b x (multipliers_of I u goal Fall)) m.clock))
      ⊎ ((n : ℕ) × (way : Way) × IsFirstHelp I ss u w goal Fall n way × MovesColumn n way next)

  -- the first phase where a basic column is out of its ends, else the second
  abbrev pub Chooses : Next → Type 0
  Chooses next =
      ((b : ℕ) × (wanted : Way) × IsLeastOut I ss u w b wanted × Repairs b wanted next)
      ⊎ (NoneOut I ss u w × Improves next)

-- what comes after a moment, read off the dictionary of its basis: the values don't fit, or a phase goes on
abbrev pub IsNext : Instance → Bool → Terms → Moment → Next → Type 0
IsNext I zeroed t m next =
    (u : Entries) × HasDictionary I zeroed m.statuses u
    × (((ValuesFit I m.statuses u → ⊥) × (next ≡ Out (TooWide At.Values) m.clock))
    ⊎ ((w : Values) × ValuesFit I m.statuses u × HasValues I m.statuses u w × Chooses I zeroed t m u w next))

-- the moments of the run that begins at this clock, with the first basis
pub data ComesInRun (I : Instance) (zeroed : Bool) (t : Terms) (c : Clock) : Moment → Type 0 where
  begins : {ss : List Status} → IsFirstBasis I ss → ComesInRun I zeroed t c (record { statuses = ss; clock = c })
  goes_on : {m n : Moment} → ComesInRun I zeroed t c m → IsNext I zeroed t m (To n) → ComesInRun I zeroed t c n

abbrev pub HasNoClash : Instance → Type 0
HasNoClash I = (k : ℕ) → k < goal_column I → IsEmpty (column_at I k) → ⊥

-- column c is the first whose lower end passes its upper one
pub record IsFirstEmpty (I : Instance) (c : ℕ) : Type 0 where
  pub inside : c < goal_column I
  pub empty : IsEmpty (column_at I c)
  pub before : (k : ℕ) → k < c → IsEmpty (column_at I k) → ⊥

-- no column's ends pass each other, and the run comes to a moment with this end
pub record IsRun (I : Instance) (zeroed : Bool) (t : Terms) (c : Clock) (e : End) (d : Clock) : Type 0 where
  pub room : HasNoClash I
  pub last : Moment
  pub comes : ComesInRun I zeroed t c last
  pub ends : IsNext I zeroed t last (Out e d)

-- the run of a program from one clock to another: at once at an end where a column clashes, else by its moments
abbrev pub Run : Instance → Bool → Terms → Clock → End → Clock → Type 0
Run I zeroed t c e d = ((k : ℕ) × IsFirstEmpty I k × (e ≡ Clash k) × (d ≡ c)) ⊎ IsRun I zeroed t c e d

-- it is a run by moments, and these are the statuses of the last one: of them its dictionary is read
pub record EndsAtBasis (I : Instance) (zeroed : Bool) (t : Terms) (c : Clock) (e : End) (d : Clock) (ss : List Status) : Type 0 where
  pub run : IsRun I zeroed t c e d
  pub basis : run.last.statuses ≡ ss
