-- The run of a linear program by rules: moments, of which each but the last has the next.
use Rattle.std.specs.Prelude.{◌≡◌, ℕ, ◌+◌, ◌<◌, ◌≤◌, ◌⊎◌, Bool, false, Option, Some, List}
use Rattle.rational.specs.Ratio.{Ratio, IsNumber}
use Rattle.evidence.specs.Instance.{Instance, column_at}
use Rattle.evidence.specs.Cases.{Multiplier, IsBound}
use Rattle.certificate.specs.declared.causes.Step.TheVariants as At
use Rattle.bases.specs.Dictionary.{Entries, Values}
use Rattle.bases.specs.Program.{goal_column}
use Rattle.simplex_rules.specs.declared.columns.Status.{Status}
use Rattle.simplex_rules.specs.declared.columns.Way.{Way}
use Rattle.simplex_rules.specs.declared.columns.Way.TheVariants.{Fall}
use Rattle.simplex_rules.specs.Statuses.{HasDictionary, HasValues}
use Rattle.simplex_rules.specs.Turns.{NoneOut, NoneHelps, NoLimit, flipped, pivoted, missed_status, left_status}
use Rattle.simplex_rules.specs.Widths.{ValuesFit, LimitsFit, BoundFits}
use Rattle.simplex_rules.specs.Ends.{Terms, Clock, End, Clash, Empty, Best, Endless, TurnsOut, TooWide, Stopped, Shown}
use Rattle.simplex_rules.specs.Reports.{multipliers_of, AreValues, movement, IsBoundAt}
use Rattle.simplex_rules.specs.Runs.{is_checked, turned, looked_once, HasNoClash, IsFirstEmpty}
use Rattle.simplex_rules.specs.Rules.{View, Given, Swap, Flip, Rules}

-- an end as ever; or a bound that was enough, with the multipliers that show it
pub data Finish : Type 0 where
  Ends : End → Finish
  Passed : Ratio → List Multiplier → Finish

-- what the last basis hands on
abbrev pub handed_on : List Status → Given
handed_on ss = Some ss

-- what it says of the program
abbrev pub ShownBy : Bool → Instance → Finish → Type 0
ShownBy zeroed I (Ends e) = Shown zeroed I e
ShownBy zeroed I (Passed b ms) = (zeroed ≡ false) × IsNumber b × IsBound I ms b

pub record MomentBy (N : Type 0) : Type 0 where
  pub statuses : List Status
  pub note : N
  pub clock : Clock

pub data NextBy (N : Type 0) : Type 0 where
  To : MomentBy N → NextBy N
  Out : Finish → Clock → NextBy N

-- a turn was done, with these statuses and this note: after each 64th there is a look, which may stop the run
abbrev pub PassesTurnBy : {N : Type 0} → Terms → Clock → List Status → N → NextBy N → Type 0
PassesTurnBy t c ss k next =
    ((is_checked c.turns → ⊥) × (next ≡ To (record { statuses = ss; note = k; clock = c })))
    ⊎ (is_checked c.turns × (t.stop ≡ Some (c.looks + 1)) × (next ≡ Out (Ends Stopped) (looked_once c)))
    ⊎ (is_checked c.turns × (t.stop ≡ Some (c.looks + 1) → ⊥) × (next ≡ To (record { statuses = ss; note = k; clock = looked_once c })))

abbrev pub BeginsTurnBy : {N : Type 0} → Terms → Clock → Type 0 → List Status → N → NextBy N → Type 0
BeginsTurnBy t c Fits ss k next =
    ((t.turns ≤ c.turns) × (next ≡ Out (Ends TurnsOut) c))
    ⊎ ((c.turns < t.turns) × (Fits → ⊥) × (next ≡ Out (Ends (TooWide At.Pivot)) c))
    ⊎ ((c.turns < t.turns) × Fits × PassesTurnBy t (turned c) ss k next)

-- m is a moment of the run, u its dictionary, and w has its values
module _ (R : Rules) (I : Instance) (zeroed : Bool) (t : Terms) (m : MomentBy R.Note) (u : Entries) (w : Values) where
  abbrev ss : List Status
  ss = m.statuses

  abbrev goal : ℕ
  goal = goal_column I

  abbrev pub view : View R.Note
  view = record { program = I; zeroed = zeroed; statuses = m.statuses; note = m.note; entries = u; values = w }

  -- the goal's entries bound it, and the rules take the bound for enough
  pub record IsPast (c : Ratio) : Type 0 where
    pub own : zeroed ≡ false
    pub none_helps : NoneHelps I ss u w goal Fall
    pub fits : BoundFits I ss u
    pub bound : IsBoundAt false I ss u c
    pub passes : R.Passes view c

  -- column n moves: a limit doesn't fit; or there is none; or its own stops it, and it goes to its other end; or a basic column does, which leaves the basis at the end that it reached
  abbrev pub MovesBy : ℕ → Way → NextBy R.Note → Type 0
  MovesBy n way next =
      ((LimitsFit I ss u w n way → ⊥) × (next ≡ Out (Ends (TooWide At.Ratio)) m.clock))
      ⊎ ((x d : List Ratio) × LimitsFit I ss u w n way × NoLimit I ss u w n way × AreValues I w x × AreValues I (movement ss u n way) d × (next ≡ Out (Ends (Endless x d)) m.clock))
      ⊎ ((k : R.Note) × LimitsFit I ss u w n way × R.Stops view n way n × R.Notes view (Flip n way) k × BeginsTurnBy t m.clock (Unit {0}) (flipped I ss n way) k next)
      ⊎ ((b : ℕ) × (k : R.Note) × LimitsFit I ss u w n way × R.Stops view n way b × (b ≡ n → ⊥) × R.Notes view (Swap b n (left_status I u b n way)) k × BeginsTurnBy t m.clock (R.SwapFits view b n) (pivoted ss b n (left_status I u b n way)) k next)

  -- column b leaves at the end that it missed; where none helps it, no point is feasible
  abbrev pub RepairsBy : ℕ → Way → NextBy R.Note → Type 0
  RepairsBy b wanted next =
      (NoneHelps I ss u w b wanted × (next ≡ Out (Ends (Empty (multipliers_of I u b wanted))) m.clock))
      ⊎ ((n : ℕ) × (way : Way) × (k : R.Note) × R.Enters view b wanted n way × R.Notes view (Swap b n (missed_status wanted (column_at I b))) k × BeginsTurnBy t m.clock (R.SwapFits view b n) (pivoted ss b n (missed_status wanted (column_at I b))) k next)

  -- where the numbers fit by which the entering column is chosen
  abbrev pub EntersBy : ℕ → Way → NextBy R.Note → Type 0
  EntersBy b wanted next =
      ((R.EnterFits view b wanted → ⊥) × (next ≡ Out (Ends (TooWide At.Ratio)) m.clock)) ⊎ (R.EnterFits view b wanted × RepairsBy b wanted next)

  -- the first phase: a bound is enough, or a column that is out leaves
  abbrev pub OutBy : ℕ → Way → NextBy R.Note → Type 0
  OutBy b wanted next =
      ((c : Ratio) × IsPast c × (next ≡ Out (Passed c (multipliers_of I u goal Fall)) m.clock)) ⊎ (((c : Ratio) → IsPast c → ⊥) × EntersBy b wanted next)

  -- the second phase
  abbrev pub ImprovesBy : NextBy R.Note → Type 0
  ImprovesBy next =
      (NoneHelps I ss u w goal Fall × (zeroed ≡ false) × (BoundFits I ss u → ⊥) × (next ≡ Out (Ends (TooWide At.Point)) m.clock))
      ⊎ ((b : Ratio) × (x : List Ratio) × NoneHelps I ss u w goal Fall × (zeroed ≡ false → BoundFits I ss u) × IsBoundAt zeroed I ss u b × AreValues I w x × (next ≡ Out (Ends (Best b x (multipliers_of I u goal Fall))) m.clock))
      ⊎ ((n : ℕ) × (way : Way) × R.Improves view n way × MovesBy n way next)

  abbrev pub ChoosesBy : NextBy R.Note → Type 0
  ChoosesBy next =
      ((b : ℕ) × (wanted : Way) × R.Leaves view b wanted × OutBy b wanted next)
      ⊎ (NoneOut I ss u w × ImprovesBy next)

  -- both phases: where the numbers fit by which the leaving column is chosen
  abbrev pub WeighsBy : NextBy R.Note → Type 0
  WeighsBy next = ((R.LeaveFits view → ⊥) × (next ≡ Out (Ends (TooWide At.Values)) m.clock)) ⊎ (R.LeaveFits view × ChoosesBy next)

abbrev pub GoesByValues : (R : Rules) → Instance → Bool → Terms → MomentBy R.Note → Entries → NextBy R.Note → Type 0
GoesByValues R I zeroed t m u next =
    ((ValuesFit I m.statuses u → ⊥) × (next ≡ Out (Ends (TooWide At.Values)) m.clock))
    ⊎ ((w : Values) × ValuesFit I m.statuses u × HasValues I m.statuses u w × WeighsBy R I zeroed t m u w next)

-- what comes after a moment, read off the dictionary of its basis
abbrev pub IsNextBy : (R : Rules) → Instance → Bool → Terms → MomentBy R.Note → NextBy R.Note → Type 0
IsNextBy R I zeroed t m next = (u : Entries) × HasDictionary I zeroed m.statuses u × GoesByValues R I zeroed t m u next

-- the moments of the run that begins with what was given
pub data ComesBy (R : Rules) (I : Instance) (zeroed : Bool) (t : Terms) (g : Given) (best : Option Ratio) (c : Clock) : MomentBy R.Note → Type 0 where
  begins : {ss : List Status} {k : R.Note} → R.Begins g best I zeroed ss k → ComesBy R I zeroed t g best c (record { statuses = ss; note = k; clock = c })
  goes_on : {m n : MomentBy R.Note} → ComesBy R I zeroed t g best c m → IsNextBy R I zeroed t m (To n) → ComesBy R I zeroed t g best c n

pub record IsRunBy (R : Rules) (I : Instance) (zeroed : Bool) (t : Terms) (g : Given) (best : Option Ratio) (c : Clock) (f : Finish) (d : Clock) : Type 0 where
  pub room : HasNoClash I
  pub last : MomentBy R.Note
  pub comes : ComesBy R I zeroed t g best c last
  pub ends : IsNextBy R I zeroed t last (Out f d)

-- the run of a program by rules, from what was given and one clock, to an end, another clock, and what is handed on
abbrev pub RunBy : (R : Rules) → Instance → Bool → Terms → Given → Option Ratio → Clock → Finish → Clock → Given → Type 0
RunBy R I zeroed t g best c f d h =
    ((k : ℕ) × IsFirstEmpty I k × (f ≡ Ends (Clash k)) × (d ≡ c) × (h ≡ g))
    ⊎ ((r : IsRunBy R I zeroed t g best c f d) × (h ≡ handed_on r.last.statuses))
