-- The second phase of a run, in which the goal is improved: its turns, from moments at which no column is out of its ends (Chvátal, Linear Programming, 1983, chapters 3 and 8).
use Rattle.std.specs.Prelude.{◌≡◌, ℕ, ◌<◌, suc, Bool, List, [], ◌∷◌, ◌++◌, length, get_or}
use Rattle.evidence.specs.Instance.{Instance}
use Rattle.bases.specs.Dictionary.{Entries, Values}
use Rattle.bases.specs.Program.{goal_column}
use Rattle.simplex_rules.specs.declared.columns.Status.{Status}
use Rattle.simplex_rules.specs.Statuses.{status_at, HasDictionary, HasValues, IsFirstBasis}
use Rattle.simplex_rules.specs.Turns.{NoneOut}
use Rattle.simplex_rules.specs.Widths.{ValuesFit}
use Rattle.simplex_rules.specs.Ends.{Terms, Clock}
use Rattle.simplex_rules.specs.Runs.{Moment, To, Improves, ComesInRun, begins, goes_on}

-- n comes after m by a turn of the second phase
pub record IsImprovingTurn (I : Instance) (zeroed : Bool) (t : Terms) (m n : Moment) : Type 0 where
  pub entries : Entries
  pub dictionary : HasDictionary I zeroed m.statuses entries
  pub columns : Values
  pub fit : ValuesFit I m.statuses entries
  pub values : HasValues I m.statuses entries columns
  pub none_out : NoneOut I m.statuses entries columns
  pub improves : Improves I zeroed t m entries columns (To n)

-- the moments at 0 to k, each after the other by a turn of the second phase
abbrev pub AreTurns : Instance → Bool → Terms → (ℕ → Moment) → ℕ → Type 0
AreTurns I zeroed t at k = (i : ℕ) → i < k → IsImprovingTurn I zeroed t (at i) (at (suc i))

-- the same columns are basic, and the others have the same places
abbrev pub HaveSamePlaces : Instance → List Status → List Status → Type 0
HaveSamePlaces I ss ts = (c : ℕ) → c < goal_column I → status_at ss c ≡ status_at ts c

-- at this basis no column is out of its ends
abbrev pub IsSettled : Instance → Bool → List Status → Type 0
IsSettled I zeroed ss = (u : Entries) (w : Values) → HasDictionary I zeroed ss u → HasValues I ss u w → NoneOut I ss u w

-- at the first basis no column is out of its ends
abbrev pub BeginsSettled : Instance → Bool → Type 0
BeginsSettled I zeroed = (ss : List Status) → IsFirstBasis I ss → IsSettled I zeroed ss

-- the bases with their places that a run came through up to a moment, in their order
abbrev pub came_through : {I : Instance} {zeroed : Bool} {t : Terms} {c : Clock} {m : Moment} → ComesInRun I zeroed t c m → List (List Status)
came_through (begins {ss} first) = ss ∷ []
came_through (goes_on {m} {n} before next) = came_through before ++ n.statuses ∷ []

-- of these, no two that no column is out at are the same
abbrev pub HasNoneTwice : Instance → Bool → List (List Status) → Type 0
HasNoneTwice I zeroed past = (i j : ℕ) → i < j → j < length past → IsSettled I zeroed (get_or past i []) → HaveSamePlaces I (get_or past i []) (get_or past j []) → ⊥
