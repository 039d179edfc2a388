-- Rounding cuts (Gomory, 1958; Chvátal, 1973): a sum of columns that is whole at each point is at least the next whole number. Each is one more row.
use Rattle.std.specs.Prelude.{◌≡◌, ℕ, ◌<◌, ℤ, pos, IsTrue, Option, None, Some, List, [], ◌∷◌, length}
use Rattle.rational.specs.Ratio.{Ratio, whole, IsSame}
use Rattle.evidence.specs.Sums.{none}
pub use Rattle.evidence.specs.Sums.{IsCeiling}
use Rattle.evidence.specs.Instance.{Instance, width, variable_at}
use Rattle.evidence.specs.OneDenominator.{number_at}
use Rattle.evidence.specs.Cases.{Multiplier, Node, AreLegal, form, low_sum}
use Rattle.evidence.specs.Width.{LeafFits, RowsFit, ProvesWithin}
use Rattle.evidence.specs.RowRounds.{IsRowsRound, numbers_of}
use Rattle.evidence.specs.AddedRows.{with_row}

-- whole coefficients cs, and a whole lower end k
abbrev pub derive : Instance → List ℤ → ℤ → Instance
derive I cs k = with_row I (record { lb = Some (whole k); ub = None }) (λ j. whole (number_at cs j))

-- the multipliers' sum of columns has whole numbers at whole variables and 0 at the others, and that of their ends is at most k
pub record IsRoundingCut (I : Instance) (ms : List Multiplier) (cs : List ℤ) (k : ℤ) : Type 0 where
  pub legal : AreLegal I ms
  pub count : length cs ≡ width I
  pub forms : (j : ℕ) → j < width I → IsSame (form I ms j) (whole (number_at cs j))
  pub others : (j : ℕ) → j < width I → (IsTrue (variable_at I j).whole → ⊥) → number_at cs j ≡ pos 0
  pub rounded : IsCeiling (low_sum I none ms) k

-- a round by multipliers of columns, or by those of rows alone, which those of variables complete
pub data Round : Type 0 where
  RoundBy : List Multiplier → Round
  RoundByRows : List Multiplier → Round

-- the round gives this row
abbrev pub IsRound : Instance → Round → List ℤ → ℤ → Type 0
IsRound I (RoundBy ms) cs k = IsRoundingCut I ms cs k
IsRound I (RoundByRows ms) cs k = IsRowsRound I ms cs k

-- the sums by which it is checked
abbrev pub RoundFits : Instance → Round → List ℤ → Type 0
RoundFits I (RoundBy ms) cs = LeafFits I none ms
RoundFits I (RoundByRows ms) cs = RowsFit I none (numbers_of cs) ms

-- a list of rounds, each over the rows of those before it, and the nodes of a tree over all rows
pub record Certificate : Type 0 where
  pub rounds : List Round
  pub nodes : List Node

-- the tree shows it of the instance with the rounds' rows, by sums that fit
abbrev pub ShowsAfter : Instance → List Round → List Node → Option Ratio → Type 0
ShowsAfter I [] nodes z = ProvesWithin I nodes z
ShowsAfter I (r ∷ rounds) nodes z = (cs : List ℤ) × (k : ℤ) × IsRound I r cs k × RoundFits I r cs × ShowsAfter (derive I cs k) rounds nodes z

abbrev pub CertificateShows : Instance → Certificate → Option Ratio → Type 0
CertificateShows I c z = ShowsAfter I c.rounds c.nodes z
