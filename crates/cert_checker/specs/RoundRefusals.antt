-- Which refusal of a certificate's rounds is the first.
use Rattle.std.specs.Prelude.{◌≡◌, ℕ, ◌+◌, ◌<◌, ◌⊎◌, ℤ, IsTrue, List, [], ◌∷◌}
use Rattle.rational.specs.Ratio.{IsSame}
use Rattle.evidence.specs.Sums.{none, IsWhole}
use Rattle.evidence.specs.Instance.{Instance, width, variable_at}
use Rattle.evidence.specs.Cases.{Multiplier, AreLegal, form}
use Rattle.evidence.specs.Width.{FormFits, LowFits}
use Rattle.evidence.specs.Rounds as With
use Rattle.evidence.specs.Rounds.{IsRound, RoundFits, derive}
use Rattle.cert_checker.specs.declared.refused.Refused.{Refused}
use Rattle.cert_checker.specs.declared.refused.Refused.TheVariants.{Round, WideRound}
use Rattle.cert_checker.specs.Leaves.{IsFirstIllegal}
use Rattle.cert_checker.specs.RowRounds.{RowRoundRefuses}

-- at variable j the sum of columns is whole, and 0 where the variable isn't
abbrev pub IsWholeForm : Instance → List Multiplier → ℕ → Type 0
IsWholeForm I ms j = IsWhole (form I ms j) × ((IsTrue (variable_at I j).whole → ⊥) → IsSame (form I ms j) none)

pub record HasWholeForm (I : Instance) (ms : List Multiplier) (j : ℕ) : Type 0 where
  pub fits : FormFits I ms j
  pub is : IsWholeForm I ms j

abbrev pub WholeFormsBelow : Instance → List Multiplier → ℕ → Type 0
WholeFormsBelow I ms n = (j : ℕ) → j < n → HasWholeForm I ms j

-- the first variable whose sum isn't so, or doesn't fit
pub record IsFirstPart (I : Instance) (ms : List Multiplier) (j : ℕ) : Type 0 where
  pub inside : j < width I
  pub below : WholeFormsBelow I ms j
  pub fits : FormFits I ms j
  pub part : IsWholeForm I ms j → ⊥

pub record IsFirstUnfitPart (I : Instance) (ms : List Multiplier) (j : ℕ) : Type 0 where
  pub inside : j < width I
  pub below : WholeFormsBelow I ms j
  pub wide : FormFits I ms j → ⊥

abbrev pub PartRefuses : Instance → List Multiplier → ℕ → Refused → Type 0
PartRefuses I ms round r = ((j : ℕ) × IsFirstPart I ms j × (r ≡ Round round j)) ⊎ ((j : ℕ) × IsFirstUnfitPart I ms j × (r ≡ WideRound round))

-- a sum doesn't fit: the first that isn't as a round's must be, or that of the ends
abbrev pub IsWideRound : Instance → List Multiplier → Type 0
IsWideRound I ms = ((j : ℕ) × IsFirstUnfitPart I ms j) ⊎ (WholeFormsBelow I ms (width I) × (LowFits I none ms → ⊥))

-- what a round is refused for: the first multiplier that isn't legal, the first variable's sum, and then the sum of the ends
abbrev pub RoundRefuses : Instance → List Multiplier → ℕ → Refused → Type 0
RoundRefuses I ms round r =
    ((c : ℕ) × IsFirstIllegal I ms c × (r ≡ Round round c))
    ⊎ (AreLegal I ms × PartRefuses I ms round r)
    ⊎ (AreLegal I ms × WholeFormsBelow I ms (width I) × (LowFits I none ms → ⊥) × (r ≡ WideRound round))

-- of any round
abbrev pub AnyRoundRefuses : Instance → With.Round → ℕ → Refused → Type 0
AnyRoundRefuses I (With.RoundBy ms) round r = RoundRefuses I ms round r
AnyRoundRefuses I (With.RoundByRows ms) round r = RowRoundRefuses I ms round r

-- the first round that is refused, of those numbered from the given number on; each is over the rows of those before it
abbrev pub RoundsRefuse : Instance → List With.Round → ℕ → Refused → Type 0
RoundsRefuse I [] round r = ⊥
RoundsRefuse I (w ∷ rounds) round r =
    AnyRoundRefuses I w round r
    ⊎ ((cs : List ℤ) × (k : ℤ) × IsRound I w cs k × RoundFits I w cs × RoundsRefuse (derive I cs k) rounds (round + 1) r)

-- the instance with the rows of all rounds
abbrev pub IsAfterRounds : Instance → List With.Round → Instance → Type 0
IsAfterRounds I [] J = I ≡ J
IsAfterRounds I (w ∷ rounds) J = (cs : List ℤ) × (k : ℤ) × IsRound I w cs k × RoundFits I w cs × IsAfterRounds (derive I cs k) rounds J

-- the rest of the rounds leads to all of them: the rows after it are those after all, and its first refusal is that of all
pub record LeadsThroughRounds (I : Instance) (rounds : List With.Round) (round : ℕ) (J : Instance) (rest : List With.Round) (next : ℕ) : Type 0 where
  pub after : (K : Instance) → IsAfterRounds J rest K → IsAfterRounds I rounds K
  pub refused : (r : Refused) → RoundsRefuse J rest next r → RoundsRefuse I rounds round r
