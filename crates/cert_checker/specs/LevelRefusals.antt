-- Which refusal of the levels of a claim is the first.
use Rattle.std.specs.Prelude.{◌≡◌, ℕ, ◌+◌, ◌<◌, ◌⊎◌, Option, Some, List, [], ◌∷◌, length}
use Rattle.rational.specs.Ratio.{Ratio, negative}
use Rattle.rational.specs.Width.{SumFits}
use Rattle.evidence.specs.Instance.{Goal, Instance, Problem, goals, minimising}
use Rattle.evidence.specs.Rounds.{Certificate, CertificateShows}
use Rattle.evidence.specs.Levels.{IsReachedEnd, next_level, AreBest, AreEndless, RoundsAreOfOneGoal}
use Rattle.cert_checker.specs.declared.refused.Refused.{Refused}
use Rattle.cert_checker.specs.declared.refused.Refused.TheVariants.{Round, Levels, Level}
use Rattle.cert_checker.specs.declared.refused.Unshown.{Unshown}
use Rattle.cert_checker.specs.declared.refused.Unshown.TheVariants.{Wide}
use Rattle.cert_checker.specs.RoundRefusals.{RoundsRefuse, IsAfterRounds}
use Rattle.cert_checker.specs.Rays.{RayRefuses}
use Rattle.cert_checker.specs.Trees.{TreeRefuses}

-- what is to show of the last level: that no point is better, or that points from this one on along this direction are, without end
pub data Ending : Type 0 where
  Best : Ending
  Endless : List Ratio → List Ratio → Ending

-- what certificates of levels show
abbrev pub AreShown : Ending → Instance → List Goal → List Ratio → List Certificate → Type 0
AreShown Best I gs vs cs = AreBest I gs vs cs
AreShown (Endless x d) I gs vs cs = AreEndless I gs vs cs x d

-- the certificate's tree, over the rows of its rounds, is refused at this level
abbrev pub LevelRefuses : Instance → Certificate → Option Ratio → ℕ → Refused → Type 0
LevelRefuses I c z level r = (J : Instance) × (why : Unshown) × IsAfterRounds I c.rounds J × TreeRefuses (J ∷ []) c.nodes z 1 why × (r ≡ Level level why)

-- the first round that is refused: the first certificate's, where there is one goal; any, where there are more
abbrev pub ClaimRoundsRefuse : Problem → List Certificate → Refused → Type 0
ClaimRoundsRefuse P [] r = ⊥
ClaimRoundsRefuse P (c ∷ cs) r =
    ((P.later ≡ []) × RoundsRefuse P.program c.rounds 1 r) ⊎ ((RoundsAreOfOneGoal P (c ∷ cs) → ⊥) × (r ≡ Round 1 0))

-- no round is refused
abbrev pub ClaimRoundsHold : Problem → List Certificate → Type 0
ClaimRoundsHold P [] = Unit {0}
ClaimRoundsHold P (c ∷ cs) = RoundsAreOfOneGoal P (c ∷ cs) × (J : Instance) × IsAfterRounds P.program c.rounds J

-- the end of the next level's row doesn't fit
abbrev pub EndIsWide : Instance → Ratio → Type 0
EndIsWide I v = SumFits (minimising I v) (negative (minimising I I.goal.constant)) → ⊥

-- past the last certificate: the direction, where there is one
abbrev pub EndRefuses : Ending → Instance → ℕ → Refused → Type 0
EndRefuses Best I level r = ⊥
EndRefuses (Endless x d) I level r = (why : Unshown) × RayRefuses I x d why × (r ≡ Level level why)

-- level by level from the given one on: the first certificate that is refused, or the first end of a row that doesn't fit
abbrev pub LevelsRefuse : Ending → Instance → List Goal → List Ratio → List Certificate → ℕ → Refused → Type 0
LevelsRefuse end I gs vs [] level r = EndRefuses end I level r
LevelsRefuse end I [] [] (c ∷ cs) level r = ⊥
LevelsRefuse end I [] (v ∷ vs) (c ∷ cs) level r = LevelRefuses I c (Some (minimising I v)) level r
LevelsRefuse end I (g ∷ gs) [] (c ∷ cs) level r = ⊥
LevelsRefuse end I (g ∷ gs) (v ∷ vs) (c ∷ cs) level r =
    LevelRefuses I c (Some (minimising I v)) level r
    ⊎ (CertificateShows I c (Some (minimising I v)) × EndIsWide I v × (r ≡ Level (level + 1) (Wide 0)))
    ⊎ (CertificateShows I c (Some (minimising I v)) × (e : Ratio) × IsReachedEnd I v e × LevelsRefuse end (next_level I e g) gs vs cs (level + 1) r)

-- a best point has a certificate for each goal, and an unbounded claim fewer
abbrev pub AreEnough : Ending → Problem → List Certificate → Type 0
AreEnough Best P cs = length cs ≡ length (goals P)
AreEnough (Endless x d) P cs = length cs < length (goals P)

-- what certificates are refused for: the rounds, then how many certificates there are, and then level by level
abbrev pub CertificatesRefuse : Ending → Problem → List Ratio → List Certificate → Refused → Type 0
CertificatesRefuse end P vs cs r =
    ClaimRoundsRefuse P cs r
    ⊎ (ClaimRoundsHold P cs × (AreEnough end P cs → ⊥) × (r ≡ Levels (length cs)))
    ⊎ (ClaimRoundsHold P cs × AreEnough end P cs × LevelsRefuse end P.program P.later vs cs 1 r)

-- the rest of the levels leads to all of them: what it shows shows all, and its first refusal is that of all
pub record LeadsUp (end : Ending) (I : Instance) (gs : List Goal) (vs : List Ratio) (cs : List Certificate) (level : ℕ) (J : Instance) (hs : List Goal) (ws : List Ratio) (ds : List Certificate) (next : ℕ) : Type 0 where
  pub shown : AreShown end J hs ws ds → AreShown end I gs vs cs
  pub refused : (r : Refused) → LevelsRefuse end J hs ws ds next r → LevelsRefuse end I gs vs cs level r
