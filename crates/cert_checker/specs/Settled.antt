-- What certificates show, whether or not the sums by which it is checked fit.
use Rattle.std.specs.Prelude.{◌≡◌, ◌⊎◌, ℕ, ℤ, Option, Some, List, [], ◌∷◌}
use Rattle.rational.specs.Ratio.{Ratio, sum, negative, IsSame}
use Rattle.rational.specs.Width.{IsReduced}
use Rattle.evidence.specs.Instance.{Goal, Instance, minimising}
use Rattle.evidence.specs.Point.{IsRay}
use Rattle.evidence.specs.Cases.{Tree, Node, preorder, Shows}
use Rattle.evidence.specs.Rounds.{Certificate, Round, IsRound, derive}
use Rattle.evidence.specs.Levels.{next_level}
use Rattle.cert_checker.specs.declared.refused.Refused.{Refused}
use Rattle.cert_checker.specs.declared.refused.Refused.TheVariants.{WideRound, Level}
use Rattle.cert_checker.specs.declared.refused.Unshown.TheVariants.{Wide}
use Rattle.cert_checker.specs.LevelRefusals.{Ending, Best, Endless}

-- the tree shows it of the instance with the rounds' rows
abbrev pub Settles : Instance → List Round → List Node → Option Ratio → Type 0
Settles I [] nodes z = (tree : Tree) × (nodes ≡ preorder tree) × Shows I tree z
Settles I (r ∷ rounds) nodes z = (cs : List ℤ) × (k : ℤ) × IsRound I r cs k × Settles (derive I cs k) rounds nodes z

-- e, in lowest terms, is the minimising value v without the goal's constant
pub record IsReachedValue (I : Instance) (v e : Ratio) : Type 0 where
  pub reduced : IsReduced e
  pub same : IsSame e (sum (minimising I v) (negative (minimising I I.goal.constant)))

-- a certificate for each level, or for the first ones and a ray at the level after them
abbrev pub AreSettled : Ending → Instance → List Goal → List Ratio → List Certificate → Type 0
AreSettled Best I gs vs [] = ⊥
AreSettled (Endless x d) I gs vs [] = IsRay I x d
AreSettled Best I [] (v ∷ vs) (c ∷ cs) = Settles I c.rounds c.nodes (Some (minimising I v))
AreSettled end I (g ∷ gs) (v ∷ vs) (c ∷ cs) = Settles I c.rounds c.nodes (Some (minimising I v)) × (e : Ratio) × IsReachedValue I v e × AreSettled end (next_level I e g) gs vs cs
AreSettled end I gs vs cs = ⊥

-- a sum doesn't fit
abbrev pub IsForWidth : Refused → Type 0
IsForWidth r = ((n : ℕ) × (r ≡ WideRound n)) ⊎ ((level n : ℕ) × (r ≡ Level level (Wide n)))
