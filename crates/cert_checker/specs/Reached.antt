-- What a check has reached: the rows of a claim's rounds, and the level at hand.
use Rattle.std.specs.Prelude.{◌≡◌, ℕ, ◌≤◌, Option, List, [], ◌∷◌, length, take, get_or}
use Rattle.rational.specs.Ratio.{Ratio}
use Rattle.evidence.specs.Instance as Of
use Rattle.evidence.specs.Cases.{Node}
use Rattle.evidence.specs.Rounds.{Certificate}
use Rattle.evidence.specs.Levels.{RoundsAreOfOneGoal}
use Rattle.instance.specs.Parts.{Parts}
use Rattle.instance.specs.Program.{goals, program}
use Rattle.cert_checker.specs.declared.refused.Refused.{Refused}
use Rattle.cert_checker.specs.declared.refused.Refused.TheVariants.{Level}
use Rattle.cert_checker.specs.declared.refused.Unshown.{Unshown}
use Rattle.cert_checker.specs.declared.at_hand.Added.{Added}
use Rattle.cert_checker.specs.Programs.{with_rows}
use Rattle.cert_checker.specs.RoundRefusals.{IsAfterRounds}
use Rattle.cert_checker.specs.Trees.{TreeRefuses}

-- the program with these rows, asked for the goal of a level, from 0
abbrev pub at_level : Parts → List Added → ℕ → Of.Instance
at_level p rs level = record (with_rows (program p) rs) { goal = get_or (goals p.goals) level Of.no_goal }

-- the nodes are refused, at this level
abbrev pub TreeIsRefused : Of.Instance → List Node → Option Ratio → ℕ → Refused → Type 0
TreeIsRefused J nodes z level r = (why : Unshown) × TreeRefuses (J ∷ []) nodes z 1 why × (r ≡ Level level why)

-- the first n rows are those of a claim's rounds
pub record AreRoundRows (P : Of.Problem) (c : Certificate) (cs : List Certificate) (n : ℕ) (rs : List Added) : Type 0 where
  pub alone : RoundsAreOfOneGoal P (c ∷ cs)
  pub count : n ≡ length c.rounds
  pub inside : n ≤ length rs
  pub after : IsAfterRounds P.program c.rounds (with_rows P.program (take n rs))

abbrev pub HoldsRounds : Of.Problem → List Certificate → List Added → ℕ → Type 0
HoldsRounds P [] rs n = n ≡ 0
HoldsRounds P (c ∷ cs) rs n = AreRoundRows P c cs n rs
