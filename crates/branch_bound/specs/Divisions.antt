-- How a variable's value divides a case, as the rules of a search say it.
use Rattle.std.specs.Prelude.{ℕ, IsTrue, List}
use Rattle.rational.specs.Ratio.{Ratio, IsFloor}
use Rattle.evidence.specs.Sums.{IsWhole}
use Rattle.evidence.specs.Instance.{Variable, Instance}
use Rattle.case_tree.specs.declared.cuts.Division.{Division}
use Rattle.case_tree.specs.declared.cuts.Division.TheVariants.{Split, Zero}
use Rattle.search_rules.specs.Branching.{IsEither, IsSplit, IsDividedAt}

-- the value is neither 0 nor within the variable's further ends; or it is, and isn't whole, where it must be
abbrev pub NeedsDivision : Variable → Ratio → Division → Type 0
NeedsDivision v x (Split k) = IsEither v x × IsTrue v.whole × (IsWhole x → ⊥) × IsFloor x k
NeedsDivision v x Zero = IsEither v x → ⊥

-- variable j is the least whose value isn't as it must be
abbrev pub IsOpenAt : Instance → List Ratio → ℕ → Division → Type 0
IsOpenAt I x j (Split k) = IsSplit I x j k
IsOpenAt I x j Zero = IsDividedAt I x j
