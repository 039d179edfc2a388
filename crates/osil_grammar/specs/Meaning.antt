-- What types, constants, senses and the lists of the matrix mean (Optimization Services instance language).
use Rattle.std.specs.Prelude.{◌≡◌, ◌≢◌, ℕ, pos, true, false, cond, List, codes}
use Rattle.std.specs.List.{All}
use Rattle.rational.specs.Ratio.{Ratio, whole, sum, negative, IsSame}
use Rattle.evidence.specs.Sums as evidence
use Rattle.evidence.specs.Instance as Of
use Rattle.fraction.specs.Frac.{ratio}
use Rattle.fraction.specs.declared.frac.Frac.{Frac}
use Rattle.fraction.specs.declared.ends.End.{End}
use Rattle.fraction.specs.declared.ends.End.TheVariants.{NegInf, At, Inf}
use Rattle.fraction.specs.declared.ends.Entry.{Entry}
use Rattle.instance.specs.declared.parts.Var.{Var}
use Rattle.instance.specs.declared.parts.Sense.{Sense}
use Rattle.instance.specs.declared.parts.Sense.TheVariants.{Min, Max}
use Rattle.instance.specs.Parts.{IsAscending}
use Rattle.instance.specs.Program.{entries}
use Rattle.osil_grammar.specs.Matrix.{place_sum}

-- a finite end that is this number
abbrev pub IsEndAt : End → Ratio → Type 0
IsEndAt NegInf x = ⊥
IsEndAt (At f) x = IsSame (ratio f) x
IsEndAt Inf x = ⊥

-- 1
abbrev pub one : Ratio
one = whole (pos 1)

-- the greater of a lower end and 0, the lesser of an upper one and 1
abbrev pub raised : End → Ratio
raised NegInf = evidence.none
raised (At f) = cond (evidence.is_below (ratio f) evidence.none) evidence.none (ratio f)
raised Inf = evidence.none

abbrev pub lowered : End → Ratio
lowered NegInf = one
lowered (At f) = cond (evidence.is_below one (ratio f)) one (ratio f)
lowered Inf = one

-- what the ends and the type say: continuous, integer, or binary
abbrev pub IsContinuous : End → End → Var → Type 0
IsContinuous lb ub v = (v.lb ≡ lb) × (v.ub ≡ ub) × (v.whole ≡ false) × (v.zero ≡ false)

abbrev pub IsInteger : End → End → Var → Type 0
IsInteger lb ub v = (v.lb ≡ lb) × (v.ub ≡ ub) × (v.whole ≡ true) × (v.zero ≡ false)

abbrev pub IsBinary : End → End → Var → Type 0
IsBinary lb ub v = IsEndAt v.lb (raised lb) × IsEndAt v.ub (lowered ub) × (v.whole ≡ true) × (v.zero ≡ false)

-- 0 or between the ends: semi-continuous, or semi-integer
abbrev pub IsSemiContinuous : End → End → Var → Type 0
IsSemiContinuous lb ub v = (v.lb ≡ lb) × (v.ub ≡ ub) × (v.whole ≡ false) × (v.zero ≡ true)

abbrev pub IsSemiInteger : End → End → Var → Type 0
IsSemiInteger lb ub v = (v.lb ≡ lb) × (v.ub ≡ ub) × (v.whole ≡ true) × (v.zero ≡ true)

-- an end less a constant
abbrev pub IsLess : End → Frac → End → Type 0
IsLess NegInf c less = less ≡ NegInf
IsLess (At f) c less = IsEndAt less (sum (ratio f) (negative (ratio c)))
IsLess Inf c less = less ≡ Inf

-- minimise, where it doesn't say otherwise
abbrev pub IsSense : List ℕ → Sense → Type 0
IsSense text Min = text ≡ codes "min"
IsSense text Max = text ≡ codes "max"

-- the entries are the sums of these, where they aren't 0, by rows and in each row by columns
pub record AreEntriesOf (l : List Of.Entry) (es : List Entry) : Type 0 where
  pub ascending : IsAscending es
  pub nonzero : All (λ e. e.value.numer ≢ pos 0) es
  pub sums : (i j : ℕ) → IsSame (Of.entry_at (entries es) i j) (place_sum evidence.none l i j)
