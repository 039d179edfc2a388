-- A form as it is rounded at a variable, and what is left to that number.
use Rattle.std.proofs.Common.{◌≡◌, ◌∙◌, ℕ, ◌+◌, ◌<◌, pos, cond, slice_index_or, Option, Some, IsSome, List, length}
use Rattle.rational.specs.Ratio.{Ratio, whole, sum, negative, IsSame}
use Rattle.rational.specs.Width.{SumFits}
use Rattle.fraction.specs.Frac.{ratio}
use Rattle.fraction.specs.declared.frac.Frac.{Frac}
use Rattle.evidence.specs.Sums.{none}
use Rattle.evidence.specs.Instance.{Instance, IsInstance, column_at}
use Rattle.evidence.specs.Cases.{end_by, end_of, left_at, or_none}
use Rattle.evidence.proofs.Columns.{none-number}
use Rattle.certificate.specs.declared.lists.Mult.{Mult}
use Rattle.certificate.specs.Meanings.{multipliers}
use Rattle.case_tree.specs.declared.cuts.Cut.{Cut}
use Rattle.case_tree.specs.Cuts.{cut, cut_variable}
use Rattle.cert_checker.specs.Lefts.{own, LeftFits, HasOwnEnd, HasLeft}
use Rattle.cert_checker.specs.RowRounds.{toward, aimed}
use Rattle.cert_checker.specs.Slots.{IsStep, HoldsSum, HoldsTotal}
use Rattle.cert_checker.proofs.ColumnSums.{is_form}
use Rattle.cert_checker.proofs.Widths.{cut-instance}
use Rattle.cert_checker.proofs.Lefts.{numbers_of, left_fits, left_unfit, left_is, finite_to, finite_from, added}
use Rattle.cert_checker.proofs.Rounding.{aimed_is, aimed-number}

module _ (I : Instance) (numbers : IsInstance I) (cs : List Cut) (ms : List Mult) (j : ℕ) (inside : j < length cs) (c : Cut) (c_is : c ≡ slice_index_or cs j c) (slot : Option Frac) (f number : Frac) (e : slot ≡ Some f) (h : HoldsSum (cut I cs) (multipliers ms) j (length ms) slot) (rounded_is : ratio number ≡ whole (cond c.var.whole (toward (cut_variable c).range.lb (ratio f)) (pos 0))) where
  abbrev J : Instance
  J = cut I cs

  good : IsInstance J
  good = cut-instance I numbers cs

  abbrev aim : ℕ → Ratio
  aim = aimed J (multipliers ms)

  pub number_aimed : ratio number ≡ aim j
  number_aimed = rounded_is ∙ aimed_is I numbers cs ms j c inside c_is f (is_form J good ms j slot f e h)

  pub unfit_left : (SumFits (ratio number) (negative (ratio f)) → ⊥) → LeftFits J aim (multipliers ms) j → ⊥
  unfit_left = left_unfit J good aim ms j slot f number e h number_aimed

  module _ (fits : SumFits (ratio number) (negative (ratio f))) (l : Frac) (l_is : IsSame (ratio l) (sum (ratio number) (negative (ratio f)))) (o : Option Ratio) (o_is : o ≡ end_by l.numer (column_at J j)) where
    left_fit : LeftFits J aim (multipliers ms) j
    left_fit = left_fits J good aim ms j slot f number e h number_aimed fits

    left_same : IsSame (ratio l) (left_at J aim (multipliers ms) j)
    left_same = left_is J good aim ms j slot f number e h number_aimed l l_is

    pub endless : (((l.numer ≡ pos 0 → ⊥) → IsSome o) → ⊥) → LeftFits J aim (multipliers ms) j × (HasOwnEnd J aim (multipliers ms) j → ⊥)
    endless lacks = (left_fit, λ some. lacks (finite_from J good (multipliers ms) (numbers_of ms) aim (aimed-number J (multipliers ms)) j l left_same o o_is some))

    pub has_left : ((l.numer ≡ pos 0 → ⊥) → IsSome o) → HasLeft J aim (multipliers ms) j
    has_left some = record { fits = left_fit; finite = finite_to J good (multipliers ms) (numbers_of ms) aim (aimed-number J (multipliers ms)) j l left_same o o_is some }

    pub left_added : (old new : Option Frac) → HoldsTotal none j (left_at J aim (multipliers ms)) (λ i. or_none (end_of J (own J aim (multipliers ms) i))) old → IsStep old (ratio l) (or_none o) new → HoldsTotal none (j + 1) (left_at J aim (multipliers ms)) (λ i. or_none (end_of J (own J aim (multipliers ms) i))) new
    left_added = added J good (multipliers ms) (numbers_of ms) aim (aimed-number J (multipliers ms)) j l left_same o o_is none none-number
