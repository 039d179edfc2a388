-- The least variable whose value isn't as it must be, as the code finds it.
use Rattle.std.proofs.Common.{◌≡◌, ◌≢◌, ℕ, ◌+◌, ◌<◌, ◌≤◌, Option, None, Some, IfSome, IsTrue, List, length, slice_index_or, arith, refl, sym, ◌∙◌, ap, subst, below_more}
use Rattle.std.specs.Prelude.{IsSome}
use Rattle.std.proofs.lemmas.List.{length-map, get_or-map}
use Rattle.rational.specs.Ratio.{Ratio}
use Rattle.fraction.specs.Frac.{ratio}
use Rattle.fraction.specs.declared.frac.Frac.{Frac}
use Rattle.evidence.specs.Sums.{IsWhole}
use Rattle.evidence.specs.Instance as Of
use Rattle.evidence.specs.Point.{value_at, IsZeroOr}
use Rattle.evidence.proofs.Fits.{over_one_whole}
use Rattle.case_tree.specs.declared.cuts.Cut.{Cut}
use Rattle.case_tree.specs.declared.cuts.Division.{Division}
use Rattle.case_tree.specs.declared.cuts.Division.TheVariants.{Split, Zero}
use Rattle.case_tree.specs.Cuts.{cut, cut_variable, HasNext}
use Rattle.search_rules.specs.Branching.{IsWholeBelow, IsMet, AreMetBelow}
use Rattle.search_rules.specs.Cuts.{IsFractional}
use Rattle.branch_bound.specs.Divisions.{NeedsDivision, IsOpenAt}
use Rattle.no_cycles.proofs.Floors.{floor_within}

some_where : {T : Type 0} (o : Option T) (P : T → Type 0) → (IfSome o P → ⊥) → IsSome o
some_where None P h = absurd (h tt)
some_where (Some x) P h = refl

module _ (I : Of.Instance) (cs : List Cut) (point : List Ratio) (j : ℕ) (c : Cut) (x : Frac) (low : j < length cs) (is : c ≡ slice_index_or cs j c) (here : value_at point j ≡ ratio x) where
  inside : j < Of.width (cut I cs)
  inside = let e = length-map cs cut_variable in omega arith

  -- what is so of the variable and the value that were read is so in the case
  held : (P : Of.Variable → Ratio → Type 0) → P (cut_variable c) (ratio x) → P (Of.variable_at (cut I cs) j) (value_at point j)
  held P p =
      let own : cut_variable c ≡ Of.variable_at (cut I cs) j = ap cut_variable is ∙ sym (get_or-map cut_variable cs j c Of.no_variable low) in
      subst (λ v. P v (value_at point j)) own (subst (P (cut_variable c)) (sym here) p)

  pub open_at : (by : Division) → NeedsDivision (cut_variable c) (ratio x) by → AreMetBelow (cut I cs) point j → IsOpenAt (cut I cs) point j by
  open_at (Split k) d below =
      let den : x.denom ≢ 1 = λ e. d.2 (over_one_whole (ratio x) e) in
      let two : 2 ≤ x.denom = let a = x.above in omega (arith, den) in
      let within = floor_within (ratio x) k two x.numer_within d.3 in
      let h = held (λ v y. NeedsDivision v y (Split k)) d in
      record {
        branch = record { variable = inside; whole = h.1; low = within.0; high = within.1 };
        below = below;
        either = h.0;
        other = h.2;
        floor = h.3;
      }
  open_at Zero d below =
      let h = held (λ v y. NeedsDivision v y Zero) d in
      record {
        branch = record { variable = inside; further = some_where (Of.variable_at (cut I cs) j).unless_zero (λ r. IsZeroOr r (value_at point j)) h };
        below = below;
        other = h;
      }

  pub met_more : IsMet (cut_variable c) (ratio x) → AreMetBelow (cut I cs) point j → AreMetBelow (cut I cs) point (j + 1)
  met_more own below = below_more (λ i. IsMet (Of.variable_at (cut I cs) i) (value_at point i)) j below (held (λ v y. IsMet v y) own)

  pub fractional_at : IsTrue c.var.whole × (IsWhole (ratio x) → ⊥) × (x.denom ≢ 1) → IsWholeBelow (cut I cs) point j → IsFractional (cut I cs) point j
  fractional_at (must, isnt, den) below = record {
    inside = inside;
    whole = held (λ v y. IsTrue v.whole) must;
    below = below;
    other = held (λ v y. IsWhole y → ⊥) isnt;
  }

  pub whole_more : (IsTrue c.var.whole → IsWhole (ratio x)) → IsWholeBelow (cut I cs) point j → IsWholeBelow (cut I cs) point (j + 1)
  whole_more own below = below_more (λ i. IsTrue (Of.variable_at (cut I cs) i).whole → IsWhole (value_at point i)) j below (held (λ v y. IsTrue v.whole → IsWhole y) own)

-- what an open variable says of its case
module _ (I : Of.Instance) (x : List Ratio) (j : ℕ) where
  pub open_inside : (by : Division) → IsOpenAt I x j by → j < Of.width I
  open_inside (Split k) opened = opened.branch.variable
  open_inside Zero opened = opened.branch.variable

  pub open_next : (by : Division) → IsOpenAt I x j by → HasNext by
  open_next (Split k) opened = (opened.branch.low, opened.branch.high)
  open_next Zero opened = tt

  pub open_unmet : (by : Division) → IsOpenAt I x j by → AreMetBelow I x (Of.width I) → ⊥
  open_unmet (Split k) opened met = let m = met j opened.branch.variable in opened.other (m.whole opened.branch.whole)
  open_unmet Zero opened met = let m = met j opened.branch.variable in opened.other m.either
