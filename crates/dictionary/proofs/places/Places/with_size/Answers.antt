use Rattle.std.proofs.Common.{◌≡◌, ℕ, ◌∙◌, List, length, replicate, not, nat_eq, arith, refl, sym, ap, subst}
use Rattle.std.specs.Prelude.{unsigned_abs}
use Rattle.std.proofs.Math.ListN.{get_or-eq_default}
use Rattle.std.proofs.lemmas.List.{length-replicate, length-map, get_or-map, get_or-replicate}
use Rattle.rational.specs.Ratio.{Ratio}
use Rattle.fraction.specs.Frac.{ratio, ratios}
use Rattle.fraction.specs.declared.frac.Frac.{Frac}
use Rattle.evidence.specs.Sums.{none}
use Rattle.evidence.specs.Point.{value_at}
use Rattle.evidence.proofs.Columns.{by_lt}
use Rattle.dictionary.specs.Dict.{count_of, place_values}
use Rattle.dictionary.proofs.places.Places.with_size.Goals as goal

repeated : (n : ℕ) (x : Frac) (xs : List Frac) → xs ≡ replicate n x → ratio x ≡ none → (k : ℕ) → value_at (ratios xs) k ≡ none
repeated n x xs e z k = by_lt k n
    (λ l. subst (λ ys. value_at (ratios ys) k ≡ none) (sym e) (get_or-map ratio (replicate n x) k x none (omega (arith, length-replicate n x)) ∙ ap ratio (get_or-replicate n k x x l) ∙ z))
    (λ l. get_or-eq_default (ratios xs) none (let a = ap length e in omega (arith, length-map xs ratio, length-replicate n x)))

pub invariant_of-result : goal.invariant_of-result
invariant_of-result c =
    let zeros = repeated c.args.count _ c.in_ok-values.values.items (c.in_ok-values.ensures.items_if_clones_equal (λ y e. e)) refl in
    record {
      few = let v = c.in_ok-values.values in let e = v.ok.0 in let n = c.in_ok-values.ensures.len in let s = c.in_ok-marks.ensures.size in omega arith;
      marked = λ j. c.in_ok-marks.ensures.none j ∙ ap (λ (x : Ratio). not (nat_eq (unsigned_abs x.num) 0)) (sym (zeros j));
    }

pub returns-clause-count : goal.returns-clause-count
unfolding count_of
returns-clause-count c = let v = c.in_ok-values.values in sym v.ok.0 ∙ c.in_ok-values.ensures.len

pub returns-clause-zeros : goal.returns-clause-zeros
unfolding place_values
returns-clause-zeros c k l = repeated c.args.count _ c.in_ok-values.values.items (c.in_ok-values.ensures.items_if_clones_equal (λ y e. e)) refl k
