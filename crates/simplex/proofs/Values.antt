-- The values in memory are those of the definitions.
use Rattle.std.proofs.Common.{◌≡◌, ℕ, ◌<◌, true, List, [], ◌∷◌, length, zero, suc, IfSome, sym, ◌∙◌, ap, subst, arith}
use Rattle.std.proofs.Math.ListN.{get_or-eq_default}
use Rattle.std.proofs.lemmas.List.{length-map}
use Rattle.rational.specs.Ratio.{Ratio, IsNumber, IsSame}
use Rattle.fraction.specs.Frac.{ratio, ratios}
use Rattle.fraction.specs.declared.frac.Frac.{Frac}
use Rattle.fraction.specs.declared.ends.End.{End}
use Rattle.fraction.specs.declared.ends.End.TheVariants.{NegInf, At, Inf}
use Rattle.evidence.specs.Sums.{none}
use Rattle.evidence.specs.Instance.{Range, Instance, HasNumbers, column_at}
use Rattle.evidence.proofs.Numbers.{≈-from}
use Rattle.instance.specs.Program.{limit}
use Rattle.bases.specs.Dictionary.{value_by}
use Rattle.bases.specs.Program.{goal_column, columns}
use Rattle.bases.specs.Pivot.{ValueFits}
use Rattle.simplex_rules.specs.declared.columns.Status.{Status}
use Rattle.simplex_rules.specs.Statuses.{status_at, basic_in, rest_at, resting, HasValues}
use Rattle.simplex_rules.specs.Widths.{ValuesFit}
use Rattle.simplex_rules.proofs.Facts.{rest-number}
use Rattle.simplex.specs.declared.ends.Ends.{Ends}
use Rattle.dictionary.specs.declared.dict.Dict.{Dict}
use Rattle.dictionary.specs.declared.places.Places.{Places}
use Rattle.dictionary.specs.Dict.{columns_of, entry_of, place_values, Rest}
use Rattle.simplex.specs.Cuts.{ranges_in, AreEndsOf}
use Rattle.simplex.specs.Tables.{AreStatuses, HasSizeOf, values_in}
use Rattle.simplex.specs.Values.{IsColumnValue, AreResting}
use Rattle.simplex.proofs.Slots.{value_reduced}

limit-number : (e : End) (P : Ratio → Type 0) → ((x : Frac) → P (ratio x)) → IfSome (limit e) P
limit-number NegInf P f = tt
limit-number (At x) P f = f x
limit-number Inf P f = tt

pub ranges-numbers : (es : List Ends) (c : ℕ) → HasNumbers (ranges_in es c)
ranges-numbers [] c = (tt, tt)
ranges-numbers (e ∷ es) zero = (limit-number e.lb IsNumber (λ x. x.above), limit-number e.ub IsNumber (λ x. x.above))
ranges-numbers (e ∷ es) (suc c) = ranges-numbers es c

module _ {L : _} {G : _} (d : Dict L G) (ss : List Status) (s : AreStatuses d ss) (es : List Ends) (I : Instance) (e : AreEndsOf I es) (size : HasSizeOf I d) (p : Places) (r : AreResting (ranges_in es) ss (place_values p)) where
  count : columns_of d ≡ columns I
  count = let w = size.width in let h = size.height in omega arith

  -- the places have the values of the columns that aren't basic
  pub rest_is : Rest d p (resting I ss)
  rest_is = record {
    numbers = λ c. rest-number (column_at I c) (status_at ss c) (subst HasNumbers (sym (e.is c)) (ranges-numbers es c));
    values = λ c h b. ap (λ (z : Range). rest_at z (status_at ss c)) (e.is c) ∙ sym (r c (let n = s.count in omega arith));
  }

  below : (c : ℕ) → c < goal_column I → c < length ss
  below c h = let n = s.count in let w = size.width in let k = size.height in omega arith

  module _ (vs : List Frac) (len : length vs ≡ length ss) (known : (c : ℕ) → c < length ss → IsColumnValue d (resting I ss) (basic_in ss c) c (values_in vs c)) where
    pub values_found : HasValues I ss (entry_of d) (values_in vs)
    values_found = record {
      reduced = value_reduced vs;
      past = λ c h. get_or-eq_default (ratios vs) none (let n = s.count in let w = size.width in let k = size.height in let m = length-map vs ratio in omega arith);
      nonbasic = λ c h f.
          let k = known c (below c h) in
          let n = value_reduced vs c in
          let g = ≈-from n.0 (k.rests f) in g.is;
      basic = λ b h f.
          let k = known b (below b h) in
          subst (λ j. IsSame (values_in vs b) (value_by j (entry_of d b) (resting I ss))) count (k.sum f);
    }

    pub fits_found : ValuesFit I ss (entry_of d)
    fits_found = λ b h f. let k = known b (below b h) in subst (λ j. ValueFits j (entry_of d b) (resting I ss)) count (k.fits f)

  pub wide_found : (b : ℕ) × (b < length ss) × (basic_in ss b ≡ true) × (ValueFits (columns_of d) (entry_of d b) (resting I ss) → ⊥) → ValuesFit I ss (entry_of d) → ⊥
  wide_found (b, h, f, w) v =
      let l : b < goal_column I = let n = s.count in let p = size.width in let k = size.height in omega arith in
      w (subst (λ j. ValueFits j (entry_of d b) (resting I ss)) (sym count) (v b l f))
