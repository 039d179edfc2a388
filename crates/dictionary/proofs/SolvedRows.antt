-- The pivot's own row in common form, solved.
use Rattle.std.proofs.Common.{◌≡◌, ◌≢◌, ℕ, ◌<◌, ◌≤◌, ℤ, pos, neg_ℤ, true, arith, sym, ◌∙◌, ap, ap₂, subst}
use Rattle.std.specs.Prelude.{unsigned_abs}
use Rattle.rational.specs.Ratio.{Ratio, whole, negative, quotient, IsSame}
use Rattle.rational.specs.Width.{most, ReducedFits}
use Rattle.dictionary.specs.declared.row.Row.{Row}
use Rattle.dictionary.specs.Lowest.{lowest}
use Rattle.dictionary.specs.Numbers.{turned}
use Rattle.dictionary.specs.Rows.{numbers_of, numer_at, IsRow, IsRowDivided, IsSolvedFor, SolutionFits}
use Rattle.dictionary.proofs.RowForms.{sized_above, common_number, lowest_none}
use Rattle.dictionary.proofs.SolvedNumbers.{turned_none, own_solved, other_solved, quotient_fit, lead_fit}

module _ {L : _} {G : _} (row less new : Row L G) (basic e : ℕ) (common : row.is_common ≡ true) (denom : less.denom ≡ row.denom) (gone : numer_at less e ≡ pos 0) (rest : (c : ℕ) → (c ≡ e → ⊥) → numer_at less c ≡ numer_at row c) (apart : basic ≢ e) (stands : numer_at row e ≡ pos 0 → ⊥) (divided : IsRowDivided less basic (numer_at row e) new) where
  abbrev pivot : ℤ
  pivot = numer_at row e

  above : 0 < unsigned_abs row.denom
  above = sized_above row.denom row.above

  over_pivot : (c : ℕ) → numbers_of new c ≡ lowest (numer_at new c) (unsigned_abs pivot)
  over_pivot c = common_number new divided.form c ∙ ap (λ d. lowest (numer_at new c) d) divided.denom

  said : (c : ℕ) → numbers_of row c ≡ lowest (numer_at row c) (unsigned_abs row.denom)
  said c = common_number row common c

  pub row_solved : IsSolvedFor (numbers_of row) basic e (numbers_of new)
  row_solved = record {
    gone = over_pivot e ∙ ap (λ z. lowest z (unsigned_abs pivot)) (divided.others e (λ i. apart (sym i)) ∙ ap (λ z. neg_ℤ (turned pivot z)) gone ∙ turned_none pivot) ∙ lowest_none (unsigned_abs pivot) (subst (λ d. 0 < d) divided.denom (sized_above new.denom new.above));
    own = subst (λ (x : Ratio). IsSame x (quotient (whole (pos 1)) (numbers_of row e))) (sym (over_pivot basic ∙ ap (λ z. lowest z (unsigned_abs pivot)) (divided.own ∙ ap (λ (d : ℤ). turned pivot (pos (unsigned_abs d))) denom)))
        (subst (λ (x : Ratio). IsSame (lowest (turned pivot (pos (unsigned_abs row.denom))) (unsigned_abs pivot)) (quotient (whole (pos 1)) x)) (sym (said e)) (own_solved pivot (unsigned_abs row.denom) above stands));
    others = λ c d n. subst (λ (x : Ratio). IsSame x (negative (quotient (numbers_of row c) (numbers_of row e)))) (sym (over_pivot c ∙ ap (λ z. lowest z (unsigned_abs pivot)) (divided.others c n ∙ ap (λ z. neg_ℤ (turned pivot z)) (rest c d))))
        (subst (λ (x : Ratio). IsSame (lowest (neg_ℤ (turned pivot (numer_at row c))) (unsigned_abs pivot)) (negative x)) (sym (ap₂ (λ (x y : Ratio). quotient x y) (said c) (said e))) (other_solved pivot (unsigned_abs row.denom) above stands (numer_at row c)));
  }

  pub row_fits : (k n : ℕ) → IsRow k n row → unsigned_abs row.denom ≤ most → SolutionFits (numbers_of row) e
  row_fits k n is within =
      let small = is.small in
      let size : (c : ℕ) → unsigned_abs (numer_at row c) ≤ most = λ c. let l = is.within c in omega arith in
      record {
        lead = subst (λ (x : Ratio). ReducedFits (quotient (whole (pos 1)) x)) (sym (said e)) (lead_fit pivot (unsigned_abs row.denom) above stands within (size e));
        terms = λ c. subst (λ (x : Ratio). ReducedFits x) (sym (ap₂ (λ (x y : Ratio). quotient x y) (said c) (said e))) (quotient_fit pivot (unsigned_abs row.denom) above stands (numer_at row c) (size c) (size e));
      }
