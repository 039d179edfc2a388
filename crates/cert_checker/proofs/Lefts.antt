-- What the rows leave of a wanted form at each variable, as it is made, and the sums of their ends.
use Rattle.std.proofs.Common.{◌≡◌, ◌∙◌, ℕ, ◌+◌, ◌<◌, ◌≤◌, pos, slice_index_or, Option, None, Some, IsSome, List, length, arith, refl, sym, subst}
use Rattle.std.specs.List.{All}
use Rattle.std.proofs.lemmas.List.{length-map}
use Rattle.std.proofs.lemmas.List.Elements.{All-map}
use Rattle.rational.specs.Ratio.{Ratio, sum, product, negative, IsSame, IsNumber}
use Rattle.rational.specs.Width.{SumFits}
use Rattle.fraction.specs.Frac.{ratio}
use Rattle.fraction.specs.declared.frac.Frac.{Frac}
use Rattle.evidence.specs.Sums.{none, total}
use Rattle.evidence.specs.Instance.{Instance, IsInstance, width, column_at}
use Rattle.evidence.specs.Cases.{Multiplier, multiplier_at, end_by, end_of, or_none, form, low_sum, left_at, completed, AreLegal, AreOfRows}
use Rattle.evidence.specs.Width.{LowFits}
use Rattle.evidence.proofs.Numbers.{◌≈◌, ≈-refl, ≈-sym, ◌⊙◌, sum-≈, product-number}
use Rattle.evidence.proofs.Totals.{total-number}
use Rattle.evidence.proofs.Columns.{by_lt, none-number, column-numbers}
use Rattle.evidence.proofs.UniqueRows.{end_by-number}
use Rattle.evidence.proofs.Inverses.{negative-≈}
use Rattle.evidence.proofs.Fits.{sums_same}
use Rattle.evidence.proofs.Completed.{left-number}
use Rattle.evidence.proofs.LeftOut.{same_end, none_same}
use Rattle.certificate.specs.declared.lists.Mult.{Mult}
use Rattle.certificate.specs.Meanings.{multiplier, multipliers}
use Rattle.cert_checker.specs.Grids.{IsLow}
use Rattle.cert_checker.specs.Lefts.{own, LeftFits, HasOwnEnd}
use Rattle.cert_checker.specs.Slots.{IsStep, HoldsTotal, HoldsSum, HoldsLow}
use Rattle.cert_checker.proofs.ColumnSums.{form-number, fits_form, is_form, total_next}
use Rattle.cert_checker.proofs.RowLeaves.{to_each, rows_after, step_alike, low_alike, low_same, all_fit_of, all_fit_from, all_same}

-- multipliers of which the first is a row's, and of which there is none
pub rows_all : (I : Instance) (ms : List Multiplier) → AreLegal I ms → (0 < length ms → width I ≤ (multiplier_at ms 0).column) → AreOfRows I ms
rows_all I ms l h = rows_after I ms (width I) (to_each I ms (width I) l h)

pub rows_none : (I : Instance) (ms : List Mult) → length ms ≡ 0 → AreOfRows I (multipliers ms)
rows_none I ms e = λ k d h. absurd (let n = length-map ms multiplier in omega arith)

pub some_mults : (I : Instance) (ms : List Mult) → (AreOfRows I (multipliers ms) → ⊥) → 0 < length ms
some_mults I ms named = by_lt 0 (length ms) (λ h. h) (λ low. absurd (named (rows_none I ms (omega arith))))

-- the difference of the wanted sum and the rows'
module _ (I : Instance) (good : IsInstance I) (t : ℕ → Ratio) (ms : List Mult) (j : ℕ) (slot : Option Frac) (f w : Frac) (e : slot ≡ Some f) (h : HoldsSum I (multipliers ms) j (length ms) slot) (ew : ratio w ≡ t j) where
  turned : negative (ratio f) ≈ negative (form I (multipliers ms) j)
  turned = negative-≈ (record { left = f.above; right = form-number I good ms j; is = is_form I good ms j slot f e h })

  pub left_fits : SumFits (ratio w) (negative (ratio f)) → LeftFits I t (multipliers ms) j
  left_fits s =
      let n = turned in
      record {
        rows = fits_form I good ms j slot f e h;
        left = subst (λ x. SumFits x (negative (form I (multipliers ms) j))) ew (sums_same (ratio w) (negative (ratio f)) (ratio w) (negative (form I (multipliers ms) j)) w.above n.right refl n.is s);
      }

  pub left_unfit : (SumFits (ratio w) (negative (ratio f)) → ⊥) → LeftFits I t (multipliers ms) j → ⊥
  left_unfit wide s =
      let n = turned in
      let back = ≈-sym turned in
      wide (sums_same (ratio w) (negative (form I (multipliers ms) j)) (ratio w) (negative (ratio f)) w.above n.left refl back.is (subst (λ x. SumFits x (negative (form I (multipliers ms) j))) (sym ew) s.left))

  pub left_is : (l : Frac) → IsSame (ratio l) (sum (ratio w) (negative (ratio f))) → IsSame (ratio l) (left_at I t (multipliers ms) j)
  left_is l is =
      let both = sum-≈ (≈-refl {x = ratio w} w.above) turned in
      let here : ratio l ≈ sum (ratio w) (negative (ratio f)) = record { left = l.above; right = both.left; is = is } in
      let all = here ⊙ both in
      subst (λ x. IsSame (ratio l) (sum x (negative (form I (multipliers ms) j)))) ew all.is

pub numbers_of : (ms : List Mult) → All (λ m. IsNumber m.by) (multipliers ms)
numbers_of ms = All-map (λ m. IsNumber m.by) multiplier ms (λ k d h. (slice_index_or ms k d).value.above)

-- what is left of a variable, and its end
module _ (I : Instance) (good : IsInstance I) (ms : List Multiplier) (pm : All (λ m. IsNumber m.by) ms) (t : ℕ → Ratio) (pt : (j : ℕ) → IsNumber (t j)) where
  abbrev left : ℕ → Ratio
  left n = left_at I t ms n

  abbrev end : ℕ → Ratio
  end n = or_none (end_of I (own I t ms n))

  left_number : (n : ℕ) → IsNumber (left n)
  left_number n = left-number I good t pt ms pm n

  end_number : (n : ℕ) → IsNumber (end n)
  end_number n = end_by-number (left n).num (column_at I n) (column-numbers I good n)

  module _ (j : ℕ) (l : Frac) (is : IsSame (ratio l) (left_at I t ms j)) (o : Option Ratio) (e : o ≡ end_by l.numer (column_at I j)) where
    near_left : ratio l ≈ left j
    near_left = record { left = l.above; right = left_number j; is = is }

    end_is : o ≡ end_of I (own I t ms j)
    end_is = let n = near_left in e ∙ same_end l.numer (left j).num l.denom (left j).den (column_at I j) n.left n.right n.is

    pub finite_to : ((l.numer ≡ pos 0 → ⊥) → IsSome o) → HasOwnEnd I t ms j
    finite_to h = λ some. subst IsSome end_is (h (λ zero. some (none_same (ratio l) (left j) near_left zero)))

    pub finite_from : HasOwnEnd I t ms j → (l.numer ≡ pos 0 → ⊥) → IsSome o
    finite_from h = λ some. subst IsSome (sym end_is) (h (λ zero. some (none_same (left j) (ratio l) (≈-sym near_left) zero)))

    pub added : (s : Ratio) → IsNumber s → (old new : Option Frac) → HoldsTotal s j left end old → IsStep old (ratio l) (or_none o) new → HoldsTotal s (j + 1) left end new
    added s ps old new h step =
        total_next s left end ps left_number end_number j old new h
        (subst (λ x. IsStep old (left j) (or_none x) new) end_is (step_alike old new (ratio l) (left j) (or_none o) near_left (subst (λ x. IsNumber (or_none x)) (sym end_is) (end_number j)) step))

  -- the variables' sum, and then the rows'
  pub completed-number : (s : Ratio) → IsNumber s → IsNumber (low_sum I s (completed I t ms))
  completed-number s p = let e = all_same I good t pt ms pm s p in e.right

  abbrev so_far : Ratio → Ratio
  so_far s = total s (width I) (λ k. product (left k) (end k))

  near_so_far : (s : Ratio) → IsNumber s → (f : Frac) → IsSame (ratio f) (so_far s) → ratio f ≈ so_far s
  near_so_far s ps f is = record { left = f.above; right = total-number s (width I) (λ k. product (left k) (end k)) ps (λ k. product-number (left k) (end k) (left_number k) (end_number k)); is = is }

  pub joined : (s : Ratio) → IsNumber s → (low result : Option Frac) → HoldsTotal s (width I) left end low → ((f : Frac) → low ≡ Some f → HoldsLow I (ratio f) ms result) → (low ≡ None → result ≡ None) → HoldsLow I s (completed I t ms) result
  joined s ps None result unfit some lacks = subst (λ r. HoldsLow I s (completed I t ms) r) (sym (lacks refl)) (λ f. unfit (all_fit_of I good t pt ms pm s ps f).0)
  joined s ps (Some g) None h some lacks = let n = some g refl in λ f. n (low_alike I good (so_far s) (ratio g) ms pm (≈-sym (near_so_far s ps g h.1)) (all_fit_of I good t pt ms pm s ps f).1)
  joined s ps (Some g) (Some r) h some lacks =
      let n = some g refl in
      let near = near_so_far s ps g h.1 in
      let same = low_same I good (ratio g) (so_far s) ms pm near in
      let whole : ratio r ≈ low_sum I (ratio g) ms = record { left = r.above; right = same.left; is = n.1 } in
      let all = whole ⊙ same ⊙ all_same I good t pt ms pm s ps in
      (all_fit_from I good t pt ms pm s ps h.0 (low_alike I good (ratio g) (so_far s) ms pm near n.0), all.is)

  pub low_of : (s : Ratio) → s ≡ none → (r : Frac) → HoldsLow I s (completed I t ms) (Some r) → IsLow I (completed I t ms) (ratio r)
  low_of s e r h = record {
    number = completed-number none none-number;
    fits = subst (λ x. LowFits I x (completed I t ms)) e h.0;
    is = subst (λ x. IsSame (ratio r) (low_sum I x (completed I t ms))) e h.1;
  }
