-- Rows whose coefficients are whole at whole variables, and 0 at the others.
use Rattle.std.proofs.Common.{◌≡◌, ℕ, ◌<◌, ◌↔◌, ◌⊎◌, inl, inr, pos, IsTrue, List, [], ◌∷◌, length, arith, refl, sym, subst}
use Rattle.std.specs.List.{All}
use Rattle.std.proofs.lemmas.List.{get_or-map}
use Rattle.rational.specs.Ratio.{Ratio, IsSame}
use Rattle.fraction.specs.Frac.{ratio}
use Rattle.fraction.specs.declared.ends.Entry.{Entry}
use Rattle.evidence.specs.Sums.{none, IsWhole}
use Rattle.evidence.specs.Instance.{Variable, Instance, no_variable, width, variable_at, entry_at}
use Rattle.evidence.specs.Cases.{IsWholeRow}
use Rattle.evidence.proofs.Columns.{by_bool}
use Rattle.instance.specs.Parts.{IsAscending}
use Rattle.instance.specs.Program.{entries}
use Rattle.case_tree.specs.declared.cuts.Cut.{Cut}
use Rattle.case_tree.specs.Cuts.{cut, cut_at, cut_variable, no_cut}
use Rattle.cert_checker.specs.Columns.{MayStand}
use Rattle.cert_checker.proofs.Widths.{width_is}
use Rattle.cert_checker.proofs.Entries.{at, found, columns_rise, off_row, on_row}

pub none_may : (c : Cut) → MayStand c none
none_may c = (record { number = pos 0; same = refl }, λ n. refl)

module _ (I : Instance) (cs : List Cut) (i : ℕ) (f : ℕ → Ratio) (e : (j : ℕ) → j < length cs → entry_at I.entries i j ≡ f j) where
  variable_is : (j : ℕ) → j < length cs → variable_at (cut I cs) j ≡ cut_variable (cut_at cs j)
  variable_is j h = get_or-map cut_variable cs j no_cut no_variable h

  -- each coefficient may stand in such a row
  pub whole_row : ((j : ℕ) → j < length cs → MayStand (cut_at cs j) (f j)) ↔ IsWholeRow (cut I cs) i
  whole_row = (to, from)
    where
      low : (j : ℕ) → j < width (cut I cs) → j < length cs
      low j h = let w = width_is I cs in omega arith

      up : (j : ℕ) → j < length cs → j < width (cut I cs)
      up j h = let w = width_is I cs in omega arith

      to : ((j : ℕ) → j < length cs → MayStand (cut_at cs j) (f j)) → IsWholeRow (cut I cs) i
      to may = record {
        entries = λ j h whole. let m = may j (low j h) in subst IsWhole (sym (e j (low j h))) m.0;
        others = λ j h differs.
            let m = may j (low j h) in
            subst (λ x. IsSame x none) (sym (e j (low j h))) (m.1 (λ t. differs (subst (λ (v : Variable). IsTrue v.whole) (sym (variable_is j (low j h))) t)));
      }

      from : IsWholeRow (cut I cs) i → (j : ℕ) → j < length cs → MayStand (cut_at cs j) (f j)
      from w j h = (
        by_bool (cut_at cs j).var.whole
            (λ t. subst IsWhole (e j h) (w.entries j (up j h) (subst (λ (v : Variable). IsTrue v.whole) (sym (variable_is j h)) t)))
            (λ t. record { number = pos 0; same = zero (λ q. cc) }),
        zero,
      )
        where
          zero : (IsTrue (cut_at cs j).var.whole → ⊥) → IsSame (f j) none
          zero differs = subst (λ x. IsSame x none) (e j h) (w.others j (up j h) (λ t. differs (subst (λ (v : Variable). IsTrue v.whole) (variable_is j h) t)))

-- the entries of a row
module _ (row : List Entry) (i : ℕ) (d : Entry) (cs : List Cut) (up : IsAscending row) (on : All (λ e. e.row ≡ i) row) (inside : All (λ e. e.col < length cs) row) where
  all_at : ((s : ℕ) → s < length row → MayStand (cut_at cs (at row s d).col) (ratio (at row s d).value)) → (j : ℕ) → MayStand (cut_at cs j) (entry_at (entries row) i j)
  all_at may j = here (found row d j (length row))
    where
      here : ((k : ℕ) × (k < length row) × ((at row k d).col ≡ j)) ⊎ ((k : ℕ) → k < length row → (at row k d).col ≡ j → ⊥) → MayStand (cut_at cs j) (entry_at (entries row) i j)
      here (inl (k, h, e)) =
          subst (λ j. MayStand (cut_at cs j) (entry_at (entries row) i j)) e
          (subst (MayStand (cut_at cs (at row k d).col)) (sym (on_row row i d on (columns_rise row i d up on) k h)) (may k h))
      here (inr off) = subst (MayStand (cut_at cs j)) (sym (off_row row i j d off)) (none_may (cut_at cs j))

  pub one_may : ((j : ℕ) → j < length cs → MayStand (cut_at cs j) (entry_at (entries row) i j)) → (k : ℕ) → k < length row → MayStand (cut_at cs (at row k d).col) (ratio (at row k d).value)
  one_may may k h = subst (MayStand (cut_at cs (at row k d).col)) (on_row row i d on (columns_rise row i d up on) k h) (may (at row k d).col (inside k d h))

pub each_may : (row : List Entry) (i : ℕ) (cs : List Cut) → IsAscending row → All (λ e. e.row ≡ i) row → All (λ e. e.col < length cs) row → ((s : ℕ) (d : Entry) → s < length row → MayStand (cut_at cs (at row s d).col) (ratio (at row s d).value)) → (j : ℕ) → MayStand (cut_at cs j) (entry_at (entries row) i j)
each_may [] i cs up on inside may j = none_may (cut_at cs j)
each_may (x ∷ xs) i cs up on inside may j = all_at (x ∷ xs) i x cs up on inside (λ s h. may s x h) j
