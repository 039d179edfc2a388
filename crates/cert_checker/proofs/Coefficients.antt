-- The coefficients of columns: of a variable, and of a row by its entries.
use Rattle.std.proofs.Common.{◌≡◌, ℕ, ◌-◌, ◌<◌, ◌≤◌, pos, true, false, cond, nat_eq, nat_lt, Option, List, length, slice_set, arith, refl, sym, ◌∙◌, ap, subst}
use Rattle.std.specs.List.{All}
use Rattle.std.proofs.lemmas.Bool.{eqb-true, eq-eqb, ne_eqb, lt-ltb, le-ltb}
use Rattle.std.proofs.lemmas.List.Elements.{All-filter, filter_passes}
use Rattle.rational.specs.Ratio.{Ratio, whole}
use Rattle.fraction.specs.declared.frac.Frac.{Frac}
use Rattle.fraction.specs.declared.ends.Entry.{Entry}
use Rattle.evidence.specs.Sums.{none}
use Rattle.evidence.specs.Instance.{Instance, width, entry_at, coefficient_at}
use Rattle.evidence.proofs.Columns.{by_lt}
use Rattle.instance.specs.Parts.{Parts, IsValid}
use Rattle.instance.proofs.RowSums.{row_of}
use Rattle.case_tree.specs.declared.cuts.Cut.{Cut}
use Rattle.case_tree.specs.Cuts.{cut}
use Rattle.cert_checker.specs.Slots.{slot_at, IsStep}
use Rattle.cert_checker.proofs.Additions.{set_apart, nothing}
use Rattle.cert_checker.proofs.Widths.{width_is}

pub of_one_row : (es row : List Entry) (i : ℕ) → row ≡ row_of es i → All (λ e. e.row ≡ i) row
of_one_row es row i is = subst (λ l. All (λ e. e.row ≡ i) l) (sym is) (λ k d h. eqb-true _ i (filter_passes (λ e. nat_eq e.row i) es k d h))

pub within_columns : (p : Parts) (valid : IsValid p) (row : List Entry) (i n : ℕ) → row ≡ row_of p.entries i → n ≡ length p.vars → All (λ e. e.col < n) row
within_columns p valid row i n is count =
    subst (λ l. All (λ e. e.col < n) l) (sym is) (All-filter (λ e. nat_eq e.row i) (λ e. e.col < n) p.entries (λ k d h. let q = (valid.inside k d h).col in omega arith))

module _ (I : Instance) (cs : List Cut) where
  variable_coefficient : (k j : ℕ) → k < length cs → coefficient_at (cut I cs) k j ≡ cond (nat_eq k j) (whole (pos 1)) none
  variable_coefficient k j h = let w = width_is I cs in let t : nat_lt k (width (cut I cs)) ≡ true = lt-ltb k (width (cut I cs)) (omega arith) in rw t refl

  row_coefficient : (k j : ℕ) → length cs ≤ k → coefficient_at (cut I cs) k j ≡ entry_at I.entries (k - length cs) j
  row_coefficient k j h =
      let w = width_is I cs in
      let t : nat_lt k (width (cut I cs)) ≡ false = le-ltb k (width (cut I cs)) (omega arith) in
      let e : coefficient_at (cut I cs) k j ≡ entry_at I.entries (k - width (cut I cs)) j = rw t refl in
      e ∙ ap (λ n. entry_at I.entries (k - n) j) w

  -- a variable's column is added
  pub variable_added : (old new : List (Option Frac)) (k : ℕ) (by : Ratio) → k < length cs → IsStep (slot_at old k) by (whole (pos 1)) (slot_at new k) → new ≡ slice_set old k (slot_at new k) → (j : ℕ) → IsStep (slot_at old j) by (coefficient_at (cut I cs) k j) (slot_at new j)
  variable_added old new k by h here is j =
      by_lt j k (λ l. apart (λ e. omega arith)) (λ l. by_lt k j (λ m. apart (λ e. omega arith)) (λ m. let e : k ≡ j = omega arith in same e))
    where
      apart : (k ≡ j → ⊥) → IsStep (slot_at old j) by (coefficient_at (cut I cs) k j) (slot_at new j)
      apart ne =
          let e : coefficient_at (cut I cs) k j ≡ none = variable_coefficient k j h ∙ ap (λ b. cond b (whole (pos 1)) none) (ne_eqb k j ne) in
          let f : slot_at new j ≡ slot_at old j = ap (λ l. slot_at l j) is ∙ set_apart old k j (slot_at new k) (λ q. ne (sym q)) in
          subst (λ w. IsStep (slot_at old j) by w (slot_at new j)) (sym e) (subst (λ w. IsStep (slot_at old j) by none w) (sym f) (nothing (slot_at old j) by))

      same : k ≡ j → IsStep (slot_at old j) by (coefficient_at (cut I cs) k j) (slot_at new j)
      same q =
          let e : coefficient_at (cut I cs) k k ≡ whole (pos 1) = variable_coefficient k k h ∙ ap (λ b. cond b (whole (pos 1)) none) (eq-eqb k k refl) in
          subst (λ j. IsStep (slot_at old j) by (coefficient_at (cut I cs) k j) (slot_at new j)) q
          (subst (λ w. IsStep (slot_at old k) by w (slot_at new k)) (sym e) here)

  -- a row is added
  pub row_added : (old new : List (Option Frac)) (k : ℕ) (by : Ratio) → length cs ≤ k → (j : ℕ) → IsStep (slot_at old j) by (entry_at I.entries (k - length cs) j) (slot_at new j) → IsStep (slot_at old j) by (coefficient_at (cut I cs) k j) (slot_at new j)
  row_added old new k by h j step = subst (λ w. IsStep (slot_at old j) by w (slot_at new j)) (sym (row_coefficient k j h)) step
