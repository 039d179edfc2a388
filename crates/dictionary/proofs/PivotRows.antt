-- A pivot that takes its own row out of the table.
use Rattle.std.proofs.Common.{◌≡◌, ℕ, zero, suc, ◌+◌, ◌-◌, ◌*◌, ◌<◌, ◌≤◌, ℤ, pos, negsuc, Bool, cond, not, nat_eq, List, [], ◌∷◌, length, get_or, set, arith, refl, sym, ◌∙◌, ap, ap₂, subst}
use Rattle.std.specs.Prelude.{unsigned_abs}
use Rattle.std.proofs.lemmas.Int.{ints}
use Rattle.rational.specs.Ratio.{Ratio, whole, negative, quotient}
use Rattle.rational.specs.Width.{IsReduced}
use Rattle.rational.proofs.ReducedForms.{same_reduced}
use Rattle.rational.proofs.Scaling.{IsSame-trans}
use Rattle.evidence.specs.Sums.{none}
use Rattle.evidence.proofs.Columns.{by_eq}
use Rattle.evidence.proofs.Fits.{no_factor}
use Rattle.bases.specs.Dictionary.{Entries}
use Rattle.dictionary.specs.declared.row.Row.{Row}
use Rattle.dictionary.specs.Numbers.{has_number, HasNumber}
use Rattle.dictionary.specs.Rows.{numbers_of, numbers_in, IsRow, AreRows, IsSolvedFor, SolutionFits, IsReplacedBy, ReplacementFits, IsTableTurned, TableFits, replacement_cost, replacements_cost}
use Rattle.dictionary.specs.Steps.{unless_zero, nonzeros, count_all}
use Rattle.dictionary.proofs.PutRows.{is_number}
use Rattle.dictionary.proofs.Nonzeros.{unless_not, left_out, left_other, taken_out, all_most}

-- the numbers of a table with another row in one's place
pub set_numbers : {L : _} {G : _} (rows : List (Row L G)) (p : ℕ) (row : Row L G) → p < length rows → numbers_in (set rows p row) p ≡ numbers_of row
set_numbers [] p row l = absurd (omega arith)
set_numbers (x ∷ xs) zero row l = refl
set_numbers (x ∷ xs) (suc p) row l = set_numbers xs p row (omega arith)

pub other_numbers : {L : _} {G : _} (rows : List (Row L G)) (p r : ℕ) (row : Row L G) → (r ≡ p → ⊥) → numbers_in (set rows p row) r ≡ numbers_in rows r
other_numbers [] p r row d = refl
other_numbers (x ∷ xs) zero zero row d = absurd (d refl)
other_numbers (x ∷ xs) zero (suc r) row d = refl
other_numbers (x ∷ xs) (suc p) zero row d = refl
other_numbers (x ∷ xs) (suc p) (suc r) row d = other_numbers xs p r row (λ e. d (ap suc e))

-- a row that was read, and one in its place
pub numbers_there : {L : _} {G : _} (rows : List (Row L G)) (r : ℕ) (d : Row L G) → r < length rows → numbers_of (get_or rows r d) ≡ numbers_in rows r
numbers_there [] r d l = absurd (omega arith)
numbers_there (x ∷ xs) zero d l = refl
numbers_there (x ∷ xs) (suc r) d l = numbers_there xs r d (omega arith)

pub row_there : {L : _} {G : _} (k n : ℕ) (rows : List (Row L G)) → AreRows k n rows → (r : ℕ) (d : Row L G) → r < length rows → IsRow k n (get_or rows r d)
row_there k n [] are r d l = absurd (omega arith)
row_there k n (x ∷ xs) are zero d l = are 0 x (omega arith) refl
row_there k n (x ∷ xs) are (suc r) d l = row_there k n xs (λ j v h e. are (suc j) v (omega arith) e) r d (omega arith)

pub rows_set : {L : _} {G : _} (k n : ℕ) (rows : List (Row L G)) → AreRows k n rows → (r : ℕ) (row : Row L G) → IsRow k n row → AreRows k n (set rows r row)
rows_set k n [] are r row is j v l e = are j v l e
rows_set k n (x ∷ xs) are zero row is zero v l e = subst (λ (y : Row _ _). IsRow k n y) (sym e) is
rows_set k n (x ∷ xs) are zero row is (suc j) v l e = are (suc j) v (omega arith) e
rows_set k n (x ∷ xs) are (suc r) row is zero v l e = are 0 v (omega arith) e
rows_set k n (x ∷ xs) are (suc r) row is (suc j) v l e = rows_set k n xs (λ i u h f. are (suc i) u (omega arith) f) r row is j v (omega arith) e

-- both solve the row for one column, so they are the same numbers
module _ (row by out : ℕ → Ratio) (b e : ℕ) (red : (c : ℕ) → IsReduced (by c)) (red' : (c : ℕ) → IsReduced (out c)) (number : (c : ℕ) → 0 < (negative (quotient (row c) (row e))).den) (lead : 0 < (quotient (whole (pos 1)) (row e)).den) (s : IsSolvedFor row b e by) (s' : IsSolvedFor row b e out) where
  one_solution : (c : ℕ) → by c ≡ out c
  one_solution c = by_eq c e
      (λ h. ap by h ∙ s.gone ∙ sym (ap out h ∙ s'.gone))
      (λ d. by_eq c b
      (λ h. ap by h ∙ same_reduced (by b) (out b) (red b) (red' b) (IsSame-trans (by b) (quotient (whole (pos 1)) (row e)) (out b) lead s.own (sym s'.own)) ∙ sym (ap out h))
      (λ h. same_reduced (by c) (out c) (red c) (red' c) (IsSame-trans (by c) (negative (quotient (row c) (row e))) (out c) (number c) (s.others c d h) (sym (s'.others c d h)))))

  pub one_row : by ≡ out
  one_row = λ i c. one_solution c i

-- T has the rows before, T₁ those where row p stands aside, and S is row p solved
module _ (T T₁ : Entries) (S : ℕ → Ratio) (p b e count : ℕ) (aside : T₁ p ≡ (λ c. none)) (same : (r : ℕ) → (r ≡ p → ⊥) → T₁ r ≡ T r) (solved : IsSolvedFor (T p) b e S) where
  -- T₂ has the rows into which it came, and T₃ those with it in its place
  pub table_turned : (T₂ T₃ : Entries) → T₃ p ≡ S → ((r : ℕ) → (r ≡ p → ⊥) → T₃ r ≡ T₂ r) → ((r : ℕ) → r < count → IsReplacedBy (T₁ r) S e (T₂ r)) → IsTableTurned p b e T T₃ count
  table_turned T₂ T₃ back others made = record {
    own = subst (λ (f : ℕ → Ratio). IsSolvedFor (T p) b e f) (sym back) solved;
    others = λ r l d. subst (λ (f : ℕ → Ratio). IsReplacedBy (T r) f e (T₃ r)) (sym back)
        (subst (λ (f : ℕ → Ratio). IsReplacedBy (T r) S e f) (sym (others r d)) (subst (λ (f : ℕ → Ratio). IsReplacedBy f S e (T₂ r)) (same r d) (made r l)));
  }

  module _ (red : (c : ℕ) → IsReduced (S c)) where
    pub table_fits : ((c : ℕ) → 0 < (negative (quotient (T p c) (T p e))).den) → 0 < (quotient (whole (pos 1)) (T p e)).den → SolutionFits (T p) e → ((r : ℕ) → r < count → ReplacementFits (T₁ r) S e) → TableFits p b e T count
    table_fits number lead own fits = record {
      own = own;
      others = λ by red' s r l d.
          subst (λ (f : ℕ → Ratio). ReplacementFits (T r) f e) (one_row (T p) S by b e red red' number lead solved s)
          (subst (λ (f : ℕ → Ratio). ReplacementFits f S e) (same r d) (fits r l));
    }

    pub rows_fit : TableFits p b e T count → (r : ℕ) → r < count → ReplacementFits (T₁ r) S e
    rows_fit fits r l = by_eq r p
        (λ h. record { terms = λ c. no_factor (T₁ r c) (T₁ r e) (S c) (ap (λ (f : ℕ → Ratio). (f e).num) (ap T₁ h ∙ aside)) })
        (λ d. subst (λ (f : ℕ → Ratio). ReplacementFits f S e) (sym (same r d)) (fits.others S red solved r l d))

-- a count by what isn't 0
count_of_one : (z : ℤ) → unless_zero z 1 ≡ cond (not (nat_eq (unsigned_abs z) 0)) 1 0
count_of_one (pos zero) = refl
count_of_one (pos (suc n)) = sym (ap (λ (b : Bool). cond b 1 0) (is_number (pos (suc n)) (λ e. omega (arith, ints))))
count_of_one (negsuc n) = sym (ap (λ (b : Bool). cond b 1 0) (is_number (negsuc n) (λ e. omega (arith, ints))))

pub nonzeros_alike : (k : ℕ) (f g : ℕ → Ratio) → ((c : ℕ) → has_number f c ≡ has_number g c) → nonzeros k f ≡ nonzeros k g
nonzeros_alike zero f g h = refl
nonzeros_alike (suc k) f g h = ap₂ (λ a b. a + b) (nonzeros_alike k f g h) (count_of_one (f k).num ∙ ap (λ (t : Bool). cond t 1 0) (h k) ∙ sym (count_of_one (g k).num))

-- a sum up to a column is at most that up to a later one
count_more : (a m : ℕ) (f : ℕ → ℕ) → count_all a f ≤ count_all (a + m) f
count_more a zero f = subst (λ j. count_all a f ≤ count_all j f) (let e : a ≡ a + 0 = omega arith in e) (omega arith)
count_more a (suc m) f = subst (λ j. count_all a f ≤ count_all j f) (let e : suc (a + m) ≡ a + suc m = omega arith in e) (let r = count_more a m f in omega arith)

pub count_to : (a b : ℕ) (f : ℕ → ℕ) → a ≤ b → count_all a f ≤ count_all b f
count_to a b f l = let e : a + (b - a) ≡ b = omega arith in subst (λ j. count_all a f ≤ count_all j f) e (count_more a (b - a) f)

-- solving a row takes no more than the rows' replacement by it
pub own_cost : (k count p e : ℕ) (T : Entries) → p < count → HasNumber (T p) e → 1 ≤ nonzeros k (T p) → 3 * (1 + nonzeros k (T p)) ≤ replacements_cost k T (T p) e count
own_cost k count p e T inside stands one =
    let b = taken_out count p (λ r. replacement_cost k (T r) (T p) e) inside in
    let c = unless_not (T p e).num (3 * (nonzeros k (T p) + nonzeros k (T p))) stands in
    omega arith

-- what the rows take while one stands aside, with what solving it takes
module _ (k count p e : ℕ) (T T₁ : Entries) (S : ℕ → Ratio) (aside : T₁ p ≡ (λ c. none)) (same : (r : ℕ) → (r ≡ p → ⊥) → T₁ r ≡ T r) (inside : p < count) (stands : HasNumber (T p) e) (few : nonzeros k S ≤ nonzeros k (T p)) (one : 1 ≤ nonzeros k (T p)) where
  abbrev old : ℕ → ℕ
  old r = replacement_cost k (T r) (T p) e

  abbrev new : ℕ → ℕ
  new r = replacement_cost k (T₁ r) S e

  less : (z : ℤ) (x y : ℕ) → x ≤ y → unless_zero z x ≤ unless_zero z y
  less (pos zero) x y l = omega arith
  less (pos (suc m)) x y l = l
  less (negsuc m) x y l = l

  each : (r : ℕ) → r < count → new r ≤ left_out p old r
  each r l = by_eq r p
      (λ h. let z : new r ≡ 0 = ap (λ (f : ℕ → Ratio). unless_zero (f e).num (3 * (nonzeros k f + nonzeros k S))) (ap T₁ h ∙ aside) in omega arith)
      (λ d. subst (λ m. new r ≤ m) (sym (left_other p old r d)) (subst (λ (f : ℕ → Ratio). unless_zero (f e).num (3 * (nonzeros k f + nonzeros k S)) ≤ old r) (sym (same r d)) (less (T r e).num (3 * (nonzeros k (T r) + nonzeros k S)) (3 * (nonzeros k (T r) + nonzeros k (T p))) (omega arith))))

  pub aside_cost : 3 * (1 + nonzeros k (T p)) + replacements_cost k T₁ S e count ≤ replacements_cost k T (T p) e count
  aside_cost =
      let a = all_most count new (left_out p old) each in
      let b = taken_out count p old inside in
      let c : old p ≡ 3 * (nonzeros k (T p) + nonzeros k (T p)) = unless_not (T p e).num (3 * (nonzeros k (T p) + nonzeros k (T p))) stands in
      omega arith
