-- Dictionaries by forms.
use Rattle.std.proofs.Common.{◌≡◌, ℕ, ◌+◌, ◌-◌, ◌<◌, ◌≤◌, Bool, true, false, nat_lt, refl, sym, ◌∙◌, ap, subst, arith}
use Rattle.std.proofs.lemmas.Bool.{lt-ltb, le-ltb}
use Rattle.rational.specs.Ratio.{product, IsNumber}
use Rattle.evidence.specs.Sums.{none, unit_at}
use Rattle.evidence.proofs.Numbers.{◌≈◌, ≈-refl, ≈-from, ≈-sym, ◌⊙◌, ◌▹◌, product-number, product-≈, times_none}
use Rattle.evidence.proofs.Totals.{total-≈, composed, total-none}
use Rattle.evidence.proofs.Columns.{by_lt, by_bool, none-number, pick}
use Rattle.evidence.proofs.Units.{unit-number, unit_other, picked, picked_left}
use Rattle.bases.specs.Dictionary.{Entries, Values, value_by, SolvesRows, SolvesLists, IsDictionary}
use Rattle.bases.specs.Forms.{form_of, list_of, FormsAreSums, ListsAreSums}
use Rattle.bases.proofs.Lists.{value_by-number, list-number, list_basic, list_other, lists_solve}

module _ (n m : ℕ) (A : Entries) (a_number : (i j : ℕ) → IsNumber (A i j)) where
  pub form-number : (c v : ℕ) → IsNumber (form_of n A c v)
  form-number c v = pick IsNumber (nat_lt c n) (unit_at c v) (A (c - n) v) (unit-number c v) (a_number (c - n) v)

  pub form_variable : (c v : ℕ) → c < n → form_of n A c v ≡ unit_at c v
  form_variable c v h = rw (lt-ltb c n h) refl

  pub form_row : (i v : ℕ) → form_of n A (n + i) v ≡ A i v
  form_row i v = let past : n ≤ n + i = omega arith in let e : n + i - n ≡ i = omega arith in rw (le-ltb (n + i) n past, e) refl

  -- the forms of the columns at one variable solve the rows
  pub forms_solve : (v : ℕ) → v < n → SolvesRows n m A (λ c. form_of n A c v)
  forms_solve v h = record {
    rows = λ i l.
        let all : form_of n A (n + i) v ≈ value_by n (A i) (λ c. form_of n A c v) =
        ≈-from (form-number (n + i) v) (form_row i v)
        ⊙ ≈-sym (picked n v (A i) (a_number i) h)
        ⊙ total-≈ n (λ j. product (A i j) (unit_at j v)) (λ j. product (A i j) (form_of n A j v)) (≈-refl none-number)
        (λ j g. ≈-from (product-number (A i j) (unit_at j v) (a_number i j) (unit-number j v)) (ap (product (A i j)) (sym (form_variable j v g)))) in
        all.is;
  }

  module _ (basic : ℕ → Bool) (u : Entries) (u_number : (b c : ℕ) → IsNumber (u b c)) where
    -- each column's value by its list, where the lists are solved
    by_list : (w : Values) → ((c : ℕ) → IsNumber (w c)) → SolvesLists (n + m) basic u w → (c : ℕ) → c < n + m → w c ≈ value_by (n + m) (list_of basic u c) w
    by_list w p s c h =
        by_bool (basic c)
        (λ t. rw t (record { left = p c; right = value_by-number (n + m) (u c) w (u_number c) p; is = s.lists c h t }))
        (λ t. rw t (≈-sym (picked_left (n + m) c w p h)))

    -- and by its form, where the rows are
    by_form : (w : Values) → ((c : ℕ) → IsNumber (w c)) → SolvesRows n m A w → (c : ℕ) → c < n + m → w c ≈ value_by n (form_of n A c) w
    by_form w p s c h =
        by_lt c n
        (λ l. rw (lt-ltb c n l) (≈-sym (picked_left n c w p l)))
        (λ l.
        let e : n + (c - n) ≡ c = omega arith in
        let low : c - n < m = omega arith in
        let given : w (n + (c - n)) ≈ value_by n (A (c - n)) w = record { left = p (n + (c - n)); right = value_by-number n (A (c - n)) w (a_number (c - n)) p; is = s.rows (c - n) low } in
        rw (le-ltb c n l) (≈-from (p c) (ap w (sym e)) ⊙ given))

    pub forms_are_sums : IsDictionary n m A basic u → FormsAreSums n m A basic u
    forms_are_sums d = record {
      forms = λ c v h l.
          let w : Values = λ c. form_of n A c v in
          let p : (c : ℕ) → IsNumber (w c) = λ c. form-number c v in
          let all = by_list w p (d.on w p (forms_solve v l)) c h in all.is;
    }

    pub lists_are_sums : IsDictionary n m A basic u → ListsAreSums n m A basic u
    lists_are_sums d = record {
      lists = λ i c h l t.
          let s = d.back (λ a. list_of basic u a c) (λ a. list-number (n + m) basic u u_number a c) (lists_solve (n + m) basic u u_number d.entries.at_basic c l) in
          s.rows i h;
    }

    -- values of which the forms or the lists hold
    module _ (w : Values) (p : (c : ℕ) → IsNumber (w c)) where
      pub forms_on : FormsAreSums n m A basic u → SolvesRows n m A w → SolvesLists (n + m) basic u w
      forms_on f s = record {
        lists = λ b h t.
            let sums : (v : ℕ) → IsNumber (value_by (n + m) (list_of basic u b) (λ d. form_of n A d v)) =
            λ v. value_by-number (n + m) (list_of basic u b) (λ d. form_of n A d v) (list-number (n + m) basic u u_number b) (λ d. form-number d v) in
            let all : w b ≈ value_by (n + m) (u b) w =
            by_form w p s b h
            ⊙ total-≈ n (λ v. product (form_of n A b v) (w v)) (λ v. product (value_by (n + m) (list_of basic u b) (λ d. form_of n A d v)) (w v)) (≈-refl none-number)
            (λ v l. product-≈ (record { left = form-number b v; right = sums v; is = f.forms b v h l }) (≈-refl (p v)))
            ⊙ ≈-sym (composed (n + m) n (list_of basic u b) (form_of n A) w (list-number (n + m) basic u u_number b) form-number p)
            ⊙ total-≈ (n + m) (λ d. product (list_of basic u b d) (value_by n (form_of n A d) w)) (λ d. product (u b d) (w d)) (≈-refl none-number)
            (λ d l. product-≈ (≈-from (list-number (n + m) basic u u_number b d) (list_basic (n + m) basic u u_number b d t)) (≈-sym (by_form w p s d l))) in
            all.is;
      }

      -- a basic column has the entry 0 in each list
      zero_list : ((b c : ℕ) → basic c ≡ true → u b c ≡ none) → (c d : ℕ) → basic d ≡ true → list_of basic u c d ≡ none
      zero_list zero c d t =
          by_bool (basic c) (λ e. list_basic (n + m) basic u u_number c d e ∙ zero c d t)
          (λ e. list_other (n + m) basic u u_number c d e ∙ unit_other c d (λ g. let x : false ≡ true = sym e ∙ ap basic g ∙ t in cc))

      zero_sum : ((b c : ℕ) → basic c ≡ true → u b c ≡ none) → (i d : ℕ) → basic d ≡ true → value_by n (A i) (λ v. list_of basic u v d) ≈ none
      zero_sum zero i d t =
          total-≈ n (λ v. product (A i v) (list_of basic u v d)) (λ v. none) (≈-refl none-number)
          (λ v l. subst (λ x. product (A i v) x ≈ none) (sym (zero_list zero v d t)) (times_none (A i v) (a_number i v)))
          ▹ total-none n

      pub lists_back : ((b c : ℕ) → basic c ≡ true → u b c ≡ none) → ListsAreSums n m A basic u → SolvesLists (n + m) basic u w → SolvesRows n m A w
      lists_back zero f s = record {
        rows = λ i h.
            let inside : n + i < n + m = omega arith in
            let list : (v d : ℕ) → IsNumber (list_of basic u v d) = list-number (n + m) basic u u_number in
            let row : (d : ℕ) → IsNumber (value_by n (A i) (λ v. list_of basic u v d)) = λ d. value_by-number n (A i) (λ v. list_of basic u v d) (a_number i) (λ v. list v d) in
            let all : w (n + i) ≈ value_by n (A i) w =
            by_list w p s (n + i) inside
            ⊙ total-≈ (n + m) (λ d. product (list_of basic u (n + i) d) (w d)) (λ d. product (value_by n (A i) (λ v. list_of basic u v d)) (w d)) (≈-refl none-number)
            (λ d l. by_bool (basic d)
            (λ t. product-≈ (≈-from (list (n + i) d) (zero_list zero (n + i) d t) ⊙ ≈-sym (zero_sum zero i d t)) (≈-refl (p d)))
            (λ t. product-≈ (record { left = list (n + i) d; right = row d; is = f.lists i d h l t }) (≈-refl (p d))))
            ⊙ ≈-sym (composed n (n + m) (A i) (list_of basic u) w (a_number i) list p)
            ⊙ total-≈ n (λ v. product (A i v) (value_by (n + m) (list_of basic u v) w)) (λ v. product (A i v) (w v)) (≈-refl none-number)
            (λ v l. product-≈ (≈-refl (a_number i v)) (≈-sym (by_list w p s v (omega arith)))) in
            all.is;
      }
