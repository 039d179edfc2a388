-- What a dictionary says of forms, values and movements.
use Rattle.std.proofs.Common.{◌≡◌, ℕ, ◌+◌, ◌<◌, pos, negsuc, Bool, true, false, cond, nat_eq, refl, sym, ◌∙◌, ap, lit<}
use Rattle.std.proofs.lemmas.Bool.{eq-eqb, ne_eqb}
use Rattle.rational.specs.Ratio.{Ratio, whole, sum, product, negative, IsNumber}
use Rattle.evidence.specs.Sums.{none, unit_at}
use Rattle.evidence.proofs.Numbers.{◌≈◌, ≈-refl, ≈-from, ≈-sym, ◌⊙◌, ◌▹◌, product-number, product_swap, product-≈, product-one, product-none, times_none, sum-≈, sum-none, none-sum, negative-product}
use Rattle.evidence.proofs.Totals.{total-≈, total-sum, total-negative}
use Rattle.evidence.proofs.Columns.{by_eq, by_bool, none-number, pick}
use Rattle.evidence.proofs.Inverses.{negative-≈}
use Rattle.evidence.proofs.Units.{picked}
use Rattle.bases.specs.Dictionary.{Entries, Values, value_by, SolvesLists, IsDictionary}
use Rattle.bases.specs.Forms.{form_of}
use Rattle.bases.proofs.Lists.{value_by-number}
use Rattle.bases.proofs.Forms.{form-number, forms_solve}
use Rattle.simplex_rules.specs.declared.columns.Way.{Way}
use Rattle.simplex_rules.specs.declared.columns.Way.TheVariants.{Rise, Fall}
use Rattle.simplex_rules.specs.Turns.{rate}
use Rattle.simplex_rules.specs.Reports.{base, step_of}

-- where the basic columns have no entry, only the values of the others count
pub value_≈ : (k : ℕ) (basic : ℕ → Bool) (row x y : ℕ → Ratio) → ((c : ℕ) → IsNumber (row c)) → ((c : ℕ) → basic c ≡ true → row c ≡ none) → ((c : ℕ) → IsNumber (x c)) → ((c : ℕ) → IsNumber (y c)) → ((c : ℕ) → c < k → basic c ≡ false → x c ≈ y c) → value_by k row x ≈ value_by k row y
value_≈ k basic row x y pr gone px py e =
    total-≈ k (λ c. product (row c) (x c)) (λ c. product (row c) (y c)) (≈-refl none-number)
    (λ c h. by_bool (basic c)
    (λ b. let z : row c ≡ none = gone c b in rw z (product-none (x c) (px c) ⊙ ≈-sym (product-none (y c) (py c))))
    (λ b. product-≈ (≈-refl (pr c)) (e c h b)))

module _ (n m : ℕ) (A : Entries) (a_number : (r j : ℕ) → IsNumber (A r j)) (basic : ℕ → Bool) (u : Entries) (dict : IsDictionary n m A basic u) where
  u_number : (b c : ℕ) → IsNumber (u b c)
  u_number b c = let r = dict.entries.reduced b c in r.0

  -- a basic column's form is the sum by its list
  pub form_by_list : (g j : ℕ) → g < n + m → basic g ≡ true → j < n → form_of n A g j ≈ value_by (n + m) (u g) (λ c. form_of n A c j)
  form_by_list g j h b l = record {
    left = form-number n m A a_number g j;
    right = value_by-number (n + m) (u g) (λ c. form_of n A c j) (u_number g) (λ c. form-number n m A a_number c j);
    is = (dict.on (λ c. form_of n A c j) (λ c. form-number n m A a_number c j) (forms_solve n m A a_number j l)).lists g h b;
  }

  -- values of the columns that aren't basic make values of all
  abbrev pub value_with : Values → Values
  value_with rest c = cond (basic c) (value_by (n + m) (u c) rest) (rest c)

  pub value_with-number : (rest : Values) → ((c : ℕ) → IsNumber (rest c)) → (c : ℕ) → IsNumber (value_with rest c)
  value_with-number rest p c = pick IsNumber (basic c) (value_by (n + m) (u c) rest) (rest c) (value_by-number (n + m) (u c) rest (u_number c) p) (p c)

  values_solve_lists : (rest : Values) → ((c : ℕ) → IsNumber (rest c)) → SolvesLists (n + m) basic u (value_with rest)
  values_solve_lists rest p = record {
    lists = λ b h e.
        let own : value_with rest b ≡ value_by (n + m) (u b) rest = rw e refl in
        let all : value_with rest b ≈ value_by (n + m) (u b) (value_with rest) =
        ≈-from (value_with-number rest p b) own
        ⊙ value_≈ (n + m) basic (u b) rest (value_with rest) (u_number b) (dict.entries.at_basic b) p (value_with-number rest p)
        (λ c l f. let g : value_with rest c ≡ rest c = rw f refl in ≈-from (p c) (sym g)) in
        all.is;
  }

  -- a row's column has the value of its sum
  pub row_value : (rest : Values) → ((c : ℕ) → IsNumber (rest c)) → (r : ℕ) → r < m → value_with rest (n + r) ≈ value_by n (A r) (value_with rest)
  row_value rest p r h = record {
    left = value_with-number rest p (n + r);
    right = value_by-number n (A r) (value_with rest) (a_number r) (value_with-number rest p);
    is = (dict.back (value_with rest) (value_with-number rest p) (values_solve_lists rest p)).rows r h;
  }

pub rate-number : (w : Way) (x : Ratio) → IsNumber x → IsNumber (rate w x)
rate-number Rise x p = p
rate-number Fall x p = p

pub step-number : (w : Way) → IsNumber (step_of w)
step-number Rise = lit< tt
step-number Fall = lit< tt

abbrev pub unit_step : ℕ → Way → Values
unit_step n way c = cond (nat_eq c n) (step_of way) none

pub unit_step-number : (n : ℕ) (way : Way) (c : ℕ) → IsNumber (unit_step n way c)
unit_step-number n way c = pick IsNumber (nat_eq c n) (step_of way) none (step-number way) none-number

-- a sum by a list, where column n alone moves
pub unit_value : (k : ℕ) (row : ℕ → Ratio) (n : ℕ) (way : Way) → ((c : ℕ) → IsNumber (row c)) → n < k → value_by k row (unit_step n way) ≈ rate way (row n)
unit_value k row n way p h =
    total-≈ k (λ c. product (row c) (unit_step n way c)) (λ c. product (rate way (row c)) (unit_at c n)) (≈-refl none-number)
    (λ c l. by_eq c n
    (λ f. rw (eq-eqb c n f) (one_step way (row c) (p c)))
    (λ f. rw (ne_eqb c n f) (times_none (row c) (p c) ⊙ ≈-sym (times_none (rate way (row c)) (rate-number way (row c) (p c))))))
    ⊙ picked k n (λ c. rate way (row c)) (λ c. rate-number way (row c) (p c)) h
  where
    one_step : (way : Way) (x : Ratio) → IsNumber x → product x (step_of way) ≈ product (rate way x) (whole (pos 1))
    one_step Rise x q = ≈-refl (product-number x (whole (pos 1)) q (lit< tt))
    one_step Fall x q = ≈-from (product-number x (whole (negsuc 0)) q (lit< tt)) (product_swap x (whole (negsuc 0)) ∙ negative-product (whole (pos 1)) x ∙ ap negative (product-one x) ∙ sym (negative-product x (whole (pos 1)) ∙ ap negative (product_swap x (whole (pos 1)) ∙ product-one x)))

-- a column's entries, with -1 at itself, where it has no entry
module _ (k : ℕ) (row : ℕ → Ratio) (p : (c : ℕ) → IsNumber (row c)) (g : ℕ) (x : ℕ → Ratio) (px : (c : ℕ) → IsNumber (x c)) where
  pub base-number : (c : ℕ) → IsNumber (base row g c)
  base-number c = pick IsNumber (nat_eq c g) (whole (negsuc 0)) (row c) (lit< tt) (p c)

  base_term : row g ≡ none → (c : ℕ) → product (base row g c) (x c) ≈ sum (negative (product (x c) (unit_at c g))) (product (row c) (x c))
  base_term gone c =
      by_eq c g
      (λ f. let z : row c ≡ none = ap row f ∙ gone in
      rw (eq-eqb c g f, z)
      (≈-from (product-number (whole (negsuc 0)) (x c) (lit< tt) (px c)) (negative-product (whole (pos 1)) (x c) ∙ ap negative (product_swap (whole (pos 1)) (x c)) ∙ sym (sum-none (negative (product (x c) (whole (pos 1))))))
      ⊙ sum-≈ (≈-refl (product-number (x c) (whole (pos 1)) (px c) (lit< tt))) (≈-sym (product-none (x c) (px c)))))
      (λ f. rw (ne_eqb c g f)
      (≈-from (product-number (row c) (x c) (p c) (px c)) (sym (none-sum (product (row c) (x c))))
      ⊙ sum-≈ (≈-sym (negative-≈ (times_none (x c) (px c)))) (≈-refl (product-number (row c) (x c) (p c) (px c)))))

  pub base_sum : g < k → row g ≡ none → value_by k (base row g) x ≈ sum (negative (x g)) (value_by k row x)
  base_sum h gone =
      total-≈ k (λ c. product (base row g c) (x c)) (λ c. sum (negative (product (x c) (unit_at c g))) (product (row c) (x c))) (≈-refl none-number) (λ c l. base_term gone c)
      ▹ total-sum none none k (λ c. negative (product (x c) (unit_at c g))) (λ c. product (row c) (x c))
      ▹ ap (λ z. sum z (value_by k row x)) (total-negative none k (λ c. product (x c) (unit_at c g)))
      ⊙ sum-≈ (negative-≈ (picked k g x px h)) (≈-refl (value_by-number k row x p px))

  -- without the column's own place
  pub base_others : ((c : ℕ) → c < k → c ≡ g → ⊥) → value_by k (base row g) x ≈ value_by k row x
  base_others h =
      total-≈ k (λ c. product (base row g c) (x c)) (λ c. product (row c) (x c)) (≈-refl none-number)
      (λ c l. rw (ne_eqb c g (h c l)) (≈-refl (product-number (row c) (x c) (p c) (px c))))
