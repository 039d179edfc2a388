-- What becomes of the values while one column moves that isn't basic.
use Rattle.std.proofs.Common.{◌≡◌, ℕ, ◌+◌, ◌<◌, Bool, true, false, refl, sym, ◌∙◌, ap}
use Rattle.std.proofs.lemmas.Bool.{eq-eqb, ne_eqb}
use Rattle.rational.specs.Ratio.{Ratio, sum, product, IsNumber}
use Rattle.evidence.specs.Sums.{none}
use Rattle.evidence.proofs.Numbers.{◌≈◌, ≈-refl, ≈-from, ◌⊙◌, ◌▹◌, product-number, product-≈, product-sum, product_swap, product_assoc, sum-number, sum-≈, sum-none, times_none}
use Rattle.evidence.proofs.Totals.{total-≈, total-sum, total_times}
use Rattle.evidence.proofs.Columns.{by_bool, none-number}
use Rattle.bases.specs.Dictionary.{Entries, Values, value_by, SolvesRows, IsDictionary}
use Rattle.bases.proofs.Lists.{value_by-number}
use Rattle.simplex_rules.specs.declared.columns.Way.{Way}
use Rattle.simplex_rules.specs.Turns.{rate}
use Rattle.simplex_rules.specs.Reports.{step_of}
use Rattle.simplex_rules.proofs.Core.{value_≈, value_with, value_with-number, row_value, unit_step, unit_step-number, unit_value}

-- the values while column e goes from its place by q, this way
abbrev pub shifted : Values → ℕ → Way → Ratio → Values
shifted rest e way q c = sum (rest c) (product q (unit_step e way c))

pub shifted-number : (rest : Values) (e : ℕ) (way : Way) (q : Ratio) → ((c : ℕ) → IsNumber (rest c)) → IsNumber q → (c : ℕ) → IsNumber (shifted rest e way q c)
shifted-number rest e way q p r c = sum-number (rest c) (product q (unit_step e way c)) (p c) (product-number q (unit_step e way c) r (unit_step-number e way c))

-- a sum by a list
shifted_sum : (k : ℕ) (row rest : ℕ → Ratio) (e : ℕ) (way : Way) (q : Ratio) → ((c : ℕ) → IsNumber (row c)) → ((c : ℕ) → IsNumber (rest c)) → IsNumber q → e < k → value_by k row (shifted rest e way q) ≈ sum (value_by k row rest) (product q (rate way (row e)))
shifted_sum k row rest e way q p pr pq h =
    let step : ℕ → Ratio = λ c. product (row c) (unit_step e way c) in
    let ps : (c : ℕ) → IsNumber (product (row c) (unit_step e way c)) = λ c. product-number (row c) (unit_step e way c) (p c) (unit_step-number e way c) in
    total-≈ k (λ c. product (row c) (shifted rest e way q c)) (λ c. sum (product (row c) (rest c)) (product q (product (row c) (unit_step e way c)))) (≈-refl none-number)
    (λ c l.
    let un = unit_step-number e way c in
    product-sum (row c) (rest c) (product q (unit_step e way c)) (p c) (pr c) (product-number q (unit_step e way c) pq un)
    ⊙ sum-≈ (≈-refl (product-number (row c) (rest c) (p c) (pr c)))
    (≈-from (product-number (row c) (product q (unit_step e way c)) (p c) (product-number q (unit_step e way c) pq un))
    (sym (product_assoc (row c) q (unit_step e way c)) ∙ ap (λ z. product z (unit_step e way c)) (product_swap (row c) q) ∙ product_assoc q (row c) (unit_step e way c))))
    ▹ total-sum none none k (λ c. product (row c) (rest c)) (λ c. product q (product (row c) (unit_step e way c)))
    ⊙ sum-≈ (≈-refl (value_by-number k row rest p pr))
    (total_times k q (λ c. product (row c) (unit_step e way c)) pq ps ⊙ product-≈ (≈-refl pq) (unit_value k row e way p h))

module _ (n m : ℕ) (A : Entries) (a_number : (r j : ℕ) → IsNumber (A r j)) (basic : ℕ → Bool) (u : Entries) (dict : IsDictionary n m A basic u) (rest : Values) (rest_number : (c : ℕ) → IsNumber (rest c)) where
  d_number : (b c : ℕ) → IsNumber (u b c)
  d_number b c = let r = dict.entries.reduced b c in r.0

  abbrev pub val : Values
  val = value_with n m A a_number basic u dict rest

  pub val-number : (c : ℕ) → IsNumber (val c)
  val-number = value_with-number n m A a_number basic u dict rest rest_number

  pub val_rows : SolvesRows n m A val
  val_rows = record { rows = λ i h. let e = row_value n m A a_number basic u dict rest rest_number i h in e.is }

  pub val_other : (c : ℕ) → basic c ≡ false → val c ≡ rest c
  val_other c b = rw b refl

  -- the values of a basis are those that solve the rows and have its places
  pub pinned : (y : Values) → ((c : ℕ) → IsNumber (y c)) → SolvesRows n m A y → ((c : ℕ) → c < n + m → basic c ≡ false → y c ≈ rest c) → (c : ℕ) → c < n + m → y c ≈ val c
  pinned y py s e c h =
      by_bool (basic c)
      (λ b.
      let l = dict.on y py s in
      let own : y c ≈ value_by (n + m) (u c) y = record { left = py c; right = value_by-number (n + m) (u c) y (d_number c) py; is = l.lists c h b } in
      let f : val c ≡ value_by (n + m) (u c) rest = rw b refl in
      own ⊙ value_≈ (n + m) basic (u c) y rest (d_number c) (dict.entries.at_basic c) py rest_number e ▹ sym f)
      (λ b. let f : val c ≡ rest c = rw b refl in e c h b ▹ sym f)

  module _ (e : ℕ) (way : Way) (q : Ratio) (q_number : IsNumber q) (inside : e < n + m) where
    moved_number : (c : ℕ) → IsNumber (shifted rest e way q c)
    moved_number = shifted-number rest e way q rest_number q_number

    abbrev pub after : Values
    after = value_with n m A a_number basic u dict (shifted rest e way q)

    pub after-number : (c : ℕ) → IsNumber (after c)
    after-number = value_with-number n m A a_number basic u dict (shifted rest e way q) moved_number

    pub after_rows : SolvesRows n m A after
    after_rows = record { rows = λ i h. let f = row_value n m A a_number basic u dict (shifted rest e way q) moved_number i h in f.is }

    pub after_basic : (c : ℕ) → basic c ≡ true → after c ≈ sum (val c) (product q (rate way (u c e)))
    after_basic c b =
        let f : after c ≡ value_by (n + m) (u c) (shifted rest e way q) = rw b refl in
        let g : val c ≡ value_by (n + m) (u c) rest = rw b refl in
        rw (f, g) (shifted_sum (n + m) (u c) rest e way q (d_number c) rest_number q_number inside)

    pub after_own : basic e ≡ false → after e ≈ sum (rest e) (product q (step_of way))
    after_own b =
        let s : unit_step e way e ≡ step_of way = let k : e ≡ e = refl in rw (eq-eqb e e k) refl in
        let f : after e ≡ sum (rest e) (product q (unit_step e way e)) = rw b refl in
        ≈-from (after-number e) (f ∙ ap (λ z. sum (rest e) (product q z)) s)

    pub after_other : (c : ℕ) → basic c ≡ false → (c ≡ e → ⊥) → after c ≈ rest c
    after_other c b d =
        let s : unit_step e way c ≡ none = rw (ne_eqb c e d) refl in
        let f : after c ≡ sum (rest c) (product q (unit_step e way c)) = rw b refl in
        ≈-from (after-number c) (f ∙ ap (λ z. sum (rest c) (product q z)) s)
        ⊙ sum-≈ (≈-refl (rest_number c)) (times_none q q_number)
        ▹ sum-none (rest c)
