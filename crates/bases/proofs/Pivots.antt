-- A pivot leaves the dictionary of the exchanged basis.
use Rattle.std.proofs.Common.{◌≡◌, ℕ, ◌+◌, ◌<◌, Bool, true, false, cond, nat_eq, pos, lit<, refl, sym, ◌∙◌, ap, ap₂, subst, arith}
use Rattle.std.proofs.lemmas.Bool.{eq-eqb, ne_eqb}
use Rattle.rational.specs.Ratio.{Ratio, whole, sum, product, negative, quotient, inverse, IsNumber, IsSame}
use Rattle.evidence.specs.Sums.{none}
use Rattle.evidence.proofs.Numbers.{◌≈◌, ≈-refl, ≈-from, ≈-sym, ◌⊙◌, ◌▹◌, sum-≈, product-≈, sum-number, product-number, product-sum, product-one, product-none, times_none, product_swap, product_assoc, negative-product, sum_swap, sum-none, none-sum}
use Rattle.evidence.proofs.Totals.{total-≈, total-sum, total_times}
use Rattle.evidence.proofs.Columns.{by_eq, none-number, pick}
use Rattle.evidence.proofs.Rest.{without, rest, without-number, rest-number, at_q, off_q, apart}
use Rattle.evidence.proofs.Inverses.{inverse-number, product-inverse, solved, solved_back}
use Rattle.bases.specs.Dictionary.{Entries, Values, value_by, SolvesLists, IsDictionary}
use Rattle.bases.specs.Pivot.{exchanged, solved_at, replaced_at, IsPivoted}
use Rattle.bases.proofs.Lists.{reduced_none, value_by-number, entry-number}

pub exchanged_own : (basic : ℕ → Bool) (b e c : ℕ) → c ≡ e → exchanged basic b e c ≡ true
exchanged_own basic b e c h = rw (eq-eqb c e h) refl

pub exchanged_left : (basic : ℕ → Bool) (b e c : ℕ) → (c ≡ e → ⊥) → c ≡ b → exchanged basic b e c ≡ false
exchanged_left basic b e c d h = rw (ne_eqb c e d, eq-eqb c b h) refl

pub exchanged_other : (basic : ℕ → Bool) (b e c : ℕ) → (c ≡ e → ⊥) → (c ≡ b → ⊥) → exchanged basic b e c ≡ basic c
exchanged_other basic b e c d h = rw (ne_eqb c e d, ne_eqb c b h) refl

module _ (u : Entries) (u_number : (a c : ℕ) → IsNumber (u a c)) (b e : ℕ) (nonzero : (u b e).num ≡ pos 0 → ⊥) where
  abbrev i : Ratio
  i = inverse (u b e)

  pub i_number : IsNumber i
  i_number = inverse-number (u b e) nonzero

  pub solved_own : (c : ℕ) → c ≡ b → solved_at u b e c ≡ i
  solved_own c h = ap (λ t. cond t (quotient (whole (pos 1)) (u b e)) (negative (quotient (u b c) (u b e)))) (eq-eqb c b h) ∙ product-one i

  pub solved_other : (c : ℕ) → (c ≡ b → ⊥) → solved_at u b e c ≡ product (negative i) (u b c)
  solved_other c d =
      ap (λ t. cond t (quotient (whole (pos 1)) (u b e)) (negative (quotient (u b c) (u b e)))) (ne_eqb c b d)
      ∙ ap negative (product_swap (u b c) i) ∙ sym (negative-product i (u b c))

  pub solved-number : (c : ℕ) → IsNumber (solved_at u b e c)
  solved-number c = pick IsNumber (nat_eq c b) (quotient (whole (pos 1)) (u b e)) (negative (quotient (u b c) (u b e))) (product-number (whole (pos 1)) i (lit< tt) i_number) (product-number (u b c) i (u_number b c) i_number)

  pub replaced-number : (a c : ℕ) → IsNumber (replaced_at u b e a c)
  replaced-number a c = sum-number (u a c) (product (u a e) (solved_at u b e c)) (u_number a c) (product-number (u a e) (solved_at u b e c) (u_number a e) (solved-number c))

  -- a column without an entry has none afterwards
  pub solved_zero : (c : ℕ) → (c ≡ b → ⊥) → u b c ≡ none → solved_at u b e c ≈ none
  solved_zero c d z = ≈-from (solved-number c) (solved_other c d ∙ ap (product (negative i)) z) ⊙ times_none (negative i) i_number

  pub replaced_zero : (a c : ℕ) → (c ≡ b → ⊥) → u a c ≡ none → u b c ≡ none → replaced_at u b e a c ≈ none
  replaced_zero a c d za zb =
      ≈-from (replaced-number a c) (ap (λ x. sum x (product (u a e) (solved_at u b e c))) za ∙ none-sum (product (u a e) (solved_at u b e c)))
      ⊙ product-≈ (≈-refl (u_number a e)) (solved_zero c d zb) ⊙ times_none (u a e) (u_number a e)

  pub replaced_unlisted : (a c : ℕ) → u a c ≡ none → u a e ≡ none → replaced_at u b e a c ≈ none
  replaced_unlisted a c za ze =
      ≈-from (replaced-number a c) (ap₂ (λ x y. sum x (product y (solved_at u b e c))) za ze ∙ none-sum (product none (solved_at u b e c)))
      ⊙ product-none (solved_at u b e c) (solved-number c)

module _ (k : ℕ) (basic : ℕ → Bool) (u v : Entries) (u_number : (a c : ℕ) → IsNumber (u a c)) (b e : ℕ) (b_in : b < k) (e_in : e < k) (b_zero : (a : ℕ) → u a b ≡ none) (b_basic : basic b ≡ true) (e_other : basic e ≡ false) (nonzero : (u b e).num ≡ pos 0 → ⊥) (made : IsPivoted u b e v) (w : Values) (w_number : (c : ℕ) → IsNumber (w c)) where
  abbrev p : Ratio
  p = u b e

  abbrev q : Ratio
  q = inverse (u b e)

  q_number : IsNumber q
  q_number = i_number u u_number b e nonzero

  v_number : (a c : ℕ) → IsNumber (v a c)
  v_number a c = let r = made.reduced a c in r.0

  e_not_b : e ≡ b → ⊥
  e_not_b h = let x : true ≡ false = sym b_basic ∙ ap basic (sym h) ∙ e_other in cc

  abbrev old : ℕ → ℕ → Ratio
  old a c = product (u a c) (w c)

  abbrev new : ℕ → ℕ → Ratio
  new a c = product (v a c) (w c)

  old-number : (a c : ℕ) → IsNumber (old a c)
  old-number a c = product-number (u a c) (w c) (u_number a c) (w_number c)

  new-number : (a c : ℕ) → IsNumber (new a c)
  new-number a c = product-number (v a c) (w c) (v_number a c) (w_number c)

  -- the sum of an equation without its term at e
  abbrev others : ℕ → Ratio
  others a = rest k e (old a)

  others-number : (a : ℕ) → IsNumber (others a)
  others-number a = rest-number k e (old a) (old-number a)

  old_sum : (a : ℕ) → value_by k (u a) w ≡ sum (product (u a e) (w e)) (others a)
  old_sum a = apart k e (old a) e_in

  near : (c : ℕ) → (c ≡ e → ⊥) → v e c ≈ solved_at u b e c
  near c d = record { left = v_number e c; right = solved-number u u_number b e nonzero c; is = made.solved c d }

  -- e's new sum, without its term at b
  solved_term : (c : ℕ) → without b (new e) c ≈ product (negative q) (without e (old b) c)
  solved_term c =
      by_eq c b
      (λ h. ≈-from (without-number b (new e) (new-number e) c) (at_q b c (new e) h)
      ⊙ ≈-sym (product-≈ (≈-refl q_number) (≈-from (without-number e (old b) (old-number b) c) (off_q e c (old b) (λ g. e_not_b (sym g ∙ h)) ∙ ap (λ x. product x (w c)) (ap (u b) h ∙ b_zero b)) ⊙ product-none (w c) (w_number c)) ⊙ times_none (negative q) q_number))
      (λ h. by_eq c e
      (λ g. ≈-from (without-number b (new e) (new-number e) c) (off_q b c (new e) h ∙ ap (λ x. product x (w c)) (ap (v e) g ∙ made.entering e)) ⊙ product-none (w c) (w_number c)
      ⊙ ≈-sym (product-≈ (≈-refl q_number) (≈-from (without-number e (old b) (old-number b) c) (at_q e c (old b) g)) ⊙ times_none (negative q) q_number))
      (λ g. ≈-from (without-number b (new e) (new-number e) c) (off_q b c (new e) h)
      ⊙ product-≈ (near c g ▹ solved_other u u_number b e nonzero c h) (≈-refl (w_number c))
      ▹ product_assoc (negative q) (u b c) (w c) ▹ ap (product (negative q)) (sym (off_q e c (old b) g))))

  solved_sum : value_by k (v e) w ≈ sum (product q (w b)) (product (negative q) (others b))
  solved_sum =
      ≈-from (value_by-number k (v e) w (v_number e) w_number) (apart k b (new e) b_in)
      ⊙ sum-≈ (product-≈ (near b (λ h. e_not_b (sym h)) ▹ solved_own u u_number b e nonzero b refl) (≈-refl (w_number b)))
      (total-≈ k (without b (new e)) (λ c. product (negative q) (without e (old b) c)) (≈-refl none-number) (λ c l. solved_term c)
      ⊙ total_times k (negative q) (without e (old b)) q_number (without-number e (old b) (old-number b)))

  -- another equation's new sum
  replaced_term : (a c : ℕ) → (a ≡ b → ⊥) → (a ≡ e → ⊥) → new a c ≈ sum (without e (old a) c) (product (u a e) (new e c))
  replaced_term a c db de =
      let f = u a e in
      let pf = u_number a e in
      by_eq c e
      (λ g.
      let gone : (r : ℕ) → new r c ≈ none = λ r. ≈-from (new-number r c) (ap (λ x. product x (w c)) (ap (v r) g ∙ made.entering r)) ⊙ product-none (w c) (w_number c) in
      gone a
      ⊙ ≈-sym (sum-≈ (≈-from (without-number e (old a) (old-number a) c) (at_q e c (old a) g)) (product-≈ (≈-refl pf) (gone e) ⊙ times_none f pf) ▹ sum-none none))
      (λ g.
      let s = solved_at u b e c in
      let ps = solved-number u u_number b e nonzero c in
      let fs = product-number f s pf ps in
      let x : v a c ≈ sum (u a c) (product f s) = record { left = v_number a c; right = replaced-number u u_number b e nonzero a c; is = made.replaced a c db de g } in
      product-≈ x (≈-refl (w_number c)) ▹ product_swap (sum (u a c) (product f s)) (w c)
      ⊙ product-sum (w c) (u a c) (product f s) (w_number c) (u_number a c) fs
      ▹ ap₂ (λ x y. sum x y) (product_swap (w c) (u a c) ∙ sym (off_q e c (old a) g)) (product_swap (w c) (product f s) ∙ product_assoc f s (w c))
      ⊙ sum-≈ (≈-refl (without-number e (old a) (old-number a) c)) (product-≈ (≈-refl pf) (product-≈ (≈-sym (near c g)) (≈-refl (w_number c)))))

  replaced_sum : (a : ℕ) → (a ≡ b → ⊥) → (a ≡ e → ⊥) → value_by k (v a) w ≈ sum (others a) (product (u a e) (value_by k (v e) w))
  replaced_sum a db de =
      total-≈ k (new a) (λ c. sum (without e (old a) c) (product (u a e) (new e c))) (≈-from none-number (sym (sum-none none))) (λ c l. replaced_term a c db de)
      ▹ total-sum none none k (without e (old a)) (λ c. product (u a e) (new e c))
      ⊙ sum-≈ (≈-refl (others-number a)) (total_times k (u a e) (new e) (u_number a e) (new-number e))

  -- where e has its value, the other sums are as before
  others_stay : (a : ℕ) → (a ≡ b → ⊥) → (a ≡ e → ⊥) → w e ≈ value_by k (v e) w → value_by k (v a) w ≈ value_by k (u a) w
  others_stay a db de h =
      replaced_sum a db de ▹ sum_swap (others a) (product (u a e) (value_by k (v e) w))
      ⊙ sum-≈ (product-≈ (≈-refl (u_number a e)) (≈-sym h)) (≈-refl (others-number a)) ▹ sym (old_sum a)

  qp : product q p ≈ whole (pos 1)
  qp = ≈-from (product-number q p q_number (u_number b e)) (product_swap q p) ⊙ product-inverse p (u_number b e) nonzero

  enters : w b ≈ value_by k (u b) w → w e ≈ value_by k (v e) w
  enters h = solved p q (w e) (w b) (others b) (u_number b e) q_number (w_number e) (others-number b) qp (h ▹ old_sum b) ⊙ ≈-sym solved_sum

  leaves : w e ≈ value_by k (v e) w → w b ≈ value_by k (u b) w
  leaves h = solved_back p q (w e) (w b) (others b) (u_number b e) q_number (w_number b) (others-number b) (product-inverse p (u_number b e) nonzero) (h ⊙ solved_sum) ▹ sym (old_sum b)

  pub pivot_on : SolvesLists k basic u w → SolvesLists k (exchanged basic b e) v w
  pivot_on s =
      let holds : (a : ℕ) → a < k → basic a ≡ true → w a ≈ value_by k (u a) w = λ a h t. record { left = w_number a; right = value_by-number k (u a) w (u_number a) w_number; is = s.lists a h t } in
      let entered = enters (holds b b_in b_basic) in
      let row : (a : ℕ) → a < k → exchanged basic b e a ≡ true → w a ≈ value_by k (v a) w =
      λ a h t. by_eq a e
      (λ g. subst (λ c. w c ≈ value_by k (v c) w) (sym g) entered)
      (λ de. by_eq a b
      (λ g. let x : false ≡ true = sym (exchanged_left basic b e a de g) ∙ t in absurd (cc))
      (λ db. holds a h (sym (exchanged_other basic b e a de db) ∙ t) ⊙ ≈-sym (others_stay a db de entered))) in
      record { lists = λ a h t. (row a h t).is }

  pub pivot_back : SolvesLists k (exchanged basic b e) v w → SolvesLists k basic u w
  pivot_back s =
      let holds : (a : ℕ) → a < k → exchanged basic b e a ≡ true → w a ≈ value_by k (v a) w = λ a h t. record { left = w_number a; right = value_by-number k (v a) w (v_number a) w_number; is = s.lists a h t } in
      let entered = holds e e_in (exchanged_own basic b e e refl) in
      let row : (a : ℕ) → a < k → basic a ≡ true → w a ≈ value_by k (u a) w =
      λ a h t. by_eq a b
      (λ g. subst (λ c. w c ≈ value_by k (u c) w) (sym g) (leaves entered))
      (λ db.
      let de : a ≡ e → ⊥ = λ g. let x : true ≡ false = sym t ∙ ap basic g ∙ e_other in cc in
      holds a h (exchanged_other basic b e a de db ∙ t) ⊙ others_stay a db de entered) in
      record { lists = λ a h t. (row a h t).is }

-- the entries are where the exchanged basis has them
pub pivoted_dictionary : (n m : ℕ) (A : Entries) (basic : ℕ → Bool) (u v : Entries) (b e : ℕ) → b < n + m → e < n + m → basic b ≡ true → basic e ≡ false → ((u b e).num ≡ pos 0 → ⊥) → IsPivoted u b e v → IsDictionary n m A basic u → IsDictionary n m A (exchanged basic b e) v
pivoted_dictionary n m A basic u v b e b_in e_in b_basic e_other nonzero made d = record {
  entries = record {
    reduced = made.reduced;
    past_row = λ a c h. gone a c (λ g. omega arith) (λ g. omega arith) (λ g. no_row a c (d.entries.past_row a c h) (d.entries.past_row a e h));
    past_column = λ a c h. no_column a c (λ g. omega arith) (λ x. d.entries.past_column x c h);
    unlisted = λ a c t.
        by_eq a b (λ g. ap (λ x. v x c) g ∙ made.leaving c)
        (λ db. by_eq a e (λ g. let x : true ≡ false = sym (exchanged_own basic b e a g) ∙ t in absurd (cc))
        (λ de. let f : basic a ≡ false = sym (exchanged_other basic b e a de db) ∙ t in
        gone a c db de (λ g. no_row a c (d.entries.unlisted a c f) (d.entries.unlisted a e f))));
    at_basic = λ a c t.
        by_eq c e (λ g. ap (v a) g ∙ made.entering a)
        (λ ce. by_eq c b (λ g. let x : false ≡ true = sym (exchanged_left basic b e c ce g) ∙ t in absurd (cc))
        (λ cb. no_column a c cb (λ x. d.entries.at_basic x c (sym (exchanged_other basic b e c ce cb) ∙ t))));
  };
  on = λ w p s. pivot_on (n + m) basic u v u_number b e b_in e_in b_zero b_basic e_other nonzero made w p (d.on w p s);
  back = λ w p s. d.back w p (pivot_back (n + m) basic u v u_number b e b_in e_in b_zero b_basic e_other nonzero made w p s);
}
  where
    u_number : (a c : ℕ) → IsNumber (u a c)
    u_number = entry-number d

    b_zero : (a : ℕ) → u a b ≡ none
    b_zero a = d.entries.at_basic a b b_basic

    settle : (a c : ℕ) (x : Ratio) → IsNumber x → IsSame (v a c) x → x ≈ none → v a c ≡ none
    settle a c x px is z =
        let r = made.reduced a c in
        let near : v a c ≈ x = record { left = r.0; right = px; is = is } in
        let all = near ⊙ z in reduced_none (v a c) r all.is

    no_row : (a c : ℕ) → u a c ≡ none → u a e ≡ none → replaced_at u b e a c ≈ none
    no_row a c za ze = replaced_unlisted u u_number b e nonzero a c za ze

    gone : (a c : ℕ) → (a ≡ b → ⊥) → (a ≡ e → ⊥) → ((c ≡ e → ⊥) → replaced_at u b e a c ≈ none) → v a c ≡ none
    gone a c db de z =
        by_eq c e (λ g. ap (v a) g ∙ made.entering a)
        (λ ce. settle a c (replaced_at u b e a c) (replaced-number u u_number b e nonzero a c) (made.replaced a c db de ce) (z ce))

    -- a column that no equation has
    no_column : (a c : ℕ) → (c ≡ b → ⊥) → ((x : ℕ) → u x c ≡ none) → v a c ≡ none
    no_column a c cb zero =
        by_eq a b (λ g. ap (λ x. v x c) g ∙ made.leaving c)
        (λ db. by_eq a e
        (λ g. by_eq c e (λ h. ap (v a) h ∙ made.entering a)
        (λ ce. ap (λ x. v x c) g ∙ settle e c (solved_at u b e c) (solved-number u u_number b e nonzero c) (made.solved c ce) (solved_zero u u_number b e nonzero c cb (zero b))))
        (λ de. gone a c db de (λ ce. replaced_zero u u_number b e nonzero a c cb (zero a) (zero b))))
