-- The rows are the dictionary of their own columns.
use Rattle.std.proofs.Common.{◌≡◌, ℕ, ◌+◌, ◌-◌, ◌<◌, ◌≤◌, true, false, refl, sym, ◌∙◌, subst, arith}
use Rattle.std.proofs.lemmas.Bool.{lt-ltb, le-ltb}
use Rattle.rational.specs.Ratio.{product, IsNumber, IsSame}
use Rattle.evidence.specs.Sums.{none}
use Rattle.evidence.proofs.Numbers.{◌≈◌, ≈-refl, ≈-sym, ◌⊙◌, product-≈, product-none}
use Rattle.evidence.proofs.Totals.{total_past}
use Rattle.evidence.proofs.Columns.{by_lt}
use Rattle.bases.specs.Dictionary.{Entries, Values, value_by, SolvesRows, SolvesLists, AreEntries, IsDictionary}
use Rattle.bases.specs.Program.{is_fresh}

module _ (n m : ℕ) (A u : Entries) (a_number : (i j : ℕ) → IsNumber (A i j)) (entries : AreEntries (n + m) (is_fresh n) u) (same : (i j : ℕ) → i < m → j < n → IsSame (u (n + i) j) (A i j)) where
  u_number : (b c : ℕ) → IsNumber (u b c)
  u_number b c = let r = entries.reduced b c in r.0

  module _ (w : Values) (p : (c : ℕ) → IsNumber (w c)) where
    sums : (i : ℕ) → i < m → value_by (n + m) (u (n + i)) w ≈ value_by n (A i) w
    sums i h =
        total_past n m (λ c. product (u (n + i) c) (w c)) (λ c. product (A i c) (w c))
        (λ c l. product-≈ (record { left = u_number (n + i) c; right = a_number i c; is = same i c h l }) (≈-refl (p c)))
        (λ c l. subst (λ x. product x (w c) ≈ none) (sym (entries.at_basic (n + i) c (rw (le-ltb c n l) refl))) (product-none (w c) (p c)))

    fresh_on : SolvesRows n m A w → SolvesLists (n + m) (is_fresh n) u w
    fresh_on s = record {
      lists = λ b h t.
          by_lt b n
          (λ l. let x : false ≡ true = sym (rw (lt-ltb b n l) refl) ∙ t in absurd (cc))
          (λ l.
          let e : n + (b - n) ≡ b = omega arith in
          let low : b - n < m = omega arith in
          let sum = sums (b - n) low in
          let given : w (n + (b - n)) ≈ value_by n (A (b - n)) w = record { left = p (n + (b - n)); right = sum.right; is = s.rows (b - n) low } in
          let all = given ⊙ ≈-sym sum in
          subst (λ c. IsSame (w c) (value_by (n + m) (u c) w)) e all.is);
    }

    fresh_back : SolvesLists (n + m) (is_fresh n) u w → SolvesRows n m A w
    fresh_back s = record {
      rows = λ i h.
          let past_n : n ≤ n + i = omega arith in
          let sum = sums i h in
          let given : w (n + i) ≈ value_by (n + m) (u (n + i)) w = record { left = p (n + i); right = sum.left; is = s.lists (n + i) (omega arith) (rw (le-ltb (n + i) n past_n) refl) } in
          let all = given ⊙ sum in all.is;
    }

  pub fresh_dictionary : IsDictionary n m A (is_fresh n) u
  fresh_dictionary = record { entries = entries; on = fresh_on; back = fresh_back }
