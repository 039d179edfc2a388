-- Multipliers in a list, without those that are 0.
use Rattle.std.proofs.Common.{◌≡◌, ℕ, zero, suc, ◌+◌, ◌<◌, ℤ, pos, negsuc, List, [], ◌∷◌, ◌++◌, length, get_or, refl, sym, ◌∙◌, ap, ap₂, subst, arith, length-append}
use Rattle.std.specs.List.{All}
use Rattle.std.proofs.Math.ListN.{get_or-append}
use Rattle.std.proofs.Math.Seq.{get_or-append_seam}
use Rattle.std.proofs.lemmas.List.{append-nil}
use Rattle.std.proofs.lemmas.List.Elements.{All-append}
use Rattle.rational.specs.Ratio.{Ratio, sum, IsNumber}
use Rattle.evidence.specs.Sums.{none, total}
use Rattle.evidence.specs.Cases.{Multiplier, multiplier_at}
use Rattle.evidence.proofs.Numbers.{◌≈◌, ≈-refl, ≈-sym, ◌▹◌, sum-≈, sum-none}
use Rattle.evidence.proofs.Totals.{total_below}
use Rattle.evidence.proofs.Columns.{by_lt}
use Rattle.simplex_rules.specs.Reports.{one_of, collected}

module _ (F : Multiplier → Ratio) where
  -- the sum over a list
  abbrev pub over : Ratio → List Multiplier → Ratio
  over s ms = total s (length ms) (λ k. F (multiplier_at ms k))

  snoc : (s : Ratio) (xs : List Multiplier) (m : Multiplier) → over s (xs ++ m ∷ []) ≡ sum (over s xs) (F m)
  snoc s xs m =
      let ys = xs ++ m ∷ [] in
      let e : length ys ≡ suc (length xs) = omega (arith, length-append xs (m ∷ [])) in
      ap (λ n. total s n (λ k. F (multiplier_at ys k))) e
      ∙ ap₂ (λ a b. sum a b)
      (total_below s (length xs) (λ k. F (multiplier_at ys k)) (λ k. F (multiplier_at xs k)) (λ k h. ap F (get_or-append xs (m ∷ []) (record { column = 0; by = none }) k h)))
      (ap F (get_or-append_seam xs m [] (record { column = 0; by = none })))

module _ (y : ℕ → Ratio) where
  -- the sum over the list is that over the columns
  module _ (F : Multiplier → Ratio) (f_number : (c : ℕ) → IsNumber (F (record { column = c; by = y c }))) (gone : (c : ℕ) → (y c).num ≡ pos 0 → F (record { column = c; by = y c }) ≈ none) where
    pub collected_total : (s : Ratio) → IsNumber s → (n : ℕ) → total s (length (collected y n)) (λ k. F (multiplier_at (collected y n) k)) ≈ total s n (λ c. F (record { column = c; by = y c }))
    collected_total s p zero = ≈-refl p
    collected_total s p (suc n) = more (y n).num refl (collected_total s p n)
      where
        more : (z : ℤ) → (y n).num ≡ z → over F s (collected y n) ≈ total s n (λ c. F (record { column = c; by = y c })) → over F s (collected y n ++ one_of n z (y n)) ≈ sum (total s n (λ c. F (record { column = c; by = y c }))) (F (record { column = n; by = y n }))
        more (pos zero) e ih =
            ≈-sym (sum-≈ (≈-sym ih) (gone n e) ▹ sum-none (over F s (collected y n)) ▹ ap (over F s) (sym (append-nil (collected y n))))
        more (pos (suc k)) e ih = ≈-sym (sum-≈ (≈-sym ih) (≈-refl (f_number n)) ▹ sym (snoc F s (collected y n) (record { column = n; by = y n })))
        more (negsuc k) e ih = ≈-sym (sum-≈ (≈-sym ih) (≈-refl (f_number n)) ▹ sym (snoc F s (collected y n) (record { column = n; by = y n })))

  -- what holds of each one that isn't 0
  pub collected_all : (P : Multiplier → Type 0) (n : ℕ) → ((c : ℕ) → c < n → ((y c).num ≡ pos 0 → ⊥) → P (record { column = c; by = y c })) → All P (collected y n)
  collected_all P zero h = λ k d g. absurd (omega arith)
  collected_all P (suc n) h = All-append P (collected y n) (one_of n (y n).num (y n)) (collected_all P n (λ c l. h c (omega arith))) (own (y n).num refl)
    where
      none_of : All P []
      none_of = λ k d g. absurd (omega arith)

      own : (z : ℤ) → (y n).num ≡ z → All P (one_of n z (y n))
      own (pos zero) e = none_of
      own (pos (suc k)) e = single (h n (omega arith) (λ f. cc (f, e)))
        where
          single : P (record { column = n; by = y n }) → All P ((record { column = n; by = y n }) ∷ [])
          single p = λ k d g. subst (λ i. P (get_or ((record { column = n; by = y n }) ∷ []) i d)) (let e : 0 ≡ k = omega arith in e) p
      own (negsuc k) e = single (h n (omega arith) (λ f. cc (f, e)))
        where
          single : P (record { column = n; by = y n }) → All P ((record { column = n; by = y n }) ∷ [])
          single p = λ k d g. subst (λ i. P (get_or ((record { column = n; by = y n }) ∷ []) i d)) (let e : 0 ≡ k = omega arith in e) p

  abbrev IsAscending : List Multiplier → Type 0
  IsAscending ms = (k : ℕ) → k + 1 < length ms → (multiplier_at ms k).column < (multiplier_at ms (k + 1)).column

  pub collected_ascending : (n : ℕ) → IsAscending (collected y n)
  collected_ascending zero = λ k h. absurd (omega arith)
  collected_ascending (suc n) = more (collected_ascending n) (y n).num
    where
      below : All (λ m. m.column < n) (collected y n)
      below = collected_all (λ m. m.column < n) n (λ c h e. h)

      add : IsAscending (collected y n) → (x : Ratio) → IsAscending (collected y n ++ (record { column = n; by = x }) ∷ [])
      add before x = λ k h.
          let xs = collected y n in
          let m : Multiplier = record { column = n; by = x } in
          let d : Multiplier = record { column = 0; by = none } in
          let e : length (xs ++ m ∷ []) ≡ suc (length xs) = omega (arith, length-append xs (m ∷ [])) in
          by_lt (k + 1) (length xs)
          (λ l.
          let first : k < length xs = omega arith in
          let a = get_or-append xs (m ∷ []) d k first in
          let b = get_or-append xs (m ∷ []) d (k + 1) l in
          let ih = before k l in
          subst (λ (p : Multiplier). p.column < (multiplier_at (xs ++ m ∷ []) (k + 1)).column) (sym a) (subst (λ (p : Multiplier). (multiplier_at xs k).column < p.column) (sym b) ih))
          (λ l.
          let first : k < length xs = omega arith in
          let last : length xs ≡ k + 1 = omega arith in
          let a = get_or-append xs (m ∷ []) d k first in
          let b : multiplier_at (xs ++ m ∷ []) (k + 1) ≡ m = ap (λ i. multiplier_at (xs ++ m ∷ []) i) (sym last) ∙ get_or-append_seam xs m [] d in
          subst (λ (p : Multiplier). p.column < (multiplier_at (xs ++ m ∷ []) (k + 1)).column) (sym a) (subst (λ (p : Multiplier). (multiplier_at xs k).column < p.column) (sym b) (below k d first)))

      more : IsAscending (collected y n) → (z : ℤ) → IsAscending (collected y n ++ one_of n z (y n))
      more before (pos zero) = subst IsAscending (sym (append-nil (collected y n))) before
      more before (pos (suc k)) = add before (y n)
      more before (negsuc k) = add before (y n)
