-- Multipliers of rows, completed by those of variables: their forms are what is asked for.
use Rattle.std.proofs.Common.{◌≡◌, ℕ, zero, suc, ◌<◌, ◌≤◌, ℤ, pos, negsuc, ◌*ℤ◌, true, List, ◌∷◌, length, arith, refl, sym, ◌∙◌, ap, subst}
use Rattle.std.specs.List.{All}
use Rattle.std.proofs.Math.IntN.{zero-*ℤ}
use Rattle.std.proofs.lemmas.Bool.{lt-ltb, eq-eqb, ne_eqb}
use Rattle.std.proofs.lemmas.List.Elements.{All-cons, All-tail}
use Rattle.rational.specs.Ratio.{Ratio, whole, sum, product, negative, IsSame, IsNumber, IsBelow}
use Rattle.evidence.specs.Sums.{none, total}
use Rattle.evidence.specs.Instance.{Instance, IsInstance, width, coefficient_at, cost_at, minimising}
use Rattle.evidence.specs.Cases.{Multiplier, multiplier_at, form, low_sum, left_at, is_zero, put_before, filled, completed, no_costs, goal_costs, AreLegal, IsFarkas}
use Rattle.evidence.proofs.Numbers.{◌≈◌, ≈-refl, ≈-from, ≈-sym, ◌⊙◌, ◌▹◌, sum-≈, product-≈, product-number, sum-number, product-none, times_none, product-one, product_swap, none-sum, sum-none, sum_assoc, sum_swap}
use Rattle.evidence.proofs.Totals.{total-number, total-start}
use Rattle.evidence.proofs.Columns.{by_lt, by_bool, pick, none-number, All-anywhere, coefficient-number, value-number}
use Rattle.evidence.proofs.Duality.{minimising-number}
use Rattle.evidence.proofs.Inverses.{sum-negative}

-- the first term taken first
pub total_head : (s : Ratio) (n : ℕ) (f : ℕ → Ratio) → total s (suc n) f ≡ total (sum s (f 0)) n (λ k. f (suc k))
total_head s zero f = refl
total_head s (suc n) f = ap (λ z. sum z (f (suc n))) (total_head s n f)

pub form_cons : (I : Instance) (m : Multiplier) (ms : List Multiplier) (j : ℕ) → form I (m ∷ ms) j ≡ sum (product m.by (coefficient_at I m.column j)) (form I ms j)
form_cons I m ms j =
    let F : ℕ → Ratio = λ k. product (multiplier_at (m ∷ ms) k).by (coefficient_at I (multiplier_at (m ∷ ms) k).column j) in
    let G : ℕ → Ratio = λ k. product (multiplier_at ms k).by (coefficient_at I (multiplier_at ms k).column j) in
    total_head none (length ms) F ∙ total-start (sum none (F 0)) (length ms) G ∙ ap (λ z. sum z (form I ms j)) (none-sum (F 0))

pub zero_of : (z : ℤ) → is_zero z ≡ true → z ≡ pos 0
zero_of (pos zero) e = refl
zero_of (pos (suc n)) e = cc
zero_of (negsuc n) e = cc

pub zero-none : (x : Ratio) → IsNumber x → x.num ≡ pos 0 → x ≈ none
zero-none x p e = record { left = p; right = none-number; is = ap (λ z. z *ℤ pos 1) e ∙ zero-*ℤ (pos 1) ∙ sym (zero-*ℤ (pos x.den)) }

module _ (I : Instance) (good : IsInstance I) where
  pub form-of_numbers : (ms : List Multiplier) → All (λ m. IsNumber m.by) ms → (j : ℕ) → IsNumber (form I ms j)
  form-of_numbers ms p j =
      total-number none (length ms) (λ k. product (multiplier_at ms k).by (coefficient_at I (multiplier_at ms k).column j)) none-number
      (λ k. product-number (multiplier_at ms k).by (coefficient_at I (multiplier_at ms k).column j) (All-anywhere (λ m. IsNumber m.by) ms (record { column = 0; by = none }) none-number p k) (coefficient-number I good (multiplier_at ms k).column j))

  pub put-numbers : (m : Multiplier) (ms : List Multiplier) → IsNumber m.by → All (λ m. IsNumber m.by) ms → All (λ m. IsNumber m.by) (put_before m ms)
  put-numbers m ms p q = pick (All (λ m. IsNumber m.by)) (is_zero m.by.num) ms (m ∷ ms) q (All-cons (λ m. IsNumber m.by) m ms p q)

  -- a multiplier that is left out is 0
  put_form : (m : Multiplier) (ms : List Multiplier) (j : ℕ) → IsNumber m.by → All (λ m. IsNumber m.by) ms → form I (put_before m ms) j ≈ sum (product m.by (coefficient_at I m.column j)) (form I ms j)
  put_form m ms j p q =
      let c : Ratio = coefficient_at I m.column j in
      let pc : IsNumber c = coefficient-number I good m.column j in
      let here : IsNumber (form I ms j) = form-of_numbers ms q j in
      by_bool (is_zero m.by.num)
      (λ e.
      let z : product m.by c ≈ none = product-≈ (zero-none m.by p (zero_of m.by.num e)) (≈-refl pc) ⊙ product-none c pc in
      let all : form I ms j ≈ sum (product m.by c) (form I ms j) = ≈-sym (sum-≈ z (≈-refl here) ▹ none-sum (form I ms j)) in
      rw e all)
      (λ e. rw e (≈-sym (≈-from (sum-number (product m.by c) (form I ms j) (product-number m.by c p pc) here) (sym (form_cons I m ms j)))))

  module _ (t : ℕ → Ratio) (pt : (j : ℕ) → IsNumber (t j)) (ms : List Multiplier) (pm : All (λ m. IsNumber m.by) ms) where
    abbrev left : ℕ → Ratio
    left j = left_at I t ms j

    abbrev own : ℕ → Multiplier
    own n = record { column = n; by = left n }

    pub left-number : (j : ℕ) → IsNumber (left j)
    left-number j = sum-number (t j) (negative (form I ms j)) (pt j) (form-of_numbers ms pm j)

    -- the multiplier of another variable adds nothing
    other : (n j : ℕ) (rest : List Multiplier) → All (λ m. IsNumber m.by) rest → n < width I → (n ≡ j → ⊥) → form I (put_before (own n) rest) j ≈ form I rest j
    other n j rest q h ne =
        let e : coefficient_at I n j ≡ none = rw (lt-ltb n (width I) h) (rw (ne_eqb n j ne) refl) in
        let z : product (left n) (coefficient_at I n j) ≈ none = subst (λ c. product (left n) c ≈ none) (sym e) (times_none (left n) (left-number n)) in
        put_form (own n) rest j (left-number n) q ⊙ sum-≈ z (≈-refl (form-of_numbers rest q j)) ▹ none-sum (form I rest j)

    -- its own adds what is left
    itself : (n j : ℕ) (rest : List Multiplier) → All (λ m. IsNumber m.by) rest → n < width I → n ≡ j → form I (put_before (own n) rest) j ≈ sum (left j) (form I rest j)
    itself n j rest q h e =
        let one : coefficient_at I n j ≡ whole (pos 1) = rw (lt-ltb n (width I) h) (rw (eq-eqb n j e) refl) in
        let z : product (left n) (coefficient_at I n j) ≡ left j = ap (λ c. product (left n) c) one ∙ product_swap (left n) (whole (pos 1)) ∙ product-one (left n) ∙ ap left e in
        put_form (own n) rest j (left-number n) q ▹ ap (λ z. sum z (form I rest j)) z

    past : (n : ℕ) (rest : List Multiplier) → All (λ m. IsNumber m.by) rest → n ≤ width I → (j : ℕ) → n ≤ j → form I (filled I t ms n rest) j ≈ form I rest j
    past zero rest q h j l = ≈-refl (form-of_numbers rest q j)
    past (suc n) rest q h j l =
        past n (put_before (own n) rest) (put-numbers (own n) rest (left-number n) q) (omega arith) j (omega arith)
        ⊙ other n j rest q (omega arith) (λ e. omega arith)

    inside : (n : ℕ) (rest : List Multiplier) → All (λ m. IsNumber m.by) rest → n ≤ width I → (j : ℕ) → j < n → form I (filled I t ms n rest) j ≈ sum (left j) (form I rest j)
    inside zero rest q h j l = absurd (omega arith)
    inside (suc n) rest q h j l =
        let more = put-numbers (own n) rest (left-number n) q in
        by_lt j n
        (λ before. inside n (put_before (own n) rest) more (omega arith) j before ⊙ sum-≈ (≈-refl (left-number j)) (other n j rest q (omega arith) (λ e. omega arith)))
        (λ up. past n (put_before (own n) rest) more (omega arith) j up ⊙ itself n j rest q (omega arith) (omega arith))

    -- the form at each variable is what is asked for
    pub completed_form : (j : ℕ) → j < width I → form I (completed I t ms) j ≈ t j
    completed_form j h =
        let f : Ratio = form I ms j in
        let pf : IsNumber f = form-of_numbers ms pm j in
        let gone : sum (negative f) f ≈ none = ≈-from (sum-number (negative f) f pf pf) (sum_swap (negative f) f) ⊙ sum-negative f pf in
        inside (width I) ms pm (omega arith) j h ▹ sum_assoc (t j) (negative f) f ⊙ sum-≈ (≈-refl (pt j)) gone ▹ sum-none (t j)

-- numbers of the completed list are those of the rows too
unput : (m : Multiplier) (ms : List Multiplier) → All (λ m. IsNumber m.by) (put_before m ms) → All (λ m. IsNumber m.by) ms
unput m ms = pick (λ ns. All (λ m. IsNumber m.by) ns → All (λ m. IsNumber m.by) ms) (is_zero m.by.num) ms (m ∷ ms) (λ p. p) (λ p. All-tail (λ m. IsNumber m.by) m ms p)

pub rest-numbers : (I : Instance) (t : ℕ → Ratio) (ms : List Multiplier) (n : ℕ) (rest : List Multiplier) → All (λ m. IsNumber m.by) (filled I t ms n rest) → All (λ m. IsNumber m.by) rest
rest-numbers I t ms zero rest p = p
rest-numbers I t ms (suc n) rest p =
    let own : Multiplier = record { column = n; by = left_at I t ms n } in
    unput own rest (rest-numbers I t ms n (put_before own rest) p)

pub costs-number : (I : Instance) → IsInstance I → (j : ℕ) → IsNumber (goal_costs I j)
costs-number I good j = minimising-number I (cost_at I j) (value-number I.goal.costs good.costs j)

pub completed_farkas : (I : Instance) → IsInstance I → (ms : List Multiplier) → All (λ m. IsNumber m.by) ms → AreLegal I (completed I no_costs ms) → IsBelow none (low_sum I none (completed I no_costs ms)) → IsFarkas I (completed I no_costs ms)
completed_farkas I good ms p legal above = record {
  legal = legal;
  vanishes = λ j h. let e = completed_form I good no_costs (λ j. none-number) ms p j h in e.is;
  above = above;
}

pub completed_costs : (I : Instance) → IsInstance I → (ms : List Multiplier) → All (λ m. IsNumber m.by) ms → (j : ℕ) → j < width I → IsSame (form I (completed I (goal_costs I) ms) j) (minimising I (cost_at I j))
completed_costs I good ms p j h = let e = completed_form I good (goal_costs I) (costs-number I good) ms p j h in e.is
