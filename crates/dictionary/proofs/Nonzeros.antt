-- How many entries of an equation aren't 0, and sums over columns.
use Rattle.std.proofs.Common.{◌≡◌, ℕ, zero, suc, ◌+◌, ◌<◌, ◌≤◌, inl, inr, cond, nat_eq, nat_lt, ℤ, pos, negsuc, List, [], ◌∷◌, length, arith, refl, sym, ◌∙◌, ap, ap₂, subst}
use Rattle.std.proofs.lemmas.Bool.{eq-eqb, ne_eqb, lt-ltb, le-ltb}
use Rattle.rational.specs.Ratio.{Ratio}
use Rattle.evidence.proofs.Columns.{by_eq, by_lt}
use Rattle.dictionary.specs.declared.fractions.Item.{Item}
use Rattle.dictionary.specs.Row.{IsFrom, HasColumn, number_in}
use Rattle.dictionary.specs.Steps.{unless_zero, nonzeros, count_all}
use Rattle.dictionary.specs.Basis.{ArePlaces}
use Rattle.dictionary.proofs.Rows.{number_rest, number_head, none_below}

pub unless_not : (z : ℤ) (x : ℕ) → (z ≡ pos 0 → ⊥) → unless_zero z x ≡ x
unless_not (pos zero) x h = absurd (h refl)
unless_not (pos (suc n)) x h = refl
unless_not (negsuc n) x h = refl

pub nonzeros_same : (k : ℕ) (f g : ℕ → Ratio) → ((c : ℕ) → f c ≡ g c) → nonzeros k f ≡ nonzeros k g
nonzeros_same zero f g e = refl
nonzeros_same (suc k) f g e = ap₂ (λ a b. a + b) (nonzeros_same k f g e) (ap (λ (x : Ratio). unless_zero x.num 1) (e k))

-- numbers of columns below one
pub below_same : (k : ℕ) (f g : ℕ → Ratio) → ((c : ℕ) → c < k → f c ≡ g c) → nonzeros k f ≡ nonzeros k g
below_same zero f g h = refl
below_same (suc k) f g h = ap₂ (λ a b. a + b) (below_same k f g (λ c l. h c (omega arith))) (ap (λ (x : Ratio). unless_zero x.num 1) (h k (omega arith)))

-- one more that isn't 0
pub one_more : (k q : ℕ) (f g : ℕ → Ratio) → q < k → (f q).num ≡ pos 0 → ((g q).num ≡ pos 0 → ⊥) → ((c : ℕ) → (c ≡ q → ⊥) → f c ≡ g c) → nonzeros k g ≡ nonzeros k f + 1
one_more zero q f g l z n e = absurd (omega arith)
one_more (suc k) q f g l z n e =
    by_eq q k
    (λ d.
    let a : nonzeros k f ≡ nonzeros k g = below_same k f g (λ c h. e c (λ i. omega arith)) in
    let b : unless_zero (f k).num 1 ≡ 0 = subst (λ c. unless_zero (f c).num 1 ≡ 0) d (ap (λ z. unless_zero z 1) z) in
    let h : unless_zero (g k).num 1 ≡ 1 = subst (λ c. unless_zero (g c).num 1 ≡ 1) d (unless_not (g q).num 1 n) in
    omega arith)
    (λ d.
    let a = one_more k q f g (omega arith) z n e in
    let b : unless_zero (f k).num 1 ≡ unless_zero (g k).num 1 = ap (λ (x : Ratio). unless_zero x.num 1) (e k (λ i. d (sym i))) in
    omega arith)

-- a row of columns below k has no more entries than its numbers that aren't 0
pub counted : (k low high : ℕ) (xs : List Item) → IsFrom low high xs → ((c : ℕ) → HasColumn xs c → c < k) → length xs ≤ nonzeros k (number_in xs)
counted k low high [] h s = omega arith
counted k low high (x ∷ xs) h s =
    let r = counted k (x.col + 1) high xs h.2 (λ c i. s c (inr i)) in
    let e = one_more k x.col (number_in xs) (number_in (x ∷ xs)) (s x.col (inl refl)) (ap (λ (v : Ratio). v.num) (none_below x.col (x.col + 1) high xs (omega arith) h.2))
    (λ z. h.1 (sym (ap (λ (v : Ratio). v.num) (number_head x xs low high h)) ∙ z)) (λ c d. sym (number_rest x xs c (λ i. d (sym i)))) in
    omega arith

-- a sum without its part at q
abbrev pub left_out : ℕ → (ℕ → ℕ) → ℕ → ℕ
left_out q f c = cond (nat_eq c q) 0 (f c)

pub left_own : (q : ℕ) (f : ℕ → ℕ) (c : ℕ) → c ≡ q → left_out q f c ≡ 0
left_own q f c e = rw (eq-eqb c q e) refl

pub left_other : (q : ℕ) (f : ℕ → ℕ) (c : ℕ) → (c ≡ q → ⊥) → left_out q f c ≡ f c
left_other q f c d = rw (ne_eqb c q d) refl

pub all_same : (k : ℕ) (f g : ℕ → ℕ) → ((c : ℕ) → c < k → f c ≡ g c) → count_all k f ≡ count_all k g
all_same zero f g e = refl
all_same (suc k) f g e = ap₂ (λ a b. a + b) (all_same k f g (λ c h. e c (omega arith))) (e k (omega arith))

pub taken_out : (k q : ℕ) (f : ℕ → ℕ) → q < k → count_all k f ≡ count_all k (left_out q f) + f q
taken_out zero q f h = absurd (omega arith)
taken_out (suc k) q f h =
    by_eq q k
    (λ d.
    let a = all_same k f (left_out q f) (λ c l. sym (left_other q f c (λ i. omega arith))) in
    let b = left_own q f k (sym d) in
    let g = ap f d in
    omega arith)
    (λ d.
    let a = taken_out k q f (omega arith) in
    let b = left_other q f k (λ i. d (sym i)) in
    omega arith)

-- the sum over columns that differ is at most that over all
pub some_of_all : (m k : ℕ) (at : ℕ → ℕ) (f : ℕ → ℕ) → ((i : ℕ) → i < m → at i < k) → ((i j : ℕ) → i < m → j < m → at i ≡ at j → i ≡ j) → count_all m (λ i. f (at i)) ≤ count_all k f
some_of_all zero k at f inside one = omega arith
some_of_all (suc m) k at f inside one =
    let rest = some_of_all m k at (left_out (at m) f) (λ i h. inside i (omega arith)) (λ i j h g. one i j (omega arith) (omega arith)) in
    let e = all_same m (λ i. f (at i)) (λ i. left_out (at m) f (at i)) (λ i h. sym (left_other (at m) f (at i) (λ d. let g = one i m (omega arith) (omega arith) d in omega arith))) in
    let t = taken_out k (at m) f (inside m (omega arith)) in
    omega arith

pub all_most : (k : ℕ) (f g : ℕ → ℕ) → ((c : ℕ) → c < k → f c ≤ g c) → count_all k f ≤ count_all k g
all_most zero f g e = omega arith
all_most (suc k) f g e = let a = all_most k f g (λ c h. e c (omega arith)) in let b = e k (omega arith) in omega arith

pub unless_most : (z : ℤ) → unless_zero z 1 ≤ 1
unless_most (pos zero) = omega arith
unless_most (pos (suc n)) = omega arith
unless_most (negsuc n) = omega arith

nonzeros_all : (k : ℕ) (f : ℕ → Ratio) → nonzeros k f ≡ count_all k (λ c. unless_zero (f c).num 1)
nonzeros_all zero f = refl
nonzeros_all (suc k) f = ap (λ n. n + unless_zero (f k).num 1) (nonzeros_all k f)

-- whether a number is below n, as a count
abbrev is_low : ℕ → ℕ → ℕ
is_low n j = cond (nat_lt j n) 1 0

low_most : (n k : ℕ) → (count_all k (is_low n) ≤ k) × (count_all k (is_low n) ≤ n)
low_most n zero = (omega arith, omega arith)
low_most n (suc k) =
    let r = low_most n k in
    let a = r.0 in
    let b = r.1 in
    by_lt k n
    (λ h. let e : is_low n k ≡ 1 = rw (lt-ltb k n h) refl in (omega arith, omega arith))
    (λ h. let e : is_low n k ≡ 0 = rw (le-ltb k n h) refl in (omega arith, omega arith))

-- a row with numbers at the first n places alone has at most n
pub few_over : (n k : ℕ) (at place : ℕ → ℕ) (f : ℕ → Ratio) → ArePlaces k at place → ((c : ℕ) → n ≤ place c → (f c).num ≡ pos 0) → nonzeros k f ≤ n
few_over n k at place f p over =
    let a = nonzeros_all k f in
    let b = all_most k (λ c. unless_zero (f c).num 1) (λ c. is_low n (place c)) (λ c h. at_most c) in
    let s = some_of_all k k place (is_low n) p.stands (λ i j hi hj e. sym (p.at_place i hi) ∙ ap at e ∙ p.at_place j hj) in
    let l = low_most n k in
    let m = l.1 in
    omega arith
  where
    at_most : (c : ℕ) → unless_zero (f c).num 1 ≤ is_low n (place c)
    at_most c = by_lt (place c) n
        (λ h. let e : is_low n (place c) ≡ 1 = rw (lt-ltb (place c) n h) refl in let u = unless_most (f c).num in omega arith)
        (λ h. let e : unless_zero (f c).num 1 ≡ 0 = ap (λ z. unless_zero z 1) (over c h) in omega arith)

-- one number that changes
pub changed_one : (k q : ℕ) (f g : ℕ → Ratio) → ((c : ℕ) → (c ≡ q → ⊥) → f c ≡ g c) → nonzeros k g ≤ nonzeros k f + 1
changed_one zero q f g e = omega arith
changed_one (suc k) q f g e =
    by_eq q k
    (λ d.
    let a : nonzeros k f ≡ nonzeros k g = below_same k f g (λ c h. e c (λ i. omega arith)) in
    let u = unless_most (g k).num in
    omega arith)
    (λ d.
    let a = changed_one k q f g e in
    let b : unless_zero (f k).num 1 ≡ unless_zero (g k).num 1 = ap (λ (x : Ratio). unless_zero x.num 1) (e k (λ i. d (sym i))) in
    omega arith)

pub nonzeros_most : (k : ℕ) (f : ℕ → Ratio) → nonzeros k f ≤ k
nonzeros_most zero f = omega arith
nonzeros_most (suc k) f = let a = nonzeros_most k f in let u = unless_most (f k).num in omega arith
