-- Finitely many choices, the greatest of finitely many numbers, and where a truth value changes.
use Rattle.std.proofs.Common.{◌≡◌, ℕ, zero, suc, ◌+◌, ◌-◌, ◌<◌, ◌≤◌, Bool, true, false, cond, nat_eq, refl, sym, ◌∙◌, ap, subst, arith}
use Rattle.std.proofs.lemmas.Bool.{eq-eqb, ne_eqb}
use Rattle.evidence.proofs.Columns.{by_lt, by_eq}

pub chosen : {X : Type 0} (P : ℕ → X → Type 0) (other : X) (k : ℕ) → ((i : ℕ) → i < k → (x : X) × P i x) → (f : ℕ → X) × ((i : ℕ) → i < k → P i (f i))
chosen {X} P other zero g = ((λ i. other), λ i h. absurd (omega arith))
chosen {X} P other (suc k) g =
    let before = chosen P other k (λ i h. g i (omega arith)) in
    let last = g k (omega arith) in (
      (λ i. cond (nat_eq i k) last.0 (before.0 i)),
      λ i h. by_eq i k (λ e. rw (eq-eqb i k e) (subst (λ j. P j last.0) (sym e) last.1)) (λ d. rw (ne_eqb i k d) (before.1 i (omega arith))),
    )

pub greatest : (f : ℕ → ℕ) (k : ℕ) → (i : ℕ) × (i ≤ k) × ((j : ℕ) → j ≤ k → f j ≤ f i)
greatest f zero = (0, omega arith, λ j h. let e : j ≡ 0 = omega arith in let g = ap f e in omega arith)
greatest f (suc k) =
    let (i, h, g) = greatest f k in
    by_lt (f i) (f (suc k))
    (λ l. (suc k, omega arith, λ j m. by_eq j (suc k) (λ e. let z = ap f e in omega arith) (λ d. let z = g j (omega arith) in omega arith)))
    (λ l. (i, omega arith, λ j m. by_eq j (suc k) (λ e. let z = ap f e in omega arith) (λ d. g j (omega arith))))

pub by_same : {P : Type 0} (a b : Bool) → (a ≡ b → P) → ((a ≡ b → ⊥) → P) → P
by_same true true f g = f refl
by_same true false f g = g (λ e. cc)
by_same false true f g = g (λ e. cc)
by_same false false f g = f refl

changes : (f : ℕ → Bool) (v : Bool) (a n : ℕ) → f a ≡ v → (f (a + n) ≡ v → ⊥) → (q : ℕ) × (q < a + n) × (f q ≡ v) × (f (suc q) ≡ v → ⊥)
changes f v a zero h k = let e : a + 0 ≡ a = omega arith in absurd (k (ap f e ∙ h))
changes f v a (suc n) h k =
    by_same (f (a + n)) v
    (λ e. let g : a + suc n ≡ suc (a + n) = omega arith in (a + n, omega arith, e, λ z. k (ap f g ∙ z)))
    (λ d. let (q, l, e, z) = changes f v a n h d in (q, omega arith, e, z))

-- a value that is taken on in a cycle is given up in it
pub given_up : (f : ℕ → Bool) (v : Bool) (k p : ℕ) → f 0 ≡ f k → p < k → (f p ≡ v → ⊥) → f (suc p) ≡ v → (q : ℕ) × (q < k) × (f q ≡ v) × (f (suc q) ≡ v → ⊥)
given_up f v k p e h before after =
    by_same (f 0) v
    (λ z. let c : 0 + p ≡ p = omega arith in let (q, l, a, b) = changes f v 0 p z (λ y. before (ap f (sym c) ∙ y)) in (q, omega arith, a, b))
    (λ z. let c : suc p + (k - suc p) ≡ k = omega arith in let (q, l, a, b) = changes f v (suc p) (k - suc p) after (λ y. z (e ∙ ap f (sym c) ∙ y)) in (q, omega arith, a, b))
