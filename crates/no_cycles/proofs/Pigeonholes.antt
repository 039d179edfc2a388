-- Pigeonholes, and how many bases with places there are.
use Rattle.std.proofs.Common.{◌≡◌, ℕ, zero, suc, ◌+◌, ◌*◌, ◌^◌, ◌<◌, ◌≤◌, ◌⊎◌, inl, inr, cond, nat_eq, List, refl, sym, ◌∙◌, ap, arith}
use Rattle.std.proofs.lemmas.Bool.{eq-eqb, ne_eqb}
use Rattle.evidence.proofs.Columns.{by_eq}
use Rattle.simplex_rules.specs.declared.columns.Status.{Status}
use Rattle.simplex_rules.specs.declared.columns.Status.TheVariants.{Basic, Lower, Upper, Zero}
use Rattle.simplex_rules.specs.Statuses.{status_at}

-- whether one of the first numbers is v
found : (f : ℕ → ℕ) (v k : ℕ) → ((i : ℕ) × (i ≤ k) × (f i ≡ v)) ⊎ ((i : ℕ) → i ≤ k → f i ≡ v → ⊥)
found f v zero = by_eq (f 0) v (λ e. inl (0, omega arith, e)) (λ d. inr (λ i h e. let z : i ≡ 0 = omega arith in d (ap f (sym z) ∙ e)))
found f v (suc k) = by_eq (f (suc k)) v (λ e. inl (suc k, omega arith, e)) (λ d. further (found f v k) d)
  where
    further : ((i : ℕ) × (i ≤ k) × (f i ≡ v)) ⊎ ((i : ℕ) → i ≤ k → f i ≡ v → ⊥) → (f (suc k) ≡ v → ⊥) → ((i : ℕ) × (i ≤ suc k) × (f i ≡ v)) ⊎ ((i : ℕ) → i ≤ suc k → f i ≡ v → ⊥)
    further (inl (i, h, e)) d = inl (i, omega arith, e)
    further (inr never) d = inr (λ i h e. by_eq i (suc k) (λ z. d (ap f (sym z) ∙ e)) (λ z. never i (omega arith) e))

-- k + 1 different numbers below m are at most m
pub pigeons : (m : ℕ) (f : ℕ → ℕ) (k : ℕ) → ((i : ℕ) → i ≤ k → f i < m) → ((i j : ℕ) → i ≤ k → j ≤ k → f i ≡ f j → i ≡ j) → k < m
pigeons zero f k low one = let h = low 0 (omega arith) in absurd (omega arith)
pigeons (suc m) f zero low one = omega arith
pigeons (suc m) f (suc k) low one = by (λ g n a b. pigeons m g n a b) (found f m (suc k))
  where
    by : ((g : ℕ → ℕ) (n : ℕ) → ((i : ℕ) → i ≤ n → g i < m) → ((i j : ℕ) → i ≤ n → j ≤ n → g i ≡ g j → i ≡ j) → n < m) → ((i : ℕ) × (i ≤ suc k) × (f i ≡ m)) ⊎ ((i : ℕ) → i ≤ suc k → f i ≡ m → ⊥) → suc k < suc m
    by again (inr never) =
        let h = again f (suc k) (λ i h. let l = low i h in let d = never i h in by_eq (f i) m (λ e. absurd (d e)) (λ e. omega arith)) one in
        omega arith
    by again (inl (i, h, e)) =
        let g : ℕ → ℕ = λ j. cond (nat_eq j i) (f (suc k)) (f j) in
        let at : g i ≡ f (suc k) = let z : i ≡ i = refl in rw (eq-eqb i i z) refl in
        let off : (j : ℕ) → (j ≡ i → ⊥) → g j ≡ f j = λ j d. rw (ne_eqb j i d) refl in
        let inside : (j : ℕ) → j ≤ k → g j < m = λ j l.
        by_eq j i
        (λ z.
        let a : g j ≡ f (suc k) = ap g z ∙ at in
        let b = low (suc k) (omega arith) in
        by_eq (f (suc k)) m (λ y. let x = one i (suc k) h (omega arith) (e ∙ sym y) in absurd (omega arith)) (λ y. omega arith))
        (λ z.
        let a = off j z in
        let b = low j (omega arith) in
        by_eq (f j) m (λ y. absurd (z (one j i (omega arith) h (y ∙ sym e)))) (λ y. omega arith)) in
        let same : (a b : ℕ) → a ≤ k → b ≤ k → g a ≡ g b → a ≡ b = λ a b p q y.
        by_eq a i
        (λ z. by_eq b i (λ x. z ∙ sym x)
        (λ x. let c = one (suc k) b (omega arith) (omega arith) (sym (ap g z ∙ at) ∙ y ∙ off b x) in absurd (omega arith)))
        (λ z. by_eq b i
        (λ x. let c = one (suc k) a (omega arith) (omega arith) (sym (ap g x ∙ at) ∙ sym y ∙ off a z) in absurd (omega arith))
        (λ x. one a b (omega arith) (omega arith) (sym (off a z) ∙ y ∙ off b x))) in
        let h = again g k inside same in
        omega arith

-- a basis with its places as a number, one digit a column
abbrev pub digit : Status → ℕ
digit Basic = 0
digit Lower = 1
digit Upper = 2
digit Zero = 3

digit_below : (s : Status) → digit s < 4
digit_below Basic = omega arith
digit_below Lower = omega arith
digit_below Upper = omega arith
digit_below Zero = omega arith

digit_one : (s t : Status) → digit s ≡ digit t → s ≡ t
digit_one Basic Basic e = refl
digit_one Basic Lower e = absurd (omega arith)
digit_one Basic Upper e = absurd (omega arith)
digit_one Basic Zero e = absurd (omega arith)
digit_one Lower Basic e = absurd (omega arith)
digit_one Lower Lower e = refl
digit_one Lower Upper e = absurd (omega arith)
digit_one Lower Zero e = absurd (omega arith)
digit_one Upper Basic e = absurd (omega arith)
digit_one Upper Lower e = absurd (omega arith)
digit_one Upper Upper e = refl
digit_one Upper Zero e = absurd (omega arith)
digit_one Zero Basic e = absurd (omega arith)
digit_one Zero Lower e = absurd (omega arith)
digit_one Zero Upper e = absurd (omega arith)
digit_one Zero Zero e = refl

abbrev pub code : List Status → ℕ → ℕ
code ss zero = 0
code ss (suc g) = code ss g * 4 + digit (status_at ss g)

pub code_below : (ss : List Status) (g : ℕ) → code ss g < 4 ^ g
code_below ss zero = omega arith
code_below ss (suc g) =
    let h = code_below ss g in
    let d = digit_below (status_at ss g) in
    let p : 4 ^ suc g ≡ 4 ^ g * 4 = omega arith in
    omega arith

pub code_one : (ss ts : List Status) (g : ℕ) → code ss g ≡ code ts g → (c : ℕ) → c < g → status_at ss c ≡ status_at ts c
code_one ss ts zero e c h = absurd (omega arith)
code_one ss ts (suc g) e c h =
    let p = digit_below (status_at ss g) in
    let q = digit_below (status_at ts g) in
    let before : code ss g ≡ code ts g = omega arith in
    let last : digit (status_at ss g) ≡ digit (status_at ts g) = omega arith in
    by_eq c g
    (λ z. ap (status_at ss) z ∙ digit_one (status_at ss g) (status_at ts g) last ∙ ap (status_at ts) (sym z))
    (λ d. code_one ss ts g before c (omega arith))
