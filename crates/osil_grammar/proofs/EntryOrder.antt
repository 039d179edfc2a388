-- Entries in order: by the test of a sort, by indices, and after a change at the end.
use Rattle.osil_grammar.proofs.Words.{◌≡◌, ◌⊎◌, ℕ, zero, suc, ◌+◌, ◌<◌, Bool, true, false, not, cond, nat_eq, List, [], ◌∷◌, ◌++◌, length, get_or, arith, refl, sym, ◌∙◌, ap₂, subst, ⊎_elim, inl, inr, ◌&&◌, All, filter, cases_Bool, cases_order, true≢false, lt-ltb, le-ltb, eq-eqb, ne_eqb, All-nil, All-cons, Entry, IsBefore, IsAscending, Follow, AllFollow, IsRising}
use Rattle.std.specs.Ordering.{is_lt, nat_cmp, ordering_then}

-- the test that the first is before the second, of rows and columns
abbrev pub is_less : ℕ → ℕ → ℕ → ℕ → Bool
is_less a b c d = is_lt (ordering_then (nat_cmp a c) (nat_cmp b d))

first_less : (a b c d : ℕ) → a < c → is_less a b c d ≡ true
first_less a b c d h = rw (lt-ltb a c h) refl

first_more : (a b c d : ℕ) → c < a → is_less a b c d ≡ false
first_more a b c d h = rw (le-ltb a c (omega arith), ne_eqb a c (λ e. omega arith)) refl

second_less : (a b c d : ℕ) → a ≡ c → b < d → is_less a b c d ≡ true
second_less a b c d e h = rw (le-ltb a c (omega arith), eq-eqb a c e, lt-ltb b d h) refl

second_more : (a b c d : ℕ) → a ≡ c → d < b → is_less a b c d ≡ false
second_more a b c d e h = rw (le-ltb a c (omega arith), eq-eqb a c e, le-ltb b d (omega arith), ne_eqb b d (λ q. omega arith)) refl

second_same : (a b c d : ℕ) → a ≡ c → b ≡ d → is_less a b c d ≡ false
second_same a b c d e h = rw (le-ltb a c (omega arith), eq-eqb a c e, le-ltb b d (omega arith), eq-eqb b d h) refl

-- neither is before the other just where both have one place
abbrev pub is_tie : ℕ → ℕ → ℕ → ℕ → Bool
is_tie a b c d = not (is_less a b c d) && not (is_less c d a b)

tie_of : (a b c d : ℕ) (x y s t : Bool) → is_less a b c d ≡ x → is_less c d a b ≡ y → nat_eq c a ≡ s → nat_eq d b ≡ t → (not x && not y) ≡ (s && t) → is_tie a b c d ≡ (nat_eq c a && nat_eq d b)
tie_of a b c d x y s t p q e f same = ap₂ (λ x y. not x && not y) p q ∙ same ∙ sym (ap₂ (λ s t. s && t) e f)

pub ties_are_places : (a b c d : ℕ) → is_tie a b c d ≡ (nat_eq c a && nat_eq d b)
ties_are_places a b c d =
    ⊎_elim
    (λ same. ⊎_elim
    (λ e. tie_of a b c d false false true true (second_same a b c d same e) (second_same c d a b (sym same) (sym e)) (eq-eqb c a (sym same)) (eq-eqb d b (sym e)) refl)
    (λ o. ⊎_elim
    (λ l. tie_of a b c d true false true false (second_less a b c d same l) (second_more c d a b (sym same) l) (eq-eqb c a (sym same)) (ne_eqb d b (λ q. omega arith)) refl)
    (λ m. tie_of a b c d false true true false (second_more a b c d same m) (second_less c d a b (sym same) m) (eq-eqb c a (sym same)) (ne_eqb d b (λ q. omega arith)) refl)
    o)
    (cases_order b d))
    (λ o. ⊎_elim
    (λ l. tie_of a b c d true false false (nat_eq d b) (first_less a b c d l) (first_more c d a b l) (ne_eqb c a (λ q. omega arith)) refl refl)
    (λ m. tie_of a b c d false true false (nat_eq d b) (first_more a b c d m) (first_less c d a b m) (ne_eqb c a (λ q. omega arith)) refl refl)
    o)
    (cases_order a c)

before_is_less : (a b : Entry) → IsBefore a b → is_less a.row a.col b.row b.col ≡ true
before_is_less a b h = ⊎_elim (λ l. first_less a.row a.col b.row b.col l) (λ p. second_less a.row a.col b.row b.col p.0 p.1) h

-- what isn't less isn't before
pub not_before : (a b : Entry) → is_less a.row a.col b.row b.col ≡ false → IsBefore a b → ⊥
not_before a b off h = true≢false (sym (before_is_less a b h) ∙ off)

-- by indices
pub follow_from_indices : (R : Entry → Entry → Type 0) (a : Entry) (es : List Entry) → ((k : ℕ) (d : Entry) → k + 1 < length (a ∷ es) → R (get_or (a ∷ es) k d) (get_or (a ∷ es) (k + 1) d)) → Follow R a es
follow_from_indices R a [] h = tt
follow_from_indices R a (b ∷ es) h =
    (h 0 a (omega arith), follow_from_indices R b es (λ k d l. let e : suc k + 1 ≡ suc (k + 1) = omega arith in subst (λ n. R (get_or (b ∷ es) k d) (get_or (a ∷ b ∷ es) n d)) e (h (suc k) d (omega arith))))

pub all_from_indices : (R : Entry → Entry → Type 0) (es : List Entry) → ((k : ℕ) (d : Entry) → k + 1 < length es → R (get_or es k d) (get_or es (k + 1) d)) → AllFollow R es
all_from_indices R [] h = tt
all_from_indices R (a ∷ es) h = follow_from_indices R a es h

pub follow_at : (R : Entry → Entry → Type 0) (a : Entry) (es : List Entry) → Follow R a es → (k : ℕ) (d : Entry) → k + 1 < length (a ∷ es) → R (get_or (a ∷ es) k d) (get_or (a ∷ es) (k + 1) d)
follow_at R a [] f k d h = absurd (omega arith)
follow_at R a (b ∷ es) f zero d h = f.0
follow_at R a (b ∷ es) f (suc k) d h =
    let e : suc (k + 1) ≡ suc k + 1 = omega arith in
    subst (λ n. R (get_or (b ∷ es) k d) (get_or (a ∷ b ∷ es) n d)) e (follow_at R b es f.1 k d (omega arith))

pub ascending : (es : List Entry) → IsRising es → IsAscending es
ascending [] r k d h = absurd (omega arith)
ascending (a ∷ es) r k d h = follow_at IsBefore a es r k d h

-- the order is one
pub before_trans : (a b c : Entry) → IsBefore a b → IsBefore b c → IsBefore a c
before_trans a b c p q =
    ⊎_elim (λ l. ⊎_elim (λ m. inl (omega arith)) (λ m. inl (omega arith)) q)
    (λ l. ⊎_elim (λ m. inl (omega arith)) (λ m. inr (omega arith, omega arith)) q) p

pub before_alike : (a b c d : Entry) → a.row ≡ c.row → a.col ≡ c.col → b.row ≡ d.row → b.col ≡ d.col → IsBefore a b → IsBefore c d
before_alike a b c d p q r s h = ⊎_elim (λ l. inl (omega arith)) (λ l. inr (omega arith, omega arith)) h

-- of two one is before the other, or both have one place
pub which_first : (e f : Entry) → IsBefore e f ⊎ (IsBefore f e ⊎ ((e.row ≡ f.row) × (e.col ≡ f.col)))
which_first e f =
    ⊎_elim
    (λ same. ⊎_elim (λ c. inr (inr (same, c))) (λ o. ⊎_elim (λ l. inl (inr (same, l))) (λ m. inr (inl (inr (sym same, m)))) o) (cases_order e.col f.col))
    (λ o. ⊎_elim (λ l. inl (inl l)) (λ m. inr (inl (inl m))) o)
    (cases_order e.row f.row)

pub before_or_same : (a b : Entry) → (IsBefore b a → ⊥) → ((a.row ≡ b.row) × (a.col ≡ b.col) → ⊥) → IsBefore a b
before_or_same a b late apart = ⊎_elim (λ before. before) (λ other. absurd (⊎_elim late apart other)) (which_first a b)

-- another entry in place of one, and another end behind it
pub follow_change : (R : Entry → Entry → Type 0) (x y : Entry) (xs ys : List Entry) → ((a : Entry) → R a x → R a y) → (Follow R x xs → Follow R y ys) → (a : Entry) (es : List Entry) → Follow R a (es ++ x ∷ xs) → Follow R a (es ++ y ∷ ys)
follow_change R x y xs ys to behind a [] f = (to a f.0, behind f.1)
follow_change R x y xs ys to behind a (e ∷ es) f = (f.0, follow_change R x y xs ys to behind e es f.1)

pub all_change : (R : Entry → Entry → Type 0) (x y : Entry) (xs ys : List Entry) → ((a : Entry) → R a x → R a y) → (Follow R x xs → Follow R y ys) → (es : List Entry) → AllFollow R (es ++ x ∷ xs) → AllFollow R (es ++ y ∷ ys)
all_change R x y xs ys to behind [] f = behind f
all_change R x y xs ys to behind (e ∷ es) f = follow_change R x y xs ys to behind e es f

-- what is behind an entry in the middle
pub follow_behind : (R : Entry → Entry → Type 0) (x : Entry) (xs : List Entry) (a : Entry) (es : List Entry) → Follow R a (es ++ x ∷ xs) → Follow R x xs
follow_behind R x xs a [] f = f.1
follow_behind R x xs a (e ∷ es) f = follow_behind R x xs e es f.1

pub all_behind_one : (R : Entry → Entry → Type 0) (x : Entry) (xs : List Entry) (es : List Entry) → AllFollow R (es ++ x ∷ xs) → Follow R x xs
all_behind_one R x xs [] f = f
all_behind_one R x xs (e ∷ es) f = follow_behind R x xs e es f

-- where entries rise, each is before the last
rise_to_last : (a : Entry) (es : List Entry) (x : Entry) → Follow IsBefore a (es ++ x ∷ []) → IsBefore a x
rise_to_last a [] x f = f.0
rise_to_last a (e ∷ es) x f = before_trans a e x f.0 (rise_to_last e es x f.1)

pub follow_before_last : (a : Entry) (es : List Entry) (x : Entry) → Follow IsBefore a (es ++ x ∷ []) → All (λ e. IsBefore e x) es
follow_before_last a [] x f = All-nil (λ e. IsBefore e x)
follow_before_last a (e ∷ es) x f = All-cons (λ e. IsBefore e x) e es (rise_to_last e es x f.1) (follow_before_last e es x f.1)

pub all_before_last : (es : List Entry) (x : Entry) → IsRising (es ++ x ∷ []) → All (λ e. IsBefore e x) es
all_before_last [] x f = All-nil (λ e. IsBefore e x)
all_before_last (e ∷ es) x f = All-cons (λ e. IsBefore e x) e es (rise_to_last e es x f) (follow_before_last e es x f)

-- what rises from an entry rises from each before it
rise_on : (a b : Entry) (es : List Entry) → IsBefore a b → Follow IsBefore b es → Follow IsBefore a es
rise_on a b [] h f = tt
rise_on a b (c ∷ es) h f = (before_trans a b c h f.0, f.1)

-- and the first is before all
pub rise_from : (a : Entry) (es : List Entry) → Follow IsBefore a es → All (λ e. IsBefore a e) es
rise_from a [] f = All-nil (λ e. IsBefore a e)
rise_from a (b ∷ es) f = All-cons (λ e. IsBefore a e) b es f.0 (rise_from a es (rise_on a b es f.0 f.1))

-- some of them rise too
pub follow_filter : (p : Entry → Bool) (a : Entry) (es : List Entry) → Follow IsBefore a es → Follow IsBefore a (filter p es)
follow_filter p a [] f = tt
follow_filter p a (b ∷ es) f =
    ⊎_elim
    (λ on. subst (λ t. Follow IsBefore a (cond t (b ∷ filter p es) (filter p es))) (sym on) (f.0, follow_filter p b es f.1))
    (λ off. subst (λ t. Follow IsBefore a (cond t (b ∷ filter p es) (filter p es))) (sym off) (rise_on a b (filter p es) f.0 (follow_filter p b es f.1)))
    (cases_Bool (p b))

pub rising_behind : (a : Entry) (es : List Entry) → Follow IsBefore a es → IsRising es
rising_behind a [] f = tt
rising_behind a (b ∷ es) f = f.1

pub rising_filter : (p : Entry → Bool) (es : List Entry) → IsRising es → IsRising (filter p es)
rising_filter p [] f = tt
rising_filter p (a ∷ es) f =
    ⊎_elim
    (λ on. subst (λ t. IsRising (cond t (a ∷ filter p es) (filter p es))) (sym on) (follow_filter p a es f))
    (λ off. subst (λ t. IsRising (cond t (a ∷ filter p es) (filter p es))) (sym off) (rising_filter p es (rising_behind a es f)))
    (cases_Bool (p a))
