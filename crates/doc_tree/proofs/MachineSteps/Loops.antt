-- Loops over a text: what holds of the rest holds of the whole.
use Rattle.doc_tree.proofs.Words.{List, [], ap, arith, drop, drop-cons, false, get_or, length, length-map, length-reverse, map, refl, reverse, suc, sym, take, true, ℕ, ◌+◌, ◌-◌, ◌<◌, ◌==◌, ◌∙◌, ◌∷◌, ◌≡◌, ◌≢◌}
use Rattle.doc_tree.proofs.MachineSteps.Outcomes.{last_is}

pub drop_at : {A : Type 0} (xs : List A) (i : ℕ) (x : A) → i < length xs → x ≡ get_or xs i x → drop i xs ≡ x ∷ drop (i + 1) xs
drop_at xs i x l e = let a : suc i ≡ i + 1 = omega arith in drop-cons xs i x l ∙ ap (λ z. get_or xs i x ∷ drop z xs) a ∙ ap (λ z. z ∷ drop (i + 1) xs) (sym e)

-- the open elements
zero_is : (n : ℕ) → true ≡ (n == 0) → n ≡ 0
zero_is n h = grind arith

zero_not : (n : ℕ) → false ≡ (n == 0) → n ≢ 0
zero_not n h = grind arith

pub names_none : {A : Type 0} (f : A → List ℕ) (xs ys : List A) → ys ≡ xs → true ≡ (length ys == 0) → reverse (map f xs) ≡ []
names_none f [] ys e h = refl
names_none f (x ∷ xs) ys e h = let l = ap length e in let z = zero_is (length ys) h in absurd (omega arith)

pub names_some : {A : Type 0} (f : A → List ℕ) (xs : List A) → length xs ≢ 0 → reverse (map f xs) ≢ []
names_some f xs n e = let l = ap length e in let r = length-reverse (map f xs) in let m = length-map xs f in n (omega arith)

pub names_open : {A : Type 0} (f : A → List ℕ) (xs ys : List A) → ys ≡ xs → false ≡ (length ys == 0) → reverse (map f xs) ≢ []
names_open f xs ys e h = names_some f xs (λ z. zero_not (length ys) h (ap length e ∙ z))

pub empty_is : {A : Type 0} (xs : List A) → true ≡ (length xs == 0) → xs ≡ []
empty_is [] h = refl
empty_is (x ∷ xs) h = let z = zero_is (length (x ∷ xs)) h in absurd (omega arith)

pub not_empty : {A : Type 0} (xs : List A) → false ≡ (length xs == 0) → xs ≢ []
not_empty xs h e = zero_not (length xs) h (ap length e)

pub open_last : {A : Type 0} (f : A → List ℕ) (names xs : List A) (x : A) → xs ≡ names → length xs ≢ 0 → x ≡ get_or xs (length xs - 1) x → reverse (map f names) ≡ f x ∷ reverse (map f (take (length xs - 1) xs))
open_last f names xs x e n i = ap (λ z. reverse (map f z)) (sym e) ∙ last_is f xs x (omega arith) i
