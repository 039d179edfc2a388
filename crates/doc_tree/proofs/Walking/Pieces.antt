-- The bytes that a walk takes, as pieces of those that there are.
use Rattle.doc_tree.proofs.Words.{Each, IsName, IsNameChar, IsNameStart, List, [], ap, append_assoc, arith, drop, get_or, get_or-drop, length, length-append, length-map, length-reverse, map, reverse, subst, suc, sym, take, take-add, take-append_seam, take_more, take_rest, ℕ, ◌++◌, ◌+◌, ◌-◌, ◌<◌, ◌∙◌, ◌∷◌, ◌≡◌, ◌≢◌, ◌≤◌}
use Rattle.doc_tree.proofs.MachineSteps.{each_longer}

-- one more of a kind
pub each_taken : (P : ℕ → Type 0) (xs : List ℕ) (i d : ℕ) → i < length xs → Each P (take i xs) → P (get_or xs i d) → Each P (take (i + 1) xs)
each_taken P xs i d l h p = subst (Each P) (sym (take_more xs i d l)) (each_longer P (take i xs) (get_or xs i d) h p)

pub take_cons : (n m x : ℕ) (xs : List ℕ) → m ≡ n + 1 → take m (x ∷ xs) ≡ x ∷ take n xs
take_cons n m x xs e = let s : m ≡ suc n = omega arith in ap (λ z. take z (x ∷ xs)) s

pub name_taken : (n x : ℕ) (xs bytes : List ℕ) → bytes ≡ x ∷ xs → IsNameStart x → Each IsNameChar (take n xs) → IsName (take (1 + n) bytes)
name_taken n x xs bytes e i h = subst (λ z. IsName (take (1 + n) z)) (sym e) (subst IsName (sym (take_cons n (1 + n) x xs (omega arith))) (i, h))

pub some_taken : (n : ℕ) (xs : List ℕ) → n ≢ 0 → n ≤ length xs → take n xs ≢ []
some_taken n [] m l = absurd (m (omega arith))
some_taken n (x ∷ xs) m l = λ e. let p = n - 1 in let q : take n (x ∷ xs) ≡ x ∷ take p xs = take_cons p n x xs (omega arith) in cc

pub closed_taken : (n d : ℕ) (rest : List ℕ) → n < length rest → get_or rest n d ≡ 62 → take (n + 2) (60 ∷ rest) ≡ 60 ∷ (take n rest ++ 62 ∷ [])
closed_taken n d rest l e = take_cons (n + 1) (n + 2) 60 rest (omega arith) ∙ ap (λ z. 60 ∷ z) (take_more rest n d l ∙ ap (λ z. take n rest ++ z ∷ []) e)

pub end_taken : (n : ℕ) (name rest more : List ℕ) → n ≡ length name → rest ≡ name ++ (62 ∷ more) → take (n + 3) (60 ∷ 47 ∷ rest) ≡ 60 ∷ 47 ∷ (name ++ 62 ∷ [])
end_taken n name rest more e f =
    let whole : rest ≡ (name ++ 62 ∷ []) ++ more = f ∙ sym (append_assoc name (62 ∷ []) more) in
    let size : n + 1 ≡ length (name ++ 62 ∷ []) = omega (arith, length-append name (62 ∷ [])) in
    let tail : take (n + 1) rest ≡ name ++ 62 ∷ [] = ap (take (n + 1)) whole ∙ ap (λ z. take z ((name ++ 62 ∷ []) ++ more)) size ∙ take-append_seam (name ++ 62 ∷ []) more in
    take_cons (n + 2) (n + 3) 60 (47 ∷ rest) (omega arith) ∙ ap (λ z. 60 ∷ z) (take_cons (n + 1) (n + 2) 47 rest (omega arith) ∙ ap (λ z. 47 ∷ z) tail)

-- the end of the name is that of the whole
pub end_same : (name : List ℕ) (other : List ℕ) (names outer left : List (List ℕ)) → names ≡ other ∷ outer → names ≡ name ∷ left → other ≡ name
end_same name other names outer left e f = let g : other ∷ outer ≡ name ∷ left = sym e ∙ f in cc

-- so many elements are open
pub open_few : {A : Type 0} (f : A → List ℕ) (xs : List A) → length xs < 32 → length (reverse (map f xs)) < 32
open_few f xs l = omega (arith, length-reverse (map f xs), length-map xs f)

-- a name with `=` and a quote behind it
pub quoted_taken : (n d : ℕ) (bytes : List ℕ) (quote : ℕ) (more : List ℕ) → take (length bytes - n) (drop n bytes) ≡ 61 ∷ quote ∷ more → (take (n + 2) bytes ≡ take n bytes ++ (61 ∷ quote ∷ [])) × (get_or bytes (n + 1) d ≡ quote)
quoted_taken n d bytes quote more e =
    let rest : drop n bytes ≡ 61 ∷ quote ∷ more = sym (take_rest bytes n) ∙ e in
    (take-add n 2 bytes ∙ ap (λ z. take n bytes ++ take 2 z) rest, sym (get_or-drop n bytes 1 d) ∙ ap (λ z. get_or z 1 d) rest)
