-- Places of entries.
use Rattle.std.proofs.Common.{◌≡◌, ℕ, zero, suc, ◌+◌, ◌*◌, ◌/◌, ◌^◌, ◌<◌, ◌≤◌, inl, inr, List, [], ◌∷◌, length, get_or, take, drop, arith, refl, sym, ◌∙◌, ap, subst}
use Rattle.dictionary.specs.declared.fractions.Item.{Item}
use Rattle.dictionary.specs.Row.{IsFrom, HasColumn, IsEntry}
use Rattle.dictionary.proofs.Rows.{number_rest, number_head, has_above}

pub col_above : (low high : ℕ) (xs : List Item) (i : ℕ) (x : Item) → IsFrom low high xs → i < length xs → x ≡ get_or xs i x → low ≤ x.col
col_above low high [] i x h l e = absurd (omega arith)
col_above low high (y ∷ ys) zero x h l e = let g = ap (λ (v : Item). v.col) e in let k = h.0 in omega arith
col_above low high (y ∷ ys) (suc i) x h l e = let g = col_above (y.col + 1) high ys i x h.2 (omega arith) e in let k = h.0 in omega arith

pub entry_is : (low high : ℕ) (xs : List Item) (i : ℕ) (x : Item) → IsFrom low high xs → i < length xs → x ≡ get_or xs i x → IsEntry xs x.col x.value
entry_is low high [] i x h l e = absurd (omega arith)
entry_is low high (y ∷ ys) zero x h l e = subst (λ (v : Item). IsEntry (y ∷ ys) v.col v.value) (sym e) (record { stands = inl refl; is = number_head y ys low high h; nonzero = h.1 })
entry_is low high (y ∷ ys) (suc i) x h l e =
    let r = entry_is (y.col + 1) high ys i x h.2 (omega arith) e in
    let g = col_above (y.col + 1) high ys i x h.2 (omega arith) e in
    record { stands = inr r.stands; is = number_rest y ys x.col (λ d. omega arith) ∙ r.is; nonzero = r.nonzero }

-- no entry up to one of a lesser column, and none from one of a greater on
pub not_up_to : (low high : ℕ) (xs : List Item) (i : ℕ) (x : Item) (c : ℕ) → IsFrom low high xs → i < length xs → x ≡ get_or xs i x → x.col < c → HasColumn (take (suc i) xs) c → ⊥
not_up_to low high [] i x c h l e g has = absurd (omega arith)
not_up_to low high (y ∷ ys) zero x c h l e g (inl d) = let k = ap (λ (v : Item). v.col) e in omega arith
not_up_to low high (y ∷ ys) zero x c h l e g (inr has) = has
not_up_to low high (y ∷ ys) (suc i) x c h l e g (inl d) = let k = col_above (y.col + 1) high ys i x h.2 (omega arith) e in omega arith
not_up_to low high (y ∷ ys) (suc i) x c h l e g (inr has) = not_up_to (y.col + 1) high ys i x c h.2 (omega arith) e g has

pub not_from : (low high : ℕ) (xs : List Item) (i : ℕ) (x : Item) (c : ℕ) → IsFrom low high xs → i < length xs → x ≡ get_or xs i x → c < x.col → HasColumn (drop i xs) c → ⊥
not_from low high [] i x c h l e g has = absurd (omega arith)
not_from low high (y ∷ ys) zero x c h l e g (inl d) = let k = ap (λ (v : Item). v.col) e in omega arith
not_from low high (y ∷ ys) zero x c h l e g (inr has) = let k = ap (λ (v : Item). v.col) e in let m = has_above (y.col + 1) high ys c h.2 has in omega arith
not_from low high (y ∷ ys) (suc i) x c h l e g has = not_from (y.col + 1) high ys i x c h.2 (omega arith) e g has

-- a column that is in neither part isn't there
pub not_in_parts : (xs : List Item) (i : ℕ) (c : ℕ) → (HasColumn (take i xs) c → ⊥) → (HasColumn (drop i xs) c → ⊥) → HasColumn xs c → ⊥
not_in_parts [] i c p q has = has
not_in_parts (x ∷ xs) zero c p q has = q has
not_in_parts (x ∷ xs) (suc i) c p q (inl e) = p (inl e)
not_in_parts (x ∷ xs) (suc i) c p q (inr has) = not_in_parts xs i c (λ h. p (inr h)) q has

halved : (w k : ℕ) → 0 < w → w < 2 ^ k → (j : ℕ) × (k ≡ j + 1) × (w / 2 < 2 ^ j)
halved w zero a b = absurd (omega arith)
halved w (suc j) a b =
    let e : 2 ^ suc j ≡ 2 * 2 ^ j = omega arith in
    (j, omega arith, omega arith)

-- a probe halves what is left
pub probed : (n s more t w v : ℕ) → more ≡ s + 1 → 0 < w → v ≤ w / 2 → ((b : ℕ) → n < 2 ^ b → (k : ℕ) × (s + k ≡ t + b) × (w < 2 ^ k)) → (b : ℕ) → n < 2 ^ b → (k : ℕ) × (more + k ≡ t + b) × (v < 2 ^ k)
probed n s more t w v e a l f b h =
    let r = f b h in
    let d = halved w r.0 a r.2 in
    let x = r.1 in
    let y = d.1 in
    let z = d.2 in
    (d.0, omega arith, omega arith)
