-- Texts that have a byte, and texts that lack it.
use Rattle.std.proofs.Common.{◌≡◌, ◌∙◌, ◌<◌, ℕ, Bool, true, false, cond, not, List, [], ◌∷◌, ◌++◌, length, get_or, ◌+◌, arith, ap, refl, sym, subst, suc, zero}
use Rattle.std.specs.Prelude.{◌==◌, ◌||◌}
use Rattle.std.specs.List.{after_first, before_first, list_any, position_or_len}
use Rattle.std.proofs.lemmas.Bool.{eq-eqb, eqb-true}
use Rattle.std.proofs.lemmas.List.Sums.{passes_at_first, split_at_first}
use Rattle.clap.proofs.CutLemmas.{Lacks}

abbrev IsTrue : Bool → Type 0
IsTrue true = Unit {0}
IsTrue false = ⊥

pub true_or_false : true ≡ false → ⊥
true_or_false e = subst IsTrue e tt

-- the byte is this one
abbrev is_byte : ℕ → ℕ → Bool
is_byte c x = x == c

pub lacks : (c : ℕ) (text : List ℕ) → list_any (is_byte c) text ≡ false → Lacks c text
lacks c (x ∷ text) none i within = go (x == c) refl (lacks c text) none i within
  where
    go : (b : Bool) → (x == c) ≡ b → (list_any (is_byte c) text ≡ false → Lacks c text) → (b || list_any (is_byte c) text) ≡ false → (i : ℕ) → i < length (x ∷ text) → get_or (x ∷ text) i 0 ≡ c → ⊥
    go true is rest none i within same = absurd (true_or_false none)
    go false is rest none zero within same = absurd (true_or_false (sym (eq-eqb x c same) ∙ is))
    go false is rest none (suc i) within same = rest none i (omega (arith, within)) same
lacks c [] none i within = absurd (omega (arith, within))

any_within : (c : ℕ) (text : List ℕ) → list_any (is_byte c) text ≡ true → position_or_len (is_byte c) text < length text
any_within c [] has = absurd (true_or_false (sym has))
any_within c (x ∷ text) has = go (x == c) (any_within c text) has
  where
    go : (b : Bool) → (list_any (is_byte c) text ≡ true → position_or_len (is_byte c) text < length text) → (b || list_any (is_byte c) text) ≡ true → cond (not b) (1 + position_or_len (is_byte c) text) 0 < length (x ∷ text)
    go true rest has = omega arith
    go false rest has = omega (arith, rest has)

-- a text that has the byte is what stands before the first one, the byte, and what stands behind it
pub split_at_byte : (c : ℕ) (text : List ℕ) → list_any (is_byte c) text ≡ true → text ≡ before_first (is_byte c) text ++ (c ∷ after_first (is_byte c) text)
split_at_byte c text has =
    let within = any_within c text has in
    split_at_first (is_byte c) text 0 within ∙ ap (λ (x : ℕ). before_first (is_byte c) text ++ (x ∷ after_first (is_byte c) text)) (eqb-true _ c (passes_at_first (is_byte c) text 0 within))
