-- Of checks in a row, the first that fails is one, and so is its reason.
use Rattle.std.proofs.Common.{◌≡◌, ◌∙◌, ◌⊎◌, inl, inr, ℕ, ◌<◌, sym, subst}
use Rattle.std.proofs.lemmas.Bool.{cases_order}

-- the first place at which it doesn't hold
pub record IsFirstNot (Holds : ℕ → Type 0) (k : ℕ) : Type 0 where
  pub below : (j : ℕ) → j < k → Holds j
  pub fails : Holds k → ⊥

in_order : (Holds : ℕ → Type 0) (i j : ℕ) → IsFirstNot Holds i → IsFirstNot Holds j → (i ≡ j) ⊎ ((i < j) ⊎ (j < i)) → i ≡ j
in_order Holds i j a b (inl e) = e
in_order Holds i j a b (inr (inl h)) = absurd (a.fails (b.below i h))
in_order Holds i j a b (inr (inr h)) = absurd (b.fails (a.below j h))

pub first_once : (Holds : ℕ → Type 0) (i j : ℕ) → IsFirstNot Holds i → IsFirstNot Holds j → i ≡ j
first_once Holds i j a b = in_order Holds i j a b (cases_order i j)

-- a check that fails with one of these reasons, or holds and leads to the next
abbrev pub Staged : {R : Type 0} (Holds : Type 0) (Fails Next : R → Type 0) → R → Type 0
Staged Holds Fails Next r = ((Holds → ⊥) × Fails r) ⊎ (Holds × Next r)

pub stage_once : {R : Type 0} (Holds : Type 0) (Fails Next : R → Type 0) (r s : R) → (Fails r → Fails s → r ≡ s) → (Next r → Next s → r ≡ s) → Staged Holds Fails Next r → Staged Holds Fails Next s → r ≡ s
stage_once Holds Fails Next r s fails next (inl h) (inl k) = fails h.1 k.1
stage_once Holds Fails Next r s fails next (inr h) (inr k) = next h.1 k.1
stage_once Holds Fails Next r s fails next (inl h) (inr k) = absurd (h.0 k.0)
stage_once Holds Fails Next r s fails next (inr h) (inl k) = absurd (k.0 h.0)

-- what is refused doesn't hold, so the one or the other does
apart : {R : Type 0} (Holds : Type 0) (Fails Next : R → Type 0) (r : R) → (Holds → Fails r → ⊥) → Fails r ⊎ (Holds × Next r) → Staged Holds Fails Next r
apart Holds Fails Next r not (inl h) = inl (λ holds. not holds h, h)
apart Holds Fails Next r not (inr h) = inr h

pub node_once : {R : Type 0} (Holds : Type 0) (Fails Next : R → Type 0) (r s : R) → ((q : R) → Holds → Fails q → ⊥) → (Fails r → Fails s → r ≡ s) → (Next r → Next s → r ≡ s) → Fails r ⊎ (Holds × Next r) → Fails s ⊎ (Holds × Next s) → r ≡ s
node_once Holds Fails Next r s not fails next h k = stage_once Holds Fails Next r s fails next (apart Holds Fails Next r (not r) h) (apart Holds Fails Next s (not s) k)

-- two checks, each with its reason
abbrev pub Twofold : {R : Type 0} (First Second : Type 0) (a b : R) → R → Type 0
Twofold First Second a b r = ((First → ⊥) × (r ≡ a)) ⊎ (First × (Second → ⊥) × (r ≡ b))

pub twofold_once : {R : Type 0} (First Second : Type 0) (a b r s : R) → Twofold First Second a b r → Twofold First Second a b s → r ≡ s
twofold_once First Second a b r s (inl h) (inl k) = h.1 ∙ sym k.1
twofold_once First Second a b r s (inr h) (inr k) = h.2 ∙ sym k.2
twofold_once First Second a b r s (inl h) (inr k) = absurd (h.0 k.0)
twofold_once First Second a b r s (inr h) (inl k) = absurd (k.0 h.0)

-- the same at the first place at which one of them fails
abbrev pub AtFirst : {R : Type 0} (Fits Holds : ℕ → Type 0) (wide : R) (told : ℕ → R) → R → Type 0
AtFirst Fits Holds wide told r = (i : ℕ) × IsFirstNot (λ (j : ℕ). Fits j × Holds j) i × Twofold (Fits i) (Holds i) wide (told i) r

pub place_once : {R : Type 0} (Fits Holds : ℕ → Type 0) (wide : R) (told : ℕ → R) (r s : R) → AtFirst Fits Holds wide told r → AtFirst Fits Holds wide told s → r ≡ s
place_once Fits Holds wide told r s (i, a, h) (j, b, k) =
    let same : i ≡ j = first_once (λ (n : ℕ). Fits n × Holds n) i j a b in
    twofold_once (Fits j) (Holds j) wide (told j) r s (subst (λ (n : ℕ). Twofold (Fits n) (Holds n) wide (told n) r) same h) k
