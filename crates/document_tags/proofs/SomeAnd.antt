-- What is known of a value that may not be there, if it is known of each that is.
use Rattle.std.proofs.Common.{◌≡◌, Option, None, Some}
use Rattle.std.specs.Prelude.{IsSomeAnd}

module _ {A X : Type 0} (P : A → X → Type 0) where
  pub some_once : ((a : A) (x y : X) → P a x → P a y → x ≡ y) → (o : Option A) (x y : X) → IsSomeAnd o (λ a. P a x) → IsSomeAnd o (λ a. P a y) → x ≡ y
  some_once once None x y h k = absurd h
  some_once once (Some a) x y h k = once a x y h k

  pub some_apart : {Y : Type 0} (Q : A → Y → Type 0) → ((a : A) (x : X) (y : Y) → P a x → Q a y → ⊥) → (o : Option A) (x : X) (y : Y) → IsSomeAnd o (λ a. P a x) → IsSomeAnd o (λ a. Q a y) → ⊥
  some_apart Q apart None x y h k = h
  some_apart Q apart (Some a) x y h k = apart a x y h k
