-- Bytes that are taken piece by piece.
use Rattle.std.specs.Prelude.{◌≡◌, ℕ, List, [], ◌++◌, false}
use Rattle.std.proofs.Common.{sym, subst, append_assoc, append-nil}
use Rattle.os_io.specs.declared.mem_body.MemBody.{MemBody}

-- the new one has these bytes behind all that the old one had. What it is to have bytes is given
abbrev pub TakesBehind : {A : Type 0} → (A → List ℕ → Type 0) → A → A → List ℕ → Type 0
TakesBehind Has old new bytes = (before : List ℕ) → Has old before → Has new (before ++ bytes)

-- without a byte it stays
pub behind_none : {A : Type 0} (Has : A → List ℕ → Type 0) (a : A) → TakesBehind Has a a []
behind_none Has a before has = subst (Has a) (sym (append-nil before)) has

-- bytes behind bytes are both
pub behind_both : {A : Type 0} (Has : A → List ℕ → Type 0) (a b c : A) (first second : List ℕ) → TakesBehind Has a b first
    → TakesBehind Has b c second → TakesBehind Has a c (first ++ second)
behind_both Has a b c first second p q before has = subst (Has c) (append_assoc before first second) (q (before ++ first) (p before has))

-- these bytes came and were kept, unless there was no memory for one of them
abbrev pub HasKept : MemBody → List ℕ → Type 0
HasKept b bytes = b.wanted ≡ false → b.text ≡ bytes
