-- What is known of an answer that is there, or isn't.
use Rattle.std.proofs.Common.{◌≡◌, ◌↔◌, Bool, true, false, Option, None, Some, subst}
use Rattle.std.specs.Prelude.{IsTrue}
use Rattle.document_tags.specs.OneChild.{IsOnly}

pub only_some : {X : Type 0} (P : X → Type 0) (o : Option X) (x : X) → o ≡ Some x → IsOnly P o → P x
only_some {X} P o x is only = subst (λ (q : Option X). IsOnly P q) is only

pub only_none : {X : Type 0} (P : X → Type 0) (o : Option X) → o ≡ None → IsOnly P o → (x : X) → P x → ⊥
only_none {X} P o is only = subst (λ (q : Option X). IsOnly P q) is only

-- a test that says no
pub refused : (b : Bool) (P : Type 0) → (IsTrue b ↔ P) → b ≡ false → P → ⊥
refused b P iff e p = let h : b ≡ true = iff.1 p in cc
