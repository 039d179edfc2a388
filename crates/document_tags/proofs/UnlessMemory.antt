-- A fault is want of memory, or says something: what follows where that is said once, and where it isn't so.
use Rattle.std.proofs.Common.{◌≡◌, ◌≢◌, ◌⊎◌, inl, inr, Result, Ok, Err, ap}
use Rattle.std.specs.Prelude.{IfOk, IfErr}

module _ {F : Type 0} (memory : F) (Says : F → Type 0) where
  -- but for want of memory there is one fault
  pub fault_once : ((f g : F) → Says f → Says g → f ≡ g) → (f g : F) → f ≢ memory → g ≢ memory → (f ≡ memory) ⊎ Says f → (g ≡ memory) ⊎ Says g → f ≡ g
  fault_once once f g other another (inl h) k = absurd (other h)
  fault_once once f g other another (inr h) (inl k) = absurd (another k)
  fault_once once f g other another (inr h) (inr k) = once f g h k

  -- there was no memory
  pub only_memory : (f : F) → (Says f → ⊥) → (f ≡ memory) ⊎ Says f → f ≡ memory
  only_memory f none (inl h) = h
  only_memory f none (inr h) = absurd (none h)

-- what is so of one value alone, and of no fault but want of memory, is answered by that value
pub answered : {X F : Type 0} (memory : F) (Is : X → Type 0) (Fails : F → Type 0) → ((x y : X) → Is x → Is y → x ≡ y) → ((f : F) → Fails f → f ≡ memory) → (x : X) (r : Result X F) → Is x → IfOk r Is → IfErr r Fails → r ≢ Err memory → r ≡ Ok x
answered {X} memory Is Fails once none x (Ok y) is ok err other = ap (λ (z : X). Ok z) (once y x ok is)
answered {X} {F} memory Is Fails once none x (Err f) is ok err other = absurd (other (ap (λ (g : F). Err g) (none f err)))
