-- One look of a watch around another one.
use Rattle.std.proofs.Common.{◌≡◌, ℕ, ◌+◌, Bool, true, false, Option, None, Some, List, [], ◌∷◌, refl, sym, subst, add-zero}
use Rattle.fraction.specs.declared.frac.Frac.{Frac}
use Rattle.stop_reasons.specs.Reasons.{CameUntil}
use Rattle.stop_reasons.specs.declared.until.Reason.TheVariants.{Killed, Time}

-- the watch inside said to stop
pub one_kill : (Came : List Bool → Type 0) (limit : Option Frac) (times : ℕ) → Came (true ∷ []) → CameUntil Came limit times times (true ∷ [])
one_kill Came limit times came = record { told = Some Killed ∷ []; are = refl; came = came; counted = sym (add-zero times); limited = λ none. refl }

-- it went on, and the time was over, or wasn't
pub one_reading : (Came : List Bool → Type 0) (limit : Option Frac) (times after : ℕ) (over : Bool) → (limit ≡ None → over ≡ false) → (over ≡ true → after ≡ times + 1) → (over ≡ false → after ≡ times) → Came (false ∷ []) → CameUntil Came limit times after (over ∷ [])
one_reading Came limit times after true only more same came = record { told = Some Time ∷ []; are = refl; came = came; counted = more refl; limited = λ none. let x : true ≡ false = only none in absurd (cc) }
one_reading Came limit times after false only more same came = record { told = None ∷ []; are = refl; came = came; counted = subst (λ n. after ≡ n) (sym (add-zero times)) (same refl); limited = λ none. refl }
