-- One look at whether there is a file.
use Rattle.std.proofs.Common.{◌≡◌, ℕ, ◌+◌, Bool, true, false, [], ◌∷◌, refl, sym, subst, add-zero}
use Rattle.os_io.specs.Files.{Held, MayBeThere}
use Rattle.os_io.specs.Halts.{CameHalted}

pub one_halt : (held : Held) (stops after : ℕ) (there : Bool) → (there ≡ true → MayBeThere held) → (there ≡ true → after ≡ stops + 1) → (there ≡ false → after ≡ stops) → CameHalted held stops after (there ∷ [])
one_halt held stops after true seen more same = record { counted = more refl; seen = λ none. absurd (seen refl none) }
one_halt held stops after false seen more same = record { counted = subst (λ n. after ≡ n) (sym (add-zero stops)) (same refl); seen = λ none. refl }
